-- The names that were written read back from their strings.
use Rattle.std.proofs.Common.{◌≡◌, ℕ, ◌+◌, ◌-◌, ◌<◌, ◌≤◌, true, false, eqb, ltb, leb, List, [], ◌∷◌, ◌++◌, length, get_or, take, drop, map, Some, Ok, refl, ap, ◌∙◌, subst, arith, length-append, append_assoc}
use Rattle.std.specs.Prelude.{All, flat_map, Contains, bytes_eq}
use Rattle.std.specs.List.{position_or_len}
use Rattle.std.proofs.lemmas.Bool.{lt-ltb, le-leb}
use Rattle.std.proofs.lemmas.List.{take-append-le, take_all, get_or-map, length-map}
use Rattle.std.proofs.lemmas.List.Elements.{All-tail}
use Rattle.std.proofs.lemmas.Slice.Eq.{bytes_eq-Decides}
use Rattle.ix_base.specs.Reading.{before_zero}
use Rattle.index_model.specs.Layout.{ended, start_of, nth}
use Rattle.index_model.specs.Ordered.{place_of}
use Rattle.index_model.specs.NameIndex.{string_offset}
use Rattle.index_model.specs.NameTables.{Tables}
use Rattle.index_model.specs.NameIndexRead.{string_of}
use Rattle.index_alike.proofs.NamesOrder.{StandsAt, place_stands}
use Rattle.index_alike.proofs.NamesEntries.{BeginsAt, begins_at}

-- no byte of the text is zero
abbrev pub HasNoZero : List ℕ → Type 0
HasNoZero text = All (λ b. eqb b 0 ≡ false) text

first_zero : (text rest : List ℕ) → HasNoZero text → position_or_len (λ b. eqb b 0) (text ++ 0 ∷ rest) ≡ length text
first_zero [] rest none = refl
first_zero (b ∷ text) rest none =
    let here : eqb b 0 ≡ false = none 0 b (omega arith) in
    let more = first_zero text rest (All-tail (λ b. eqb b 0 ≡ false) b text none) in
    rw here (omega (arith, more))

-- a text that ends with a zero
pub text_is : (text rest : List ℕ) → HasNoZero text → before_zero (text ++ 0 ∷ rest) ≡ Some text
text_is text rest none =
    let first = first_zero text rest none in
    let within : ltb (length text) (length (text ++ 0 ∷ rest)) ≡ true = lt-ltb _ _ (omega (arith, length-append text (0 ∷ rest))) in
    let own : take (length text) (text ++ 0 ∷ rest) ≡ text = take-append-le (length text) text (0 ∷ rest) (omega arith) ∙ take_all (length text) text (omega arith) in
    rw (first, within, own) refl

string_steps : (t : Tables) (strings : List ℕ) (base k start : ℕ) (text : List ℕ) → nth t.strings.numbers k ≡ base + start → start ≤ length strings → before_zero (drop start strings) ≡ Some text → string_of t strings base k ≡ Ok text
unfolding string_of
string_steps t strings base k start text is within read =
    let low : leb base (base + start) ≡ true = le-leb base (base + start) (omega arith) in
    let minus : base + start - base ≡ start = omega arith in
    rw (is, low, minus, le-leb start (length strings) within, read) refl

flat_ended : (strings : List (List ℕ)) → flat_map ended strings ≡ flat_map (λ g. g) (map ended strings)
flat_ended [] = refl
flat_ended (s ∷ strings) = ap (λ (w : List ℕ). ended s ++ w) (flat_ended strings)

-- the string at the offset of a name is the name
pub string_is : (t : Tables) (strings : List (List ℕ)) (base k : ℕ) (name : List ℕ) → nth t.strings.numbers k ≡ string_offset base strings name → Contains strings name → HasNoZero name → string_of t (flat_map ended strings) base k ≡ Ok name
string_is t strings base k name is c none =
    let s : StandsAt strings (place_of bytes_eq name strings) name = place_stands bytes_eq (λ x y e. (bytes_eq-Decides x y).0 e) (λ x. (bytes_eq-Decides x x).1 refl) name strings c in
    at (place_of bytes_eq name strings) s is
  where
    at : (p : ℕ) → StandsAt strings p name → nth t.strings.numbers k ≡ base + start_of (map ended strings) p → string_of t (flat_map ended strings) base k ≡ Ok name
    at p s is =
        let long : length (map ended strings) ≡ length strings = length-map strings ended in
        let within : p < length (map ended strings) = omega (arith, s.within, long) in
        let item : get_or (map ended strings) p (ended name) ≡ ended name = get_or-map ended strings p name (ended name) s.within ∙ ap ended s.is in
        let b : BeginsAt (map ended strings) p (ended name) = subst (BeginsAt (map ended strings) p) item (begins_at (map ended strings) p (ended name) within) in
        let whole : List ℕ = flat_map ended strings in
        let flat : whole ≡ flat_map (λ g. g) (map ended strings) = flat_ended strings in
        let start : ℕ = start_of (map ended strings) p in
        let read : drop start whole ≡ name ++ 0 ∷ b.rest = ap (drop start) flat ∙ b.is ∙ append_assoc name (0 ∷ []) b.rest in
        let low : start ≤ length whole = omega (arith, b.place, ap (λ (w : List ℕ). length w) flat) in
        string_steps t whole base k start name is low (ap before_zero read ∙ text_is name b.rest none)
