-- Where strings begin, and whether one is a name.
use Rattle.std.proofs.Common.{◌≡◌, ℕ, suc, ◌+◌, ◌-◌, ◌<◌, ◌≤◌, min, Bool, true, false, cond, eqb, ltb, leb, List, [], ◌∷◌, ◌++◌, length, take, drop, get_or, Option, Some, None, inl, inr, refl, ap, sym, ◌∙◌, arith}
use Rattle.std.specs.Prelude.{is_some, slice_index, bytes_eq}
use Rattle.std.specs.List.{position_or_len}
use Rattle.std.proofs.lemmas.Bool.{cases_lt, lt-ltb, le-ltb, le-leb, leb-true, eqb-true, eq-eqb}
use Rattle.std.proofs.lemmas.List.{length-take, length-drop, get_or-take, get_or-drop, take-append-drop}
use Rattle.std.proofs.lemmas.List.Sums.{fails_before_first, passes_at_first}
use Rattle.std.proofs.lemmas.Slice.Eq.{bytes_eq-Decides}
use Rattle.index_model.proofs.GrownTexts.{before_stays}
use Rattle.ix_base.specs.Reading.{before_zero}
use Rattle.string_ends.specs.Texts.{text_in, IsLastEnd}

abbrev is_zero : ℕ → Bool
is_zero b = eqb b 0

-- the first zero, or the length
abbrev first : List ℕ → ℕ
first bs = position_or_len is_zero bs

ended : (bs : List ℕ) → first bs < length bs → before_zero bs ≡ Some (take (first bs) bs)
ended bs lt = rw (lt-ltb (first bs) (length bs) lt) refl

unended : (bs : List ℕ) → length bs ≤ first bs → before_zero bs ≡ None
unended bs le = rw (le-ltb (first bs) (length bs) le) refl

-- the first zero stands no later than any
no_later : (bs : List ℕ) (k : ℕ) → slice_index bs k ≡ 0 → first bs ≤ k
no_later bs k e = elim (cases_lt k (first bs)) as (λ _. first bs ≤ k) [
  | inl lt ↦
      let fails : eqb (get_or bs k 0) 0 ≡ false = fails_before_first is_zero bs k 0 lt in
      let passes : eqb (get_or bs k 0) 0 ≡ true = eq-eqb (get_or bs k 0) 0 e in
      absurd (cc)
  | inr le ↦ le
]

-- a string that ends
record Ends (bs text : List ℕ) : Type 0 where
  within : first bs < length bs
  is : take (first bs) bs ≡ text

ends : (bs text : List ℕ) → before_zero bs ≡ Some text → Ends bs text
ends bs text e = elim (cases_lt (first bs) (length bs)) as (λ _. Ends bs text) [
  | inl lt ↦ let both : Some (take (first bs) bs) ≡ Some text = sym (ended bs lt) ∙ e in record { within = lt; is = cc }
  | inr le ↦ let both : None ≡ Some text = sym (unended bs le) ∙ e in absurd (cc)
]

-- ---- the first byte

here : (b : ℕ) (bs : List ℕ) → eqb b 0 ≡ true → first (b ∷ bs) ≡ 0
here b bs e = rw e refl

later : (b : ℕ) (bs : List ℕ) → eqb b 0 ≡ false → first (b ∷ bs) ≡ first bs + 1
later b bs e = rw e (omega arith)

pub zero_first : (b : ℕ) (bs : List ℕ) → eqb b 0 ≡ true → before_zero (b ∷ bs) ≡ Some []
zero_first b bs e = ended (b ∷ bs) (omega (arith, here b bs e)) ∙ ap (λ (n : ℕ). Some (take n (b ∷ bs))) (here b bs e)

pub byte_first : (b : ℕ) (bs text : List ℕ) → eqb b 0 ≡ false → before_zero bs ≡ Some text → before_zero (b ∷ bs) ≡ Some (b ∷ text)
byte_first b bs text e is =
    let s = ends bs text is in
    ended (b ∷ bs) (omega (arith, later b bs e, s.within)) ∙ ap (λ (n : ℕ). Some (take n (b ∷ bs))) (later b bs e ∙ next) ∙ ap (λ (xs : List ℕ). Some (b ∷ xs)) s.is
  where
    next : first bs + 1 ≡ suc (first bs)
    next = omega arith

-- ---- the front of a string

at_front : (bs : List ℕ) → text_in bs 0 ≡ before_zero bs
at_front bs = rw (le-leb 0 (length bs) (omega arith)) refl

-- what ends in the front is the string
pub front_is : (m : ℕ) (rest text s : List ℕ) → before_zero rest ≡ Some text → text_in (take m rest) 0 ≡ Some s → s ≡ text
front_is m rest text s e f =
    let whole : before_zero (take m rest ++ drop m rest) ≡ Some s = before_stays (drop m rest) (take m rest) s (sym (at_front (take m rest)) ∙ f) in
    let there : Some s ≡ Some text = sym whole ∙ ap before_zero (take-append-drop m rest) ∙ e in
    cc

-- what ends in the front ends
pub no_front : (m : ℕ) (rest s : List ℕ) → before_zero rest ≡ None → text_in (take m rest) 0 ≡ Some s → ⊥
no_front m rest s e f =
    let whole : before_zero (take m rest ++ drop m rest) ≡ Some s = before_stays (drop m rest) (take m rest) s (sym (at_front (take m rest)) ∙ f) in
    let clash : None ≡ Some s = sym e ∙ sym (ap before_zero (take-append-drop m rest)) ∙ whole in
    absurd (cc)

-- a string that has no end there is longer than the name
pub front_isnt : (m : ℕ) (rest text name : List ℕ) → m ≡ min (length rest) (length name + 1) → before_zero rest ≡ Some text → text_in (take m rest) 0 ≡ None → bytes_eq text name ≡ false
front_isnt m rest text name most e f = by (bytes_eq text name) refl
  where
    at_first : first rest < length rest → slice_index rest (first rest) ≡ 0
    at_first lt = eqb-true (get_or rest (first rest) 0) 0 (passes_at_first is_zero rest 0 lt)

    long : (k : ℕ) → k < m → slice_index rest k ≡ 0 → ⊥
    long k lt there =
        let front : List ℕ = take m rest in
        let size : length front ≡ min m (length rest) = length-take m rest in
        let zero : slice_index front k ≡ 0 = get_or-take m rest k 0 lt ∙ there in
        let before : first front ≤ k = no_later front k zero in
        let clash : Some (take (first front) front) ≡ None = sym (ended front (omega (arith, before, size, lt, most))) ∙ sym (at_front front) ∙ f in
        cc

    by : (b : Bool) → bytes_eq text name ≡ b → b ≡ false
    by false is = refl
    by true is =
        let s = ends rest text e in
        let same : text ≡ name = (bytes_eq-Decides text name).0 is in
        let size : length (take (first rest) rest) ≡ length name = ap length (s.is ∙ same) in
        absurd (long (first rest) (omega (arith, size, length-take (first rest) rest, s.within, most)) (at_first s.within))

-- ---- the last end

abbrev from : Bool → List ℕ → Option (List ℕ)
from b bs = cond b (before_zero bs) None

-- a string begins before the last end
pub begins_inside : (strings : List ℕ) (end offset : ℕ) → IsLastEnd strings end → offset < end → is_some (text_in strings offset) ≡ true
begins_inside strings end offset h lt =
    let bs : List ℕ = drop offset strings in
    let last : ℕ = end - 1 - offset in
    let place : offset + last ≡ end - 1 = omega (arith, lt) in
    let zero : slice_index bs last ≡ 0 = get_or-drop offset strings last 0 ∙ ap (slice_index strings) place ∙ h.zero (omega (arith, lt)) in
    let inside : first bs < length bs = omega (arith, no_later bs last zero, length-drop offset strings, h.within, lt) in
    ap (λ (b : Bool). is_some (from b bs)) (le-leb offset (length strings) (omega (arith, h.within, lt))) ∙ ap is_some (ended bs inside)

-- and nowhere behind it
pub begins_behind : (strings : List ℕ) (end offset : ℕ) → IsLastEnd strings end → end ≤ offset → text_in strings offset ≡ None
begins_behind strings end offset h le =
    elim (cases_lt (first (drop offset strings)) (length (drop offset strings))) as (λ _. text_in strings offset ≡ None) [
      | inl lt ↦
          let bs : List ℕ = drop offset strings in
          let zero : slice_index bs (first bs) ≡ 0 = eqb-true (get_or bs (first bs) 0) 0 (passes_at_first is_zero bs 0 lt) in
          let there : slice_index strings (offset + first bs) ≡ 0 = sym (get_or-drop offset strings (first bs) 0) ∙ zero in
          absurd (h.none (offset + first bs) (omega (arith, le)) (omega (arith, lt, length-drop offset strings)) there)
      | inr past ↦ none (leb offset (length strings)) past
    ]
  where
    none : (b : Bool) → length (drop offset strings) ≤ first (drop offset strings) → from b (drop offset strings) ≡ None
    none true past = unended (drop offset strings) past
    none false past = refl

pub begins_is : (strings : List ℕ) (end offset : ℕ) → IsLastEnd strings end → ltb offset end ≡ is_some (text_in strings offset)
begins_is strings end offset h = elim (cases_lt offset end) as (λ _. ltb offset end ≡ is_some (text_in strings offset)) [
  | inl lt ↦ lt-ltb offset end lt ∙ sym (begins_inside strings end offset h lt)
  | inr le ↦ le-ltb offset end le ∙ sym (ap is_some (begins_behind strings end offset h le))
]

-- the strings from an offset on begin with its string
pub text_from : (strings text : List ℕ) (offset : ℕ) → text_in strings offset ≡ Some text → before_zero (drop offset strings) ≡ Some text
text_from strings text offset e = by (leb offset (length strings)) e
  where
    by : (b : Bool) → from b (drop offset strings) ≡ Some text → before_zero (drop offset strings) ≡ Some text
    by true e = e
    by false e = absurd (cc)

pub text_inside : (strings text : List ℕ) (offset : ℕ) → text_in strings offset ≡ Some text → offset ≤ length strings
text_inside strings text offset e = by (leb offset (length strings)) refl e
  where
    by : (b : Bool) → leb offset (length strings) ≡ b → from b (drop offset strings) ≡ Some text → offset ≤ length strings
    by true is e = leb-true offset (length strings) is
    by false is e = absurd (cc)

-- ---- whether there is a string

pub no_text_here : (o : Option (List ℕ)) → is_some o ≡ false → o ≡ None
no_text_here None e = refl
no_text_here (Some s) e = absurd (cc)

pub some_text_here : (o : Option (List ℕ)) → is_some o ≡ true → (s : List ℕ) × (o ≡ Some s)
some_text_here None e = absurd (cc)
some_text_here (Some s) e = (s, refl)
