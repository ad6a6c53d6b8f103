-- Plain names come back: nothing of them is taken for a mark.
use Rattle.std.proofs.Common.{◌≡◌, ℕ, zero, suc, ◌+◌, ◌-◌, ◌<◌, ◌∙◌, eqb, ltb, List, [], ◌∷◌, ◌++◌, length, take, drop, refl, ap, sym, subst, arith, append_assoc, lit<}
use Rattle.std.specs.Prelude.{Bool, true, false, ◌||◌, Option, Some, None, option_map, codes}
use Rattle.std.specs.List.{list_all, flat_map, suffix_len}
use Rattle.std.proofs.lemmas.Bool.{false≢true, both_ways, and_parts, and_from, or_left, false_from_ne_true, lt-ltb, le-ltb, ne_eqb}
use Rattle.std.proofs.lemmas.Bool.Decides.{nat_tests}
use Rattle.std.proofs.lemmas.List.{append-nil, drop-drop, take_all, get_or_at, reverse-append, length_push}
use Rattle.std.proofs.lemmas.List.Folds.{list_all-append}
use lib.Pointwise.{pointwise, bytes_decides}
use Rattle.ada_spelling.specs.declared.parts.NamePart.TheVariants.{Ends, Gives}
use Rattle.ada_spelling.specs.Bytes.{is_lower, is_line, is_digit, last_byte, begins_with, has_end, without_end, before_letters, before_digits}
use Rattle.ada_spelling.specs.Affixes.{without_prefixes, is_refused, before_suffix, suffix_in_brackets, has_suffix}
use Rattle.ada_spelling.specs.Ends.{place_from, place_of, without_digits, without_mark, without_bodies, without_numbers, without_ends}
use Rattle.ada_spelling.specs.Marks.{task_length, block_length, entry_length, protected_length, behind_marks}
use Rattle.ada_spelling.specs.Parts.{part_at, parts_from, parts_of}
use Rattle.ada_spelling.specs.AdaNames.{encoded, decoded}
use Rattle.ada_spelling.specs.PlainNames.{is_plain_part, PlainNamesComeBack}
use Rattle.ada_spelling.proofs.EndLaws.{later, nowhere}
use Rattle.ada_spelling.proofs.EncodingLaws.{by_byte, of_nothing}

-- ---- bytes

abbrev is_plain : ℕ → Bool
is_plain b = is_lower b || is_line b

lower_apart : (b k : ℕ) → is_lower b ≡ true → k < 97 → eqb b k ≡ false
lower_apart b k e h = grind (arith, nat_tests, e)

apart_lower : (b k : ℕ) → is_lower b ≡ true → k < 97 → eqb k b ≡ false
apart_lower b k e h = grind (arith, nat_tests, e)

no_digit : (b : ℕ) → is_lower b ≡ true → is_digit b ≡ false
no_digit b e = grind (arith, nat_tests, e)

plain_lower : (bs : List ℕ) → list_all is_lower bs ≡ true → list_all is_plain bs ≡ true
plain_lower [] e = refl
plain_lower (b ∷ bs) e = let p = and_parts (is_lower b) (list_all is_lower bs) e in and_from (is_plain b) (list_all is_plain bs) (or_left (is_lower b) (is_line b) p.0) (plain_lower bs p.1)

all_drop : (n : ℕ) (bs : List ℕ) → list_all is_plain bs ≡ true → list_all is_plain (drop n bs) ≡ true
all_drop zero bs e = e
all_drop (suc n) [] e = refl
all_drop (suc n) (b ∷ bs) e = all_drop n bs (and_parts (is_plain b) (list_all is_plain bs) e).1

all_take : (n : ℕ) (bs : List ℕ) → list_all is_plain bs ≡ true → list_all is_plain (take n bs) ≡ true
all_take zero bs e = refl
all_take (suc n) [] e = refl
all_take (suc n) (b ∷ bs) e = let p = and_parts (is_plain b) (list_all is_plain bs) e in and_from (is_plain b) (list_all is_plain (take n bs)) p.0 (all_take n bs p.1)

-- a text with another byte doesn't stand among plain ones
apart : (ts ys : List ℕ) → list_all is_plain ys ≡ true → list_all is_plain ts ≡ false → pointwise eqb ts ys ≡ false
apart ts ys h k =
    false_from_ne_true (pointwise eqb ts ys) (λ e. both_ways (list_all is_plain ts) k (subst (λ (l : List ℕ). list_all is_plain l ≡ true) (sym ((bytes_decides ts ys).0 e)) h))

no_front : (ts bs : List ℕ) → list_all is_plain bs ≡ true → list_all is_plain ts ≡ false → begins_with ts bs ≡ false
no_front ts bs h k = apart ts (take (length ts) bs) (all_take (length ts) bs h) k

no_end : (ts bs : List ℕ) → list_all is_plain bs ≡ true → list_all is_plain ts ≡ false → has_end ts bs ≡ false
no_end ts bs h k = apart ts (drop (length bs - length ts) bs) (all_drop (length bs - length ts) bs h) k

-- ---- marks

no_task : (ys : List ℕ) → list_all is_plain ys ≡ true → task_length ys ≡ 0
no_task ys h = rw (no_front (codes "TK__") ys h refl) refl

no_block : (ys : List ℕ) → list_all is_plain ys ≡ true → block_length ys ≡ 0
no_block ys h = rw (no_front (codes "__B_") ys h refl) refl

no_entry : (ys : List ℕ) → list_all is_plain ys ≡ true → entry_length ys ≡ 0
no_entry ys h = rw (no_front (codes "_E") ys h refl) refl

no_protected : (xs ys : List ℕ) → list_all is_plain ys ≡ true → protected_length xs ys ≡ 0
no_protected xs ys h = rw (no_front (codes "N__") ys h refl) refl

no_marks : (name : List ℕ) (at : ℕ) → list_all is_plain name ≡ true → behind_marks name at ≡ at
unfolding behind_marks
no_marks name at h =
    let rest = all_drop at name h in
    let t : at + task_length (drop at name) ≡ at = rw (no_task (drop at name) rest) (omega arith) in
    let b : at + block_length (drop at name) ≡ at = rw (no_block (drop at name) rest) (omega arith) in
    let e : at + entry_length (drop at name) ≡ at = rw (no_entry (drop at name) rest) (omega arith) in
    let p : at + protected_length (take at name) (drop at name) ≡ at = rw (no_protected (take at name) (drop at name) rest) (omega arith) in
    rw (t, b, e, p) refl

-- ---- parts

-- what the others are, with points and with lines
abbrev dots : List (List ℕ) → List ℕ
dots ps = flat_map (λ part. codes "." ++ part) ps

abbrev lines : List (List ℕ) → List ℕ
lines ps = flat_map (λ part. codes "__" ++ part) ps

some_bytes : (n : ℕ) → eqb (suc n) 0 ≡ false
some_bytes n = ne_eqb (suc n) 0 (λ e. omega (arith, e))

part_letter : (name : List ℕ) (at c : ℕ) (rest : List ℕ) → drop at name ≡ c ∷ rest → is_lower c ≡ true → part_at name at ≡ Gives c (at + 1)
unfolding part_at
part_letter name at c rest d l = rw (d, some_bytes (length rest), apart_lower c 88 l (lit< tt), apart_lower c 95 l (lit< tt)) refl

part_lines : (name : List ℕ) (at c : ℕ) (rest : List ℕ) → drop at name ≡ 95 ∷ 95 ∷ c ∷ rest → part_at name at ≡ Gives 46 (at + 2)
unfolding part_at
part_lines name at c rest d =
    let long : ltb 2 (length (95 ∷ 95 ∷ c ∷ rest)) ≡ true = lt-ltb 2 (length (95 ∷ 95 ∷ c ∷ rest)) (omega arith) in
    rw (d, some_bytes (length (95 ∷ c ∷ rest)), long) refl

part_end : (name : List ℕ) (at : ℕ) → drop at name ≡ [] → part_at name at ≡ Ends
unfolding part_at
part_end name at d = rw d refl

behind_byte : (name : List ℕ) (at c : ℕ) (rest : List ℕ) → drop at name ≡ c ∷ rest → drop (at + 1) name ≡ rest
behind_byte name at c rest d = sym (drop-drop 1 at name) ∙ ap (λ (l : List ℕ). drop 1 l) d

behind_lines : (name : List ℕ) (at : ℕ) (rest : List ℕ) → drop at name ≡ 95 ∷ 95 ∷ rest → drop (at + 2) name ≡ rest
behind_lines name at rest d = sym (drop-drop 2 at name) ∙ ap (λ (l : List ℕ). drop 2 l) d

given : (n : ℕ) (name : List ℕ) (at b next : ℕ) → list_all is_plain name ≡ true → part_at name at ≡ Gives b next → parts_from (suc n) name at ≡ option_map (λ bs. b ∷ bs) (parts_from n name next)
unfolding parts_from
given n name at b next h e = rw (no_marks name at h, e) refl

ended : (n : ℕ) (name : List ℕ) (at : ℕ) → list_all is_plain name ≡ true → part_at name at ≡ Ends → parts_from (suc n) name at ≡ Some []
unfolding parts_from
ended n name at h e = rw (no_marks name at h, e) refl

-- from a place on, where these bytes stand, the parts are those
abbrev Reads : List ℕ → List ℕ → List ℕ → Type 0
Reads name bytes out = (n at : ℕ) → length bytes < n → drop at name ≡ bytes → parts_from n name at ≡ Some out

letters : (name tail out : List ℕ) → list_all is_plain name ≡ true → Reads name tail out → (cs : List ℕ) → list_all is_lower cs ≡ true → Reads name (cs ++ tail) (cs ++ out)
letters name tail out h t [] l n at s d = t n at s d
letters name tail out h t (c ∷ cs) l zero at s d = absurd (omega (arith, s))
letters name tail out h t (c ∷ cs) l (suc n) at s d =
    let p = and_parts (is_lower c) (list_all is_lower cs) l in
    given n name at c (at + 1) h (part_letter name at c (cs ++ tail) d p.0)
    ∙ ap (λ (o : Option (List ℕ)). option_map (λ bs. c ∷ bs) o) (letters name tail out h t cs p.1 n (at + 1) (omega (arith, s)) (behind_byte name at c (cs ++ tail) d))

all_lines : (name : List ℕ) → list_all is_plain name ≡ true → (ps : List (List ℕ)) → list_all is_plain_part ps ≡ true → Reads name (lines ps) (dots ps)
all_lines name h [] e zero at s d = absurd (omega (arith, s))
all_lines name h [] e (suc n) at s d = ended n name at h (part_end name at d)
all_lines name h ([] ∷ ps) e n at s d = absurd (false≢true e)
all_lines name h ((c ∷ cs) ∷ ps) e zero at s d = absurd (omega (arith, s))
all_lines name h ((c ∷ cs) ∷ ps) e (suc n) at s d =
    let p = and_parts (is_plain_part (c ∷ cs)) (list_all is_plain_part ps) e in
    given n name at 46 (at + 2) h (part_lines name at c (cs ++ lines ps) d)
    ∙ ap (λ (o : Option (List ℕ)). option_map (λ bs. 46 ∷ bs) o) (letters name (lines ps) (dots ps) h (all_lines name h ps p.1) (c ∷ cs) p.0 n (at + 2) (omega (arith, s)) (behind_lines name at ((c ∷ cs) ++ lines ps) d))

plain_lines : (ps : List (List ℕ)) → list_all is_plain_part ps ≡ true → list_all is_plain (lines ps) ≡ true
plain_lines [] e = refl
plain_lines ([] ∷ ps) e = absurd (false≢true e)
plain_lines ((c ∷ cs) ∷ ps) e =
    let p = and_parts (is_plain_part (c ∷ cs)) (list_all is_plain_part ps) e in
    list_all-append is_plain (c ∷ cs) (lines ps) ∙ and_from (list_all is_plain (c ∷ cs)) (list_all is_plain (lines ps)) (plain_lower (c ∷ cs) p.0) (plain_lines ps p.1)

-- ---- the end

-- a name ends with a letter
abbrev EndsWithLetter : List ℕ → Type 0
EndsWithLetter name = (front : List ℕ) × (z : ℕ) × (is_lower z ≡ true) × (name ≡ front ++ z ∷ [])

last_letter : (c : ℕ) (cs : List ℕ) → list_all is_lower (c ∷ cs) ≡ true → EndsWithLetter (c ∷ cs)
last_letter c [] l = ([], c, (and_parts (is_lower c) true l).0, refl)
last_letter c (d ∷ cs) l =
    let r = last_letter d cs (and_parts (is_lower c) (list_all is_lower (d ∷ cs)) l).1 in
    (c ∷ r.0, r.1, r.2, ap (λ (k : List ℕ). c ∷ k) r.3)

behind_front : (xs ys : List ℕ) → EndsWithLetter ys → EndsWithLetter (xs ++ ys)
behind_front xs ys r = (xs ++ r.0, r.1, r.2, ap (λ (k : List ℕ). xs ++ k) r.3 ∙ sym (append_assoc xs r.0 (r.1 ∷ [])))

last_of_all : (c : ℕ) (cs : List ℕ) (ps : List (List ℕ)) → list_all is_lower (c ∷ cs) ≡ true → list_all is_plain_part ps ≡ true → EndsWithLetter ((c ∷ cs) ++ lines ps)
last_of_all c cs [] l e = rw (append-nil (c ∷ cs)) (last_letter c cs l)
last_of_all c cs ([] ∷ ps) l e = absurd (false≢true e)
last_of_all c cs ((d ∷ ds) ∷ ps) l e =
    let p = and_parts (is_plain_part (d ∷ ds)) (list_all is_plain_part ps) e in
    behind_front (c ∷ cs) (95 ∷ 95 ∷ ((d ∷ ds) ++ lines ps)) (behind_front (95 ∷ 95 ∷ []) ((d ∷ ds) ++ lines ps) (last_of_all d ds ps p.0 p.1))

module _ (name : List ℕ) (h : list_all is_plain name ≡ true) (last : EndsWithLetter name) where
  no_digits_there : suffix_len is_digit name ≡ 0
  no_digits_there = rw (last.3, reverse-append last.0 (last.1 ∷ []), no_digit last.1 last.2) refl

  same_digits : without_digits name ≡ name
  unfolding without_digits
  same_digits =
      let whole : before_digits name ≡ name = rw no_digits_there (take_all (length name - 0) name (omega arith)) in
      rw (whole, le-ltb (length name) (length name) (omega arith)) refl

  same_mark : without_mark name ≡ name
  same_mark = rw (no_end (codes "N") name h refl) refl

  same_bodies : without_bodies name ≡ name
  same_bodies =
      let k : without_end (codes "TKB") name ≡ name = rw (no_end (codes "TKB") name h refl) refl in
      let t : without_end (codes "TB") name ≡ name = rw (no_end (codes "TB") name h refl) refl in
      let b : without_end (codes "B") name ≡ name = rw (no_end (codes "B") name h refl) refl in
      rw (k, t, b) refl

  last_is : last_byte name ≡ last.1
  last_is =
      let long : length name ≡ length last.0 + 1 = ap length last.3 ∙ length_push last.0 last.1 in
      rw last.3 (get_or_at last.0 last.1 [] 0 (length (last.0 ++ last.1 ∷ []) - 1) (omega (arith, length_push last.0 last.1)))

  same_numbers : without_numbers name ≡ name
  unfolding without_numbers
  same_numbers = rw (last_is, no_digit last.1 last.2) refl

  same_ends : place_of (codes "___") name ≡ None → without_ends name ≡ Some name
  unfolding without_ends
  same_ends none = rw (same_digits, same_mark, none, same_bodies, same_numbers) refl

  no_suffix : has_suffix name ≡ false
  no_suffix = rw (no_end (codes ".") (before_letters name) (all_take _ name h) refl) refl

  same_stem : before_suffix name ≡ name
  same_stem = rw no_suffix refl

  no_brackets : suffix_in_brackets name ≡ []
  no_brackets = rw no_suffix refl

-- ---- three lines

no_mark_in_letters : (tail : List ℕ) → ((at : ℕ) → place_from (codes "___") at tail ≡ None) → (cs : List ℕ) → list_all is_lower cs ≡ true → (at : ℕ) → place_from (codes "___") at (cs ++ tail) ≡ None
no_mark_in_letters tail t [] l at = t at
no_mark_in_letters tail t (c ∷ cs) l at =
    let p = and_parts (is_lower c) (list_all is_lower cs) l in
    let other : begins_with (codes "___") (c ∷ (cs ++ tail)) ≡ false = rw (apart_lower c 95 p.0 (lit< tt)) refl in
    later (codes "___") at c (cs ++ tail) other ∙ no_mark_in_letters tail t cs p.1 (at + 1)

no_mark_in_lines : (ps : List (List ℕ)) → list_all is_plain_part ps ≡ true → (at : ℕ) → place_from (codes "___") at (lines ps) ≡ None
no_mark_in_lines [] e at = nowhere (codes "___") at
no_mark_in_lines ([] ∷ ps) e at = absurd (false≢true e)
no_mark_in_lines ((c ∷ cs) ∷ ps) e at =
    let p = and_parts (is_plain_part (c ∷ cs)) (list_all is_plain_part ps) e in
    let l = (and_parts (is_lower c) (list_all is_lower cs) p.0).0 in
    let first : begins_with (codes "___") (95 ∷ 95 ∷ c ∷ (cs ++ lines ps)) ≡ false = rw (apart_lower c 95 l (lit< tt)) refl in
    let second : begins_with (codes "___") (95 ∷ c ∷ (cs ++ lines ps)) ≡ false = rw (apart_lower c 95 l (lit< tt)) refl in
    later (codes "___") at 95 (95 ∷ c ∷ (cs ++ lines ps)) first
    ∙ later (codes "___") (at + 1) 95 (c ∷ (cs ++ lines ps)) second
    ∙ no_mark_in_letters (lines ps) (no_mark_in_lines ps p.1) (c ∷ cs) p.0 (at + 1 + 1)

-- ---- both directions

module _ (c : ℕ) (cs : List ℕ) (ps : List (List ℕ)) (l : list_all is_lower (c ∷ cs) ≡ true) (e : list_all is_plain_part ps ≡ true) where
  abbrev whole : List ℕ
  whole = (c ∷ cs) ++ lines ps

  letter : is_lower c ≡ true
  letter = (and_parts (is_lower c) (list_all is_lower cs) l).0

  plain : list_all is_plain whole ≡ true
  plain = list_all-append is_plain (c ∷ cs) (lines ps) ∙ and_from (list_all is_plain (c ∷ cs)) (list_all is_plain (lines ps)) (plain_lower (c ∷ cs) l) (plain_lines ps e)

  same_prefixes : without_prefixes whole ≡ whole
  same_prefixes = rw (apart_lower c 46 letter (lit< tt), apart_lower c 95 letter (lit< tt), apart_lower c 95 letter (lit< tt)) refl

  not_refused : is_refused whole ≡ false
  not_refused = rw (some_bytes (length (cs ++ lines ps)), apart_lower c 95 letter (lit< tt), apart_lower c 60 letter (lit< tt)) refl

  all_parts : parts_of whole ≡ Some ((c ∷ cs) ++ dots ps)
  unfolding parts_of
  all_parts = rw letter (ap (λ (o : Option (List ℕ)). option_map (λ more. take 0 whole ++ more) o) (letters whole (lines ps) (dots ps) plain (all_lines whole plain ps e) (c ∷ cs) l (length whole + 1) 0 (omega arith) refl))

  come_decoded : decoded whole ≡ Some ((c ∷ cs) ++ dots ps)
  unfolding decoded
  come_decoded =
      let last = last_of_all c cs ps l e in
      let ends = same_ends whole plain last (no_mark_in_letters (lines ps) (no_mark_in_lines ps e) (c ∷ cs) l 0) in
      rw (same_prefixes, not_refused, same_stem whole plain last, ends, all_parts, no_brackets whole plain last) (ap (λ (k : List ℕ). Some k) (append-nil ((c ∷ cs) ++ dots ps)))

-- a text that is encoded as another one is so behind letters too
encoded_letters : (tail out : List ℕ) → encoded tail ≡ out → (cs : List ℕ) → list_all is_lower cs ≡ true → encoded (cs ++ tail) ≡ cs ++ out
encoded_letters tail out t [] l = t
encoded_letters tail out t (c ∷ cs) l =
    let p = and_parts (is_lower c) (list_all is_lower cs) l in
    by_byte c (cs ++ tail) (rw (lower_apart c 91 p.0 (lit< tt)) refl)
    ∙ rw (lower_apart c 46 p.0 (lit< tt)) (ap (λ (k : List ℕ). c ∷ k) (encoded_letters tail out t cs p.1))

encoded_dots : (ps : List (List ℕ)) → list_all is_plain_part ps ≡ true → encoded (dots ps) ≡ lines ps
encoded_dots [] e = of_nothing
encoded_dots ([] ∷ ps) e = absurd (false≢true e)
encoded_dots ((c ∷ cs) ∷ ps) e =
    let p = and_parts (is_plain_part (c ∷ cs)) (list_all is_plain_part ps) e in
    by_byte 46 ((c ∷ cs) ++ dots ps) refl
    ∙ ap (λ (k : List ℕ). 95 ∷ 95 ∷ k) (encoded_letters (dots ps) (lines ps) (encoded_dots ps p.1) (c ∷ cs) p.0)

pub come_back : PlainNamesComeBack
come_back [] others e f = absurd (false≢true e)
come_back (c ∷ cs) others e f = (come_decoded c cs others e f, encoded_letters (dots others) (lines others) (encoded_dots others f) (c ∷ cs) e)
