-- Where the generated units lie in `.debug_info`.
use Rattle.std.proofs.Common.{◌≡◌, ℕ, zero, suc, ◌+◌, ◌*◌, ◌/◌, ◌%◌, ◌<◌, Bool, true, false, cond, eqb, List, [], ◌∷◌, ◌++◌, length, refl, ap, ◌∙◌, arith, zero-add}
use Rattle.std.specs.List.{range_with_len, sum_by}
use Rattle.std.proofs.lemmas.Bool.{eq-eqb, ne_eqb, eqb-true, eqb-false}
use Rattle.std.proofs.lemmas.List.Sums.{sum_by-append}
use Rattle.index_model.specs.Layout.{below}
use Rattle.elf_make.specs.PlainForm.{unit_bytes}
use Rattle.elf_make.specs.Generated.{low_of, c_unit, cpp_unit, unit_shape, abbreviations, unit_start, declaration_in}
use Rattle.elf_make.proofs.Encodings.{c_unit_length, cpp_unit_length, before_declaration, length_header}

-- one number more
range_more : (a n : ℕ) → range_with_len a (suc n) ≡ range_with_len a n ++ (a + n) ∷ []
range_more a zero = ap (λ n. n ∷ []) (omega arith)
range_more a (suc n) =
    let end : a + 1 + n ≡ a + suc n = omega arith in
    ap (λ ns. a ∷ ns) (range_more (a + 1) n ∙ ap (λ m. range_with_len (a + 1) n ++ m ∷ []) end)

pub below_more : (n : ℕ) → below (suc n) ≡ below n ++ n ∷ []
below_more n = range_more 0 n ∙ ap (λ m. below n ++ m ∷ []) (zero-add n)

-- ---- the length of a unit

pub even_shape : (seed i declared : ℕ) → i % 2 ≡ 0 → unit_shape seed i declared ≡ c_unit (low_of seed i) i
unfolding unit_shape
even_shape seed i declared e = rw (eq-eqb (i % 2) 0 e) refl

pub odd_shape : (seed i declared : ℕ) → i % 2 ≡ 1 → unit_shape seed i declared ≡ cpp_unit (low_of seed i) i declared
unfolding unit_shape
odd_shape seed i declared e = rw e refl

-- how long a unit is
abbrev unit_length : ℕ → ℕ → ℕ
unit_length seed i = length (unit_bytes (abbreviations 0 2) (unit_shape seed i 0))

pub even_length : (seed i : ℕ) → i % 2 ≡ 0 → unit_length seed i ≡ 109 + cond (eqb i 0) 18 0
even_length seed i even = rw (even_shape seed i 0 even) (c_unit_length (low_of seed i) i)

pub odd_length : (seed i : ℕ) → i % 2 ≡ 1 → unit_length seed i ≡ 76
odd_length seed i odd = rw (odd_shape seed i 0 odd) (cpp_unit_length (low_of seed i) i 0)

-- ---- where a unit begins

-- where unit i begins: main, and before it (i + 1) / 2 units of even number and i / 2 of odd number
abbrev pub place : ℕ → ℕ
place i = 18 + 109 * ((i + 1) / 2) + 76 * (i / 2)

pub start_more : (table : List (List ℕ)) (seed i : ℕ) → unit_start table seed (suc i) ≡ unit_start table seed i + length (unit_bytes table (unit_shape seed i 0))
unfolding unit_start
start_more table seed i =
    ap (sum_by (λ k. length (unit_bytes table (unit_shape seed k 0)))) (below_more i)
    ∙ sum_by-append (λ k. length (unit_bytes table (unit_shape seed k 0))) (below i) (i ∷ [])
    ∙ ap (λ (n : ℕ). unit_start table seed i + n) (zero-add _)

pub start_of_zero : (table : List (List ℕ)) (seed : ℕ) → unit_start table seed 0 ≡ 0
unfolding unit_start
start_of_zero table seed = refl

-- behind a unit that isn't the first
start_next : (seed i : ℕ) → 0 < i → unit_start (abbreviations 0 2) seed i ≡ place i → unit_start (abbreviations 0 2) seed (suc i) ≡ place (suc i)
start_next seed i later here = by (eqb (i % 2) 0) refl
  where
    more : unit_start (abbreviations 0 2) seed (suc i) ≡ unit_start (abbreviations 0 2) seed i + unit_length seed i
    more = start_more (abbreviations 0 2) seed i

    by : (even : Bool) → eqb (i % 2) 0 ≡ even → unit_start (abbreviations 0 2) seed (suc i) ≡ place (suc i)
    by true e =
        let even = eqb-true (i % 2) 0 e in
        let size = even_length seed i even ∙ ap (λ (first : Bool). 109 + cond first 18 0) (ne_eqb i 0 (λ zero. omega (arith, zero, later))) in
        omega (arith, more, here, size, even)
    by false e =
        let odd : i % 2 ≡ 1 = omega (arith, eqb-false (i % 2) 0 e) in
        omega (arith, more, here, odd_length seed i odd, odd)

pub start_is : (seed i : ℕ) → 0 < i → unit_start (abbreviations 0 2) seed i ≡ place i
start_is seed zero some = absurd (omega arith)
start_is seed (suc zero) some = omega (arith, start_more (abbreviations 0 2) seed 0, start_of_zero (abbreviations 0 2) seed, even_length seed 0 refl)
start_is seed (suc (suc i)) some = start_next seed (suc i) (omega arith) (start_is seed (suc i) (omega arith))

-- ---- where a declaration stands

pub declaration_is : (seed i : ℕ) → i % 2 ≡ 1 → declaration_in (abbreviations 0 2) seed i ≡ place i + 53
unfolding declaration_in
declaration_is seed i odd =
    let start = start_is seed i (omega (arith, odd)) in
    let before = before_declaration (low_of seed i) i 0 in
    let header = length_header 0 in
    rw (odd_shape seed i 0 odd) (omega (arith, start, before, header))

-- the place that a unit's start tells
pub declaration_at : (seed i start : ℕ) → i % 2 ≡ 1 → start ≡ unit_start (abbreviations 0 2) seed i → start + 53 ≡ declaration_in (abbreviations 0 2) seed i
declaration_at seed i start odd is = omega (arith, is, start_is seed i (omega (arith, odd)), declaration_is seed i odd)
