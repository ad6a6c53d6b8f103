-- The abbreviations of the generated file: one unit has those of unit 0, and more units those of two.
use Rattle.std.proofs.Common.{◌≡◌, ℕ, zero, suc, ◌+◌, ◌%◌, ◌≤◌, eqb, Bool, true, false, cond, List, [], ◌∷◌, ◌++◌, refl, sym, ap, ◌∙◌, arith}
use Rattle.std.specs.Prelude.{bytes_eq, flat_map}
use Rattle.std.specs.List.{list_all, range_with_len}
use Rattle.std.proofs.lemmas.List.{append_assoc}
use Rattle.std.proofs.lemmas.List.Folds.{list_all-append}
use Rattle.index_model.specs.Ordered.{distinct}
use Rattle.index_model.specs.NameIndex.{uleb_in}
use Rattle.elf_make.specs.PlainForm.{abbreviations_of}
use Rattle.elf_make.specs.Generated.{low_of, main_before, c_entries, c_unit, cpp_unit, unit_shape, abbreviations}
use Rattle.elf_make.proofs.FirstUse.{stands_in, distinct_known}

-- ---- what a unit uses goes by its number alone

-- what a unit uses that is in C or not, and the first or not
uses : Bool → Bool → List (List ℕ)
unfolding uleb_in abbreviations_of main_before c_entries c_unit cpp_unit
uses true true = abbreviations_of (c_unit 0 0)
uses true false = abbreviations_of (c_unit 0 2)
uses false first = abbreviations_of (cpp_unit 0 1 0)

used_by : (c first : Bool) (low i declared : ℕ) → eqb i 0 ≡ first → abbreviations_of (cond c (c_unit low i) (cpp_unit low i declared)) ≡ uses c first
unfolding uleb_in abbreviations_of main_before c_entries c_unit cpp_unit uses
used_by true true low i declared e = rw e refl
used_by true false low i declared e = rw e refl
used_by false first low i declared e = refl

used : (seed i declared : ℕ) → abbreviations_of (unit_shape seed i declared) ≡ uses (eqb (i % 2) 0) (eqb i 0)
unfolding unit_shape
used seed i declared = used_by (eqb (i % 2) 0) (eqb i 0) (low_of seed i) i declared refl

-- ---- two units use all

-- what units 0 and 1 use
abbrev both : List (List ℕ)
both = uses true true ++ uses false false

known : (c first : Bool) → list_all (stands_in bytes_eq both) (uses c first) ≡ true
unfolding uses uleb_in abbreviations_of main_before c_entries c_unit cpp_unit
known true true = refl
known true false = refl
known false first = refl

all_known : (seed a n : ℕ) → list_all (stands_in bytes_eq both) (flat_map (λ i. abbreviations_of (unit_shape seed i 0)) (range_with_len a n)) ≡ true
all_known seed a zero = refl
all_known seed a (suc n) =
    list_all-append (stands_in bytes_eq both) (abbreviations_of (unit_shape seed a 0)) _
    ∙ rw (used seed a 0, known (eqb (a % 2) 0) (eqb a 0)) (all_known seed (a + 1) n)

of_both : distinct bytes_eq both ≡ abbreviations 0 2
unfolding uses abbreviations distinct unit_shape uleb_in abbreviations_of main_before c_entries c_unit cpp_unit
of_both = refl

of_units : (seed n : ℕ) → abbreviations seed (suc (suc n)) ≡ abbreviations 0 2
unfolding abbreviations uses unit_shape
of_units seed n =
    let rest : List (List ℕ) = flat_map (λ i. abbreviations_of (unit_shape seed i 0)) (range_with_len 2 n) in
    ap (λ xs. distinct bytes_eq (xs ++ abbreviations_of (unit_shape seed 1 0) ++ rest)) (used seed 0 0)
    ∙ ap (λ xs. distinct bytes_eq (uses true true ++ xs ++ rest)) (used seed 1 0)
    ∙ ap (distinct bytes_eq) (sym (append_assoc (uses true true) (uses false false) rest))
    ∙ distinct_known bytes_eq both rest (all_known seed 2 n)
    ∙ of_both

pub of_more_units : (seed units : ℕ) → 2 ≤ units → abbreviations seed units ≡ abbreviations 0 2
of_more_units seed zero more = absurd (omega arith)
of_more_units seed (suc zero) more = absurd (omega arith)
of_more_units seed (suc (suc n)) more = of_units seed n

pub of_one_unit : (seed : ℕ) → abbreviations seed 1 ≡ abbreviations 0 1
unfolding abbreviations
of_one_unit seed = ap (λ xs. distinct bytes_eq (xs ++ [])) (used seed 0 0 ∙ sym (used 0 0 0))

-- ---- written out

-- what one unit uses, by code
abbrev pub one_unit : List (List ℕ)
one_unit =
    (0x11 ∷ 1 ∷ 0x03 ∷ 0x08 ∷ 0x13 ∷ 0x0B ∷ 0x11 ∷ 0x01 ∷ 0x12 ∷ 0x06 ∷ 0 ∷ 0 ∷ [])
    ∷ (0x2E ∷ 0 ∷ 0x03 ∷ 0x08 ∷ 0x3F ∷ 0x19 ∷ 0x11 ∷ 0x01 ∷ 0x12 ∷ 0x06 ∷ 0 ∷ 0 ∷ [])
    ∷ (0x2E ∷ 0 ∷ 0x03 ∷ 0x08 ∷ 0x11 ∷ 0x01 ∷ 0x12 ∷ 0x06 ∷ 0 ∷ 0 ∷ [])
    ∷ (0x34 ∷ 0 ∷ 0x03 ∷ 0x08 ∷ 0x3F ∷ 0x19 ∷ 0x02 ∷ 0x18 ∷ 0 ∷ 0 ∷ [])
    ∷ (0x16 ∷ 0 ∷ 0x03 ∷ 0x08 ∷ 0 ∷ 0 ∷ [])
    ∷ []

-- what more units use
abbrev pub more_units : List (List ℕ)
more_units =
    one_unit
    ++ (0x39 ∷ 1 ∷ 0x03 ∷ 0x08 ∷ 0 ∷ 0 ∷ [])
    ∷ (0x02 ∷ 1 ∷ 0x03 ∷ 0x08 ∷ 0 ∷ 0 ∷ [])
    ∷ (0x2E ∷ 0 ∷ 0x03 ∷ 0x08 ∷ 0x3F ∷ 0x19 ∷ 0x3C ∷ 0x19 ∷ 0 ∷ 0 ∷ [])
    ∷ (0x2E ∷ 0 ∷ 0x47 ∷ 0x10 ∷ 0x11 ∷ 0x01 ∷ 0x12 ∷ 0x06 ∷ 0 ∷ 0 ∷ [])
    ∷ []

pub one_is : abbreviations 0 1 ≡ one_unit
unfolding abbreviations distinct unit_shape uleb_in abbreviations_of main_before c_entries c_unit cpp_unit
one_is = refl

pub more_are : abbreviations 0 2 ≡ more_units
unfolding abbreviations distinct unit_shape uleb_in abbreviations_of main_before c_entries c_unit cpp_unit
more_are = refl
