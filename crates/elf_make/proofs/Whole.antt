-- The generated units, with the codes of a file of two units.
use Rattle.std.proofs.Common.{◌≡◌, ℕ, zero, suc, ◌+◌, ◌%◌, ◌<◌, List, [], ◌∷◌, ◌++◌, refl, sym, ap, ◌∙◌, arith, add-one}
use Rattle.std.specs.Prelude.{codes, flat_map}
use Rattle.std.proofs.lemmas.List.{append-nil}
use Rattle.std.proofs.lemmas.Grind.{flat_map-append}
use Rattle.index_model.specs.Layout.{below}
use Rattle.elf_make.specs.Packed.{Elf, packed}
use Rattle.elf_make.specs.PlainForm.{table_bytes, unit_bytes}
use Rattle.elf_make.specs.Generated.{low_of, c_unit, cpp_unit, unit_shape, abbreviations, declaration_in, specified_by, generated_unit, generated_file}
use Rattle.elf_make.proofs.Tables.{of_one_unit, of_more_units}
use Rattle.elf_make.proofs.Encodings.{only_unit}
use Rattle.elf_make.proofs.Starts.{below_more, even_shape, odd_shape, declaration_is}

-- the seed moves addresses alone
declaration_fixed : (seed i : ℕ) → i % 2 ≡ 1 → declaration_in (abbreviations 0 2) seed i ≡ declaration_in (abbreviations 0 2) 0 i
declaration_fixed seed i odd = declaration_is seed i odd ∙ sym (declaration_is 0 i odd)

pub specified_is_odd : (seed units i : ℕ) → specified_by seed units i % 2 ≡ 1
unfolding specified_by
specified_is_odd seed units i = omega arith

unit_by : (table : List (List ℕ)) (seed i declared : ℕ) → table ≡ abbreviations 0 2 → unit_bytes table (unit_shape seed i declared) ≡ unit_bytes (abbreviations 0 2) (unit_shape seed i declared)
unit_by table seed i declared e = ap (λ t. unit_bytes t (unit_shape seed i declared)) e

generated_only : (seed : ℕ) → generated_unit seed 1 0 ≡ unit_bytes (abbreviations 0 2) (c_unit (low_of seed 0) 0)
unfolding generated_unit
generated_only seed =
    ap (λ t. unit_bytes t (unit_shape seed 0 (declaration_in t seed (specified_by seed 1 0)))) (of_one_unit seed)
    ∙ ap (unit_bytes (abbreviations 0 1)) (even_shape seed 0 _ refl)
    ∙ only_unit (low_of seed 0)

pub generated_even : (seed units i : ℕ) → i < units → i % 2 ≡ 0 → generated_unit seed units i ≡ unit_bytes (abbreviations 0 2) (c_unit (low_of seed i) i)
unfolding generated_unit
generated_even seed zero i below even = absurd (omega arith)
generated_even seed (suc zero) i below even = let first : i ≡ 0 = omega arith in rw first (generated_only seed)
generated_even seed (suc (suc n)) i below even =
    unit_by _ seed i _ (of_more_units seed (suc (suc n)) (omega arith)) ∙ ap (unit_bytes (abbreviations 0 2)) (even_shape seed i _ even)

pub generated_odd : (seed units i : ℕ) → i < units → i % 2 ≡ 1 → generated_unit seed units i ≡ unit_bytes (abbreviations 0 2) (cpp_unit (low_of seed i) i (declaration_in (abbreviations 0 2) 0 (specified_by seed units i)))
unfolding generated_unit
generated_odd seed units i below odd =
    let table = of_more_units seed units (omega (arith, odd)) in
    unit_by _ seed i _ table
    ∙ ap (unit_bytes (abbreviations 0 2)) (odd_shape seed i _ odd
    ∙ ap (cpp_unit (low_of seed i) i) (ap (λ t. declaration_in t seed (specified_by seed units i)) table
    ∙ declaration_fixed seed (specified_by seed units i) (specified_is_odd seed units i)))

-- one unit more
pub units_more : (unit : ℕ → List ℕ) (i : ℕ) (old new : List ℕ) → old ≡ flat_map unit (below i) → new ≡ old ++ unit i → new ≡ flat_map unit (below (i + 1))
units_more unit i old new before more =
    more ∙ ap (λ xs. xs ++ unit i) before
    ∙ sym (ap (λ n. flat_map unit (below n)) (add-one i) ∙ ap (flat_map unit) (below_more i)
    ∙ flat_map-append unit (below i) (i ∷ []) ∙ ap (λ xs. flat_map unit (below i) ++ xs) (append-nil (unit i)))

-- the packer's sections are those of the file
pub file_is : (seed units : ℕ) (empty one both : Elf) (table info : List ℕ)
    → empty ≡ record { kind = 2; sections = [] }
    → one ≡ record empty { sections = empty.sections ++ record { name = codes ".debug_abbrev"; content = table } ∷ [] }
    → both ≡ record one { sections = one.sections ++ record { name = codes ".debug_info"; content = info } ∷ [] }
    → table ≡ table_bytes (abbreviations seed units) → info ≡ flat_map (generated_unit seed units) (below units)
    → generated_file seed units ≡ packed both
unfolding generated_file
file_is seed units empty one both table info at_empty at_one at_both at_table at_info = rw (at_both, at_one, at_empty, at_table, at_info) refl
