-- How long a generated file is at most.
use Rattle.std.proofs.Common.{◌≡◌, ℕ, zero, suc, ◌+◌, ◌*◌, ◌%◌, ◌^◌, ◌<◌, ◌≤◌, Bool, true, false, cond, eqb, List, [], ◌∷◌, ◌++◌, length, refl, ap, ◌∙◌, arith}
use Rattle.std.specs.Prelude.{codes, flat_map}
use Rattle.std.proofs.lemmas.Bool.{eqb-true, eqb-false}
use Rattle.std.proofs.lemmas.List.{append-nil, length-append, length-replicate}
use Rattle.std.proofs.lemmas.Grind.{flat_map-append}
use Rattle.index_model.specs.Layout.{below}
use Rattle.index_model.specs.NameIndex.{uleb_in}
use Rattle.elf_make.specs.declared.section.Section.{Section}
use Rattle.elf_make.specs.Packed.{half, word, xword, zeros, ident, contents, names, name_table, names_end, padding, headers_at, elf_header, section_header, added_headers, section_headers, packed}
use Rattle.elf_make.specs.PlainForm.{table_bytes}
use Rattle.elf_make.specs.Generated.{low_of, abbreviations, declaration_in, specified_by, generated_unit, generated_info, generated_file}
use Rattle.elf_make.proofs.Encodings.{c_unit_length, cpp_unit_length}
use Rattle.elf_make.proofs.Starts.{below_more}
use Rattle.elf_make.proofs.Tables.{one_unit, more_units, one_is, more_are, of_one_unit, of_more_units}
use Rattle.elf_make.proofs.Whole.{generated_even, generated_odd}

-- ---- the units

main_or_none : (first : Bool) → cond first 18 0 ≤ 18
main_or_none true = omega arith
main_or_none false = omega arith

unit_bound : (seed units i : ℕ) → i < units → length (generated_unit seed units i) ≤ 127
unit_bound seed units i lt = by (eqb (i % 2) 0) refl
  where
    by : (even : Bool) → eqb (i % 2) 0 ≡ even → length (generated_unit seed units i) ≤ 127
    by true e = omega (arith, ap length (generated_even seed units i lt (eqb-true (i % 2) 0 e)), c_unit_length (low_of seed i) i, main_or_none (eqb i 0))
    by false e =
        let odd : i % 2 ≡ 1 = omega (arith, eqb-false (i % 2) 0 e) in
        omega (arith, ap length (generated_odd seed units i lt odd), cpp_unit_length (low_of seed i) i (declaration_in (abbreviations 0 2) 0 (specified_by seed units i)))

units_bound : (seed units n : ℕ) → n ≤ units → length (flat_map (generated_unit seed units) (below n)) ≤ 127 * n
units_bound seed units zero le = omega arith
units_bound seed units (suc n) le =
    let unit = generated_unit seed units in
    let whole = ap (flat_map unit) (below_more n) ∙ flat_map-append unit (below n) (n ∷ []) ∙ ap (λ xs. flat_map unit (below n) ++ xs) (append-nil (unit n)) in
    omega (arith, ap length whole, length-append (flat_map unit (below n)) (unit n), units_bound seed units n (omega (arith, le)), unit_bound seed units n (omega (arith, le)))

-- ---- the abbreviations

one_length : length (table_bytes one_unit) ≤ 256
unfolding table_bytes uleb_in
one_length = omega arith

more_length : length (table_bytes more_units) ≤ 256
unfolding table_bytes uleb_in
more_length = omega arith

table_bound : (seed units : ℕ) → 1 ≤ units → length (table_bytes (abbreviations seed units)) ≤ 256
table_bound seed zero some = absurd (omega (arith, some))
table_bound seed (suc zero) some = omega (arith, ap (λ t. length (table_bytes t)) (of_one_unit seed ∙ one_is), one_length)
table_bound seed (suc (suc n)) some = omega (arith, ap (λ t. length (table_bytes t)) (of_more_units seed (suc (suc n)) (omega arith) ∙ more_are), more_length)

-- ---- the file

module _ (table info : List ℕ) where
  abbrev both : List Section
  both = record { name = codes ".debug_abbrev"; content = table } ∷ record { name = codes ".debug_info"; content = info } ∷ []

  header_length : (n place : ℕ) → length (elf_header 2 n place) ≡ 64
  unfolding elf_header ident half word xword zeros
  header_length n place = refl

  contents_length : length (contents both) ≡ length table + length info
  unfolding contents
  contents_length = grind (arith, length-append)

  names_length : length (name_table both) ≡ 37
  unfolding name_table names
  names_length = refl

  zeros_length : (n : ℕ) → length (zeros n) ≡ n
  unfolding zeros
  zeros_length n = length-replicate n 0

  headers_length : length (section_headers both) ≡ 256
  unfolding section_headers added_headers section_header half word xword zeros
  headers_length = refl

  five : (a b c d e : List ℕ) → length (a ++ b ++ c ++ d ++ e) ≡ length a + length b + length c + length d + length e
  five a b c d e = grind (arith, length-append)

  packed_bound : length (packed (record { kind = 2; sections = both })) ≤ length table + length info + 364
  unfolding packed
  packed_bound = omega (
    arith,
    five (elf_header 2 (length both + 2) (headers_at both)) (contents both) (name_table both) (zeros (padding (names_end both))) (section_headers both),
    header_length (length both + 2) (headers_at both),
    contents_length,
    names_length,
    zeros_length (padding (names_end both)),
    headers_length,
  )

-- a generated file of at most 100,000 units has less than 16 MiB
pub generated_small : (seed units : ℕ) → 1 ≤ units → units ≤ 100000 → length (generated_file seed units) ≤ 2 ^ 24
unfolding generated_file
generated_small seed units some few = omega (arith, some, few, packed_bound (table_bytes (abbreviations seed units)) (generated_info seed units), table_bound seed units some, units_bound seed units units (omega arith))
