-- What a generated unit specifies stands where it says.
use Rattle.std.proofs.Common.{◌≡◌, ℕ, zero, suc, ◌+◌, ◌/◌, ◌%◌, ◌-◌, ◌<◌, ◌≤◌, Bool, true, false, eqb, List, [], ◌∷◌, ◌++◌, length, refl, sym, ap, ◌∙◌, arith, zero-add}
use Rattle.std.specs.Prelude.{codes, flat_map}
use Rattle.std.specs.List.{range_with_len}
use Rattle.std.proofs.lemmas.Bool.{eqb-true, eqb-false}
use Rattle.std.proofs.lemmas.List.{append-nil, length-append}
use Rattle.std.proofs.lemmas.Grind.{flat_map-append}
use Rattle.common_laws.proofs.Lists.{regrouped}
use Rattle.index_model.specs.Layout.{below, ended}
use Rattle.index_model.specs.NameIndex.{uleb_in}
use Rattle.elf_make.specs.Packed.{half, word, xword}
use Rattle.elf_make.specs.PlainForm.{Name, External, Declaration, entry_bytes, unit_header, unit_bytes, pieces}
use Rattle.elf_make.specs.Generated.{hex_digits, low_of, cpp_unit, unit_shape, abbreviations, unit_start, declaration_in, specified_by, generated_unit, generated_info}
use Rattle.elf_make.specs.LawsGenerated.{StandsAt, DeclarationsStandThere}
use Rattle.elf_make.proofs.Tables.{more_are, of_more_units}
use Rattle.elf_make.proofs.Encodings.{joined, c_unit_length, cpp_unit_length}
use Rattle.elf_make.proofs.Starts.{below_more, even_length, odd_length, start_more, start_of_zero, start_is, declaration_is}
use Rattle.elf_make.proofs.Whole.{generated_even, generated_odd, specified_is_odd}

-- ---- the units before a unit have the length that its start says

length_by : (seed units i : ℕ) (even : Bool) → eqb (i % 2) 0 ≡ even → i < units → length (generated_unit seed units i) ≡ length (unit_bytes (abbreviations 0 2) (unit_shape seed i 0))
length_by seed units i true e lt =
    let even = eqb-true (i % 2) 0 e in
    ap length (generated_even seed units i lt even) ∙ c_unit_length (low_of seed i) i ∙ sym (even_length seed i even)
length_by seed units i false e lt =
    let odd : i % 2 ≡ 1 = omega (arith, eqb-false (i % 2) 0 e) in
    ap length (generated_odd seed units i lt odd) ∙ cpp_unit_length (low_of seed i) i _ ∙ sym (odd_length seed i odd)

units_before : (seed units i : ℕ) → i ≤ units → length (flat_map (generated_unit seed units) (below i)) ≡ unit_start (abbreviations 0 2) seed i
units_before seed units zero le = sym (start_of_zero (abbreviations 0 2) seed)
units_before seed units (suc i) le =
    let one = length_by seed units i (eqb (i % 2) 0) refl (omega arith) in
    let earlier = units_before seed units i (omega arith) in
    let more = start_more (abbreviations 0 2) seed i in
    let parts = ap (flat_map (generated_unit seed units)) (below_more i) ∙ flat_map-append (generated_unit seed units) (below i) (i ∷ []) in
    let last = ap length (append-nil (generated_unit seed units i)) in
    ap length parts ∙ length-append (flat_map (generated_unit seed units) (below i)) (generated_unit seed units i ++ []) ∙ omega (arith, one, earlier, more, last)

-- ---- a unit among the others

range_split : (a n m : ℕ) → range_with_len a (n + m) ≡ range_with_len a n ++ range_with_len (a + n) m
range_split a zero m = ap (range_with_len a) (zero-add m) ∙ ap (λ b. range_with_len b m) (omega arith)
range_split a (suc n) m =
    let count : suc n + m ≡ suc (n + m) = omega arith in
    let end : a + 1 + n ≡ a + suc n = omega arith in
    ap (range_with_len a) count ∙ ap (λ ns. a ∷ ns) (range_split (a + 1) n m ∙ ap (λ b. range_with_len (a + 1) n ++ range_with_len b m) end)

below_split : (n i : ℕ) → i < n → below n ≡ below i ++ i ∷ range_with_len (i + 1) (n - i - 1)
below_split n i lt =
    let count : n ≡ i + suc (n - i - 1) = omega arith in
    ap below count ∙ range_split 0 i (suc (n - i - 1)) ∙ ap (λ b. below i ++ range_with_len b (suc (n - i - 1))) (zero-add i)

-- ---- a declaration in its unit

-- what stands before it, and behind it
front : ℕ → ℕ → List ℕ
front low i = joined (
    unit_header 64 ∷ (1 ∷ []) ∷ ended (codes "u" ++ hex_digits i ++ codes ".cc") ∷ (33 ∷ []) ∷ (xword low ++ word 0x100)
    ∷ (6 ∷ []) ∷ ended (codes "n") ∷ (7 ∷ []) ∷ ended (codes "c" ++ hex_digits i) ∷ [])

back : ℕ → ℕ → List ℕ
back low declared = joined ((0 ∷ []) ∷ (0 ∷ []) ∷ (9 ∷ []) ∷ word declared ∷ (xword (low + 0x20) ++ word 0x20) ∷ (0 ∷ []) ∷ [])

abbrev method : List (List ℕ) → List ℕ
method table = entry_bytes table 0x2E 0 (Name (codes "m") ∷ External ∷ Declaration ∷ [])

in_unit : (low i declared : ℕ) → unit_bytes (abbreviations 0 2) (cpp_unit low i declared) ≡ front low i ++ (method (abbreviations 0 2) ++ back low declared)
unfolding front back hex_digits half word xword uleb_in cpp_unit pieces unit_bytes
in_unit low i declared = rw more_are refl

length_front : (low i : ℕ) → length (front low i) ≡ 53
unfolding front hex_digits half word xword
length_front low i = refl

-- ---- the whole

-- the declaration of unit j of odd number
stands : (seed units j : ℕ) → j < units → j % 2 ≡ 1 → StandsAt (declaration_in (abbreviations 0 2) seed j) (method (abbreviations 0 2)) (generated_info seed units)
stands seed units j lt odd =
    let unit = generated_unit seed units in
    let low = low_of seed j in
    let declared = declaration_in (abbreviations 0 2) 0 (specified_by seed units j) in
    let others = flat_map unit (range_with_len (j + 1) (units - j - 1)) in
    record {
      before = flat_map unit (below j) ++ front low j;
      after = back low declared ++ others;
      is =
          ap (flat_map unit) (below_split units j lt) ∙ flat_map-append unit (below j) (j ∷ range_with_len (j + 1) (units - j - 1))
          ∙ ap (λ xs. flat_map unit (below j) ++ (xs ++ others)) (generated_odd seed units j lt odd ∙ in_unit low j declared)
          ∙ regrouped (flat_map unit (below j)) (front low j) (method (abbreviations 0 2)) (back low declared) others;
      at =
          length-append (flat_map unit (below j)) (front low j)
          ∙ omega (arith, units_before seed units j (omega arith), length_front low j, start_is seed j (omega (arith, odd)), declaration_is seed j odd);
    }

specified_below : (seed units i : ℕ) → i < units → i % 2 ≡ 1 → specified_by seed units i < units
unfolding specified_by
specified_below seed units i lt odd =
    let some : 0 < units / 2 = omega (arith, odd) in
    omega (arith, some)

pub declarations_stand : DeclarationsStandThere
declarations_stand seed units i lt odd =
    let table = of_more_units seed units (omega (arith, odd)) in
    rw table (stands seed units (specified_by seed units i) (specified_below seed units i lt odd) (specified_is_odd seed units i))
