-- The header of an index says where its areas stand.
use Rattle.std.proofs.Common.{◌≡◌, ℕ, zero, suc, ◌+◌, ◌-◌, ◌*◌, ◌/◌, ◌^◌, ◌<◌, ◌≤◌, true, ◌&&◌, ◌||◌, leb, List, [], ◌∷◌, ◌++◌, length, get_or, take, drop, map, Result, Ok, refl, ap, ◌∙◌, subst, arith}
use Rattle.std.specs.Prelude.{flat_map, slice_range, sum_by, ◌==◌, if◌then◌else◌}
use Rattle.std.specs.List.{range_with_len}
use Rattle.std.proofs.lemmas.Bool.{and_from, le-leb}
use Rattle.std.proofs.lemmas.List.{length-append, take_all}
use Rattle.std.proofs.lemmas.List.Concat.{length-flat_map}
use Rattle.std.proofs.lemmas.List.FromFn.{length-range_with_len, get_or-range_with_len}
use Rattle.std.proofs.lemmas.List.Sums.{sum_by_more, sum_by-take-le}
use Rattle.ix_base.specs.declared.fault.Fault.{Fault}
use Rattle.index_model.specs.declared.index_code.TheConstants.{GDB_VERSION, GDB_OFFSETS}
use Rattle.index_model.specs.Layout.{below, field, u32_bytes, start_of}
use Rattle.index_model.specs.Meaning.{◌>>=◌, ◌>>◌, fault, holds_or}
use Rattle.index_model.specs.GdbIndex.{with_header}
use Rattle.index_model.specs.GdbAreas.{Areas, areas, areas_at, offsets_from, version_of}
use Rattle.index_model.proofs.IndexSizes.{size_4}
use Rattle.index_alike.proofs.GdbPlaces.{Stands, range_is, stands_in, field_is, stands_first, stands_last, stands_at, stands_item, stands_item_of, length_is, map_below}
use Rattle.index_alike.proofs.GdbSteps.{bind_is, then_is}

-- an index that reads as these areas
pub record Laid (bytes cus types addresses table shortcut pool : List ℕ) : Type 0 where
  pub found : Areas
  pub is : areas bytes ≡ Ok found
  pub cus_are : found.cus.rest ≡ cus
  pub types_are : found.types.rest ≡ types
  pub addresses_are : found.addresses.rest ≡ addresses
  pub table_is : found.table.rest ≡ table
  pub shortcut_is : found.shortcut.rest ≡ shortcut
  pub pool_is : found.pool.rest ≡ pool

module _ (version : ℕ) (all : List (List ℕ)) (small : length (with_header version all) < 2 ^ 32) where
  abbrev whole : List ℕ
  whole = with_header version all

  abbrev offset : ℕ → ℕ
  offset k = 4 + 4 * length all + start_of all k

  abbrev offset_bytes : ℕ → List ℕ
  offset_bytes k = u32_bytes (offset k)

  abbrev fields : List ℕ
  fields = flat_map offset_bytes (below (length all))

  abbrev body : List ℕ
  body = flat_map (λ area. area) all

  fields_size : length fields ≡ 4 * length all
  fields_size = length_is offset_bytes 4 (λ k. size_4 (offset k)) (below (length all)) ∙ ap (λ (n : ℕ). 4 * n) (length-range_with_len 0 (length all))

  head_size : length (u32_bytes version ++ fields) ≡ 4 + 4 * length all
  head_size = length-append (u32_bytes version) fields ∙ (λ i. size_4 version i + fields_size i)

  body_size : length body ≡ sum_by length all
  body_size = length-flat_map (λ (area : List ℕ). area) all

  pub whole_size : length whole ≡ 4 + 4 * length all + sum_by length all
  whole_size = length-append (u32_bytes version ++ fields) body ∙ (λ i. head_size i + body_size i)

  offset_within : (k : ℕ) → offset k ≤ length whole
  offset_within k = omega (arith, whole_size, sum_by-take-le length all k)

  head_stands : Stands 0 (u32_bytes version ++ fields) whole
  head_stands = stands_first (u32_bytes version ++ fields) body

  pub version_reads : version < 2 ^ 32 → field 4 0 whole ≡ version
  version_reads lt = field_is 4 version 0 (stands_in head_stands (stands_first (u32_bytes version) fields)) lt

  pub offset_reads : (k : ℕ) → k < length all → field 4 (4 * k + 4) whole ≡ offset k
  offset_reads k lt =
      let within : k < length (below (length all)) = omega (arith, length-range_with_len 0 (length all)) in
      let at : get_or (below (length all)) k 0 ≡ k = get_or-range_with_len 0 (length all) k 0 lt ∙ omega arith in
      let item : Stands (4 * k) (offset_bytes k) fields = subst (λ (j : ℕ). Stands (4 * k) (offset_bytes j) fields) at (stands_item_of offset_bytes 4 (λ k. size_4 (offset k)) (below (length all)) k 0 within) in
      let place : 0 + (length (u32_bytes version) + 4 * k) ≡ 4 * k + 4 = omega (arith, size_4 version) in
      let bound : offset k < 256 ^ 4 = omega (arith, offset_within k, small) in
      field_is 4 (offset k) (4 * k + 4) (stands_at place (stands_in head_stands (stands_in (stands_last (u32_bytes version) fields) item))) bound

  pub area_stands : (k : ℕ) → k < length all → Stands (offset k) (get_or all k []) whole
  area_stands k lt =
      let place : length (u32_bytes version ++ fields) + length (flat_map (λ (area : List ℕ). area) (take k all)) ≡ offset k = (λ i. head_size i + length-flat_map (λ (area : List ℕ). area) (take k all) i) in
      stands_at place (stands_in (stands_last (u32_bytes version ++ fields) body) (stands_item (λ (area : List ℕ). area) all k [] lt))

  next_offset : (k : ℕ) → k < length all → offset k + length (get_or all k []) ≡ offset (k + 1)
  next_offset k lt = omega (arith, sum_by_more length all k [] lt)

  pub area_reads : (k : ℕ) → k < length all → slice_range whole (offset k) (offset (k + 1)) ≡ get_or all k []
  area_reads k lt = range_is (area_stands k lt) (offset (k + 1)) (next_offset k lt)

  pub last_reads : (k : ℕ) → suc k ≡ length all → slice_range whole (offset k) (length whole) ≡ get_or all k []
  last_reads k last =
      let all_taken : start_of all (k + 1) ≡ sum_by length all = ap (sum_by length) (take_all (k + 1) all (omega (arith, last))) in
      range_is (area_stands k (omega (arith, last))) (length whole) (next_offset k (omega (arith, last)) ∙ omega (arith, whole_size, all_taken))

  -- offsets from one on
  offsets_on : (least at a n : ℕ) → a + n ≤ length all → least ≤ offset a → offsets_from whole at least (map offset (range_with_len a n)) ≡ Ok (map offset (range_with_len a n))
  unfolding offsets_from
  offsets_on least at a zero le low = refl
  offsets_on least at a (suc n) le low =
      let tests : (leb least (offset a) && leb (offset a) (length whole)) ≡ true = and_from (leb least (offset a)) (leb (offset a) (length whole)) (le-leb least (offset a) low) (le-leb (offset a) (length whole) (offset_within a)) in
      let rest = offsets_on (offset a) (at + 4) (a + 1) n (omega arith) (omega (arith, next_offset a (omega arith))) in
      then_is (leb least (offset a) && leb (offset a) (length whole)) (fault GDB_OFFSETS at) (offsets_from whole (at + 4) (offset a) (map offset (range_with_len (a + 1) n)) >>= λ more. Ok (offset a ∷ more)) (Ok (map offset (range_with_len a (suc n)))) tests
      (bind_is (offsets_from whole (at + 4) (offset a) (map offset (range_with_len (a + 1) n))) (λ more. Ok (offset a ∷ more)) (map offset (range_with_len (a + 1) n)) (Ok (map offset (range_with_len a (suc n)))) rest refl)

  pub offsets_are : offsets_from whole 4 (4 + 4 * length all) (map (λ k. field 4 (4 * k + 4) whole) (below (length all))) ≡ Ok (map offset (below (length all)))
  offsets_are = ap (offsets_from whole 4 (4 + 4 * length all)) (map_below 0 (λ k. field 4 (4 * k + 4) whole) offset (length all) offset_reads) ∙ offsets_on (4 + 4 * length all) 4 0 (length all) (omega arith) (omega arith)

abbrev behind_offsets : List ℕ → ℕ → List ℕ → Result Areas Fault
behind_offsets bytes version offsets = holds_or (version == 8 || leb 8 (length (areas_at bytes version offsets).shortcut.rest)) (fault GDB_OFFSETS 20) >> Ok (areas_at bytes version offsets)

abbrev behind_version : List ℕ → ℕ → Result Areas Fault
behind_version bytes version =
    let header = if version == 9 then 28 else 24 in
    holds_or (leb header (length bytes)) (fault GDB_OFFSETS 4) >> (offsets_from bytes 4 header (map (λ k. field 4 (4 * k + 4) bytes) (below (header / 4 - 1))) >>= behind_offsets bytes version)

version_is : (bytes : List ℕ) (version : ℕ) → 4 ≤ length bytes → field 4 0 bytes ≡ version → (version == 8 || version == 9) ≡ true → version_of bytes ≡ Ok version
unfolding version_of
version_is bytes version le is known =
    then_is (leb 4 (length bytes)) (fault GDB_VERSION 0) (holds_or (field 4 0 bytes == 8 || field 4 0 bytes == 9) (fault GDB_VERSION 0) >> Ok (field 4 0 bytes)) (Ok version) (le-leb 4 (length bytes) le)
    (ap (λ (v : ℕ). holds_or (v == 8 || v == 9) (fault GDB_VERSION 0) >> Ok v) is ∙ then_is (version == 8 || version == 9) (fault GDB_VERSION 0) (Ok version) (Ok version) known refl)

no_bytes : (bytes : List ℕ) (n : ℕ) → slice_range bytes n n ≡ []
no_bytes bytes n =
    let none : n - n ≡ 0 = omega arith in
    ap (λ (m : ℕ). take m (drop n bytes)) none

module _ (a b c d e : List ℕ) (small : length (with_header 8 (a ∷ b ∷ c ∷ d ∷ e ∷ [])) < 2 ^ 32) where
  abbrev five : List (List ℕ)
  five = a ∷ b ∷ c ∷ d ∷ e ∷ []

  abbrev bytes_8 : List ℕ
  bytes_8 = with_header 8 five

  abbrev found_8 : Areas
  found_8 = areas_at bytes_8 8 (map (offset 8 five small) (below 5))

  areas_8 : areas bytes_8 ≡ Ok found_8
  unfolding areas
  areas_8 =
      let size = whole_size 8 five small in
      bind_is (version_of bytes_8) (behind_version bytes_8) 8 (Ok found_8) (version_is bytes_8 8 (omega (arith, size)) (version_reads 8 five small (omega arith)) refl)
      (then_is (leb 24 (length bytes_8)) (fault GDB_OFFSETS 4) (offsets_from bytes_8 4 24 (map (λ k. field 4 (4 * k + 4) bytes_8) (below 5)) >>= behind_offsets bytes_8 8) (Ok found_8) (le-leb 24 (length bytes_8) (omega (arith, size)))
      (bind_is (offsets_from bytes_8 4 24 (map (λ k. field 4 (4 * k + 4) bytes_8) (below 5))) (behind_offsets bytes_8 8) (map (offset 8 five small) (below 5)) (Ok found_8) (offsets_are 8 five small) refl))

  pub laid_8 : Laid bytes_8 a b c d [] e
  unfolding areas_at
  laid_8 = record {
    found = found_8;
    is = areas_8;
    cus_are = area_reads 8 five small 0 (omega arith);
    types_are = area_reads 8 five small 1 (omega arith);
    addresses_are = area_reads 8 five small 2 (omega arith);
    table_is = area_reads 8 five small 3 (omega arith);
    shortcut_is = no_bytes bytes_8 (offset 8 five small 4);
    pool_is = last_reads 8 five small 4 refl;
  }

module _ (a b c d e f : List ℕ) (short : 8 ≤ length e) (small : length (with_header 9 (a ∷ b ∷ c ∷ d ∷ e ∷ f ∷ [])) < 2 ^ 32) where
  abbrev six : List (List ℕ)
  six = a ∷ b ∷ c ∷ d ∷ e ∷ f ∷ []

  abbrev bytes_9 : List ℕ
  bytes_9 = with_header 9 six

  abbrev found_9 : Areas
  found_9 = areas_at bytes_9 9 (map (offset 9 six small) (below 6))

  shortcut_9 : found_9.shortcut.rest ≡ e
  unfolding areas_at
  shortcut_9 = area_reads 9 six small 4 (omega arith)

  areas_9 : areas bytes_9 ≡ Ok found_9
  unfolding areas
  areas_9 =
      let size = whole_size 9 six small in
      let enough : 8 ≤ length found_9.shortcut.rest = omega (arith, short, ap length shortcut_9) in
      bind_is (version_of bytes_9) (behind_version bytes_9) 9 (Ok found_9) (version_is bytes_9 9 (omega (arith, size)) (version_reads 9 six small (omega arith)) refl)
      (then_is (leb 28 (length bytes_9)) (fault GDB_OFFSETS 4) (offsets_from bytes_9 4 28 (map (λ k. field 4 (4 * k + 4) bytes_9) (below 6)) >>= behind_offsets bytes_9 9) (Ok found_9) (le-leb 28 (length bytes_9) (omega (arith, size)))
      (bind_is (offsets_from bytes_9 4 28 (map (λ k. field 4 (4 * k + 4) bytes_9) (below 6))) (behind_offsets bytes_9 9) (map (offset 9 six small) (below 6)) (Ok found_9) (offsets_are 9 six small)
      (then_is (leb 8 (length found_9.shortcut.rest)) (fault GDB_OFFSETS 20) (Ok found_9) (Ok found_9) (le-leb 8 (length found_9.shortcut.rest) enough) refl)))

  pub laid_9 : Laid bytes_9 a b c d e f
  unfolding areas_at
  laid_9 = record {
    found = found_9;
    is = areas_9;
    cus_are = area_reads 9 six small 0 (omega arith);
    types_are = area_reads 9 six small 1 (omega arith);
    addresses_are = area_reads 9 six small 2 (omega arith);
    table_is = area_reads 9 six small 3 (omega arith);
    shortcut_is = shortcut_9;
    pool_is = last_reads 9 six small 5 refl;
  }
