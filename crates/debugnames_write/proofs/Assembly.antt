-- The size of an index, and its parts one after the other.
use Rattle.std.proofs.Common.{◌≡◌, ℕ, ◌+◌, ◌*◌, ◌-◌, ◌<◌, true, false, List, [], ◌∷◌, ◌++◌, length, map, ap, ◌∙◌, arith, length-append}
use Rattle.std.specs.Prelude.{flat_map}
use Rattle.common_laws.proofs.Appended.{flat_map-map}
use Rattle.index_model.specs.declared.unit.Unit.{Unit as UnitHeader}
use Rattle.index_model.specs.Layout.{below, u16_bytes, u32_bytes, start_of}
use Rattle.index_model.specs.NameIndex.{Row as IndexRow, abbreviation_table, bucket, unit_offsets}
use Rattle.debugnames_write.specs.declared.name.Name.{Name}
use Rattle.debugnames_write.specs.declared.units.UnitPlaces.{UnitPlaces}
use Rattle.debugnames_write.specs.Laid.{laid_out, body_bytes, head_bytes, head_with, bucket_bytes, hash_bytes, string_bytes, start_bytes, groups_bytes, pool_bytes}
use Rattle.debugnames_write.specs.Seen.{texts}
use Rattle.debugnames_write.specs.Units.{ArePlacesOf}
use Rattle.debugnames_write.proofs.Whole.{laid_size, pushed}

module _ (units : List UnitHeader) (rows : List IndexRow) (names : List Name) (most : ℕ) where
  pub table_too_large : most < length (abbreviation_table rows) → most < length (laid_out units rows names)
  table_too_large pass = let size = laid_size units rows names in omega (arith, size)

  pub pool_too_large : most < length (pool_bytes rows names) → most < length (laid_out units rows names)
  pool_too_large pass = let size = laid_size units rows names in omega (arith, size)

  module _ (places : UnitPlaces) (p : ArePlacesOf units places) (table : ℕ) (is_table : table ≡ length (abbreviation_table rows)) where
    pub size_is : (first pool all : ℕ) → first ≡ 36 + (places.compile_units + places.type_units) * 4 + length names * 16 + table → pool ≡ length (pool_bytes rows names) → all ≡ first + pool → all ≡ length (laid_out units rows names)
    size_is first pool all is_first is_pool is_all = let size = laid_size units rows names in omega (arith, size, p.compile, p.types)

    pub all_too_large : (first pool : ℕ) → first ≡ 36 + (places.compile_units + places.type_units) * 4 + length names * 16 + table → pool ≡ length (pool_bytes rows names) → most < first + pool → most < length (laid_out units rows names)
    all_too_large first pool is_first is_pool pass = let size = laid_size units rows names in omega (arith, size, p.compile, p.types)

-- ---- the bytes

body_size : (units : List UnitHeader) (rows : List IndexRow) (names : List Name) → length (laid_out units rows names) ≡ 4 + length (body_bytes units rows names)
unfolding laid_out
body_size units rows names = length-append (u32_bytes (length (body_bytes units rows names))) (body_bytes units rows names)

module _ (units : List UnitHeader) (rows : List IndexRow) (names : List Name) (places : UnitPlaces) (size table : ℕ) (buckets starts : List ℕ)
    (p : ArePlacesOf units places) (is_table : table ≡ length (abbreviation_table rows)) (is_size : size ≡ length (laid_out units rows names))
    (are_buckets : buckets ≡ map (bucket (texts names)) (below (length names))) (are_starts : starts ≡ map (start_of (groups_bytes rows names)) (below (length names))) where
  length_is : u32_bytes (size - 4) ≡ u32_bytes (length (body_bytes units rows names))
  length_is =
      let body = body_size units rows names in
      let n : size - 4 ≡ length (body_bytes units rows names) = omega (arith, body) in
      ap u32_bytes n

  head_is : head_with places (length names) table ≡ head_bytes units (length names) (abbreviation_table rows)
  head_is = λ i. u16_bytes 5 ++ u16_bytes 0 ++ flat_map u32_bytes (p.compile i ∷ p.types i ∷ 0 ∷ length names ∷ length names ∷ is_table i ∷ 0 ∷ [])

  buckets_is : flat_map u32_bytes buckets ≡ bucket_bytes names
  buckets_is = ap (flat_map u32_bytes) are_buckets ∙ flat_map-map u32_bytes (bucket (texts names)) (below (length names))

  starts_is : flat_map u32_bytes starts ≡ start_bytes rows names
  starts_is = ap (flat_map u32_bytes) are_starts ∙ flat_map-map u32_bytes (start_of (groups_bytes rows names)) (below (length names))

  abbrev joined : List ℕ → List ℕ → List ℕ → List ℕ → List ℕ
  joined len head bs ss = len ++ (head ++ (unit_offsets false units ++ unit_offsets true units) ++ (bs ++ hash_bytes names ++ string_bytes names ++ ss) ++ abbreviation_table rows ++ pool_bytes rows names)

  parts : joined (u32_bytes (size - 4)) (head_with places (length names) table) (flat_map u32_bytes buckets) (flat_map u32_bytes starts) ≡ laid_out units rows names
  unfolding laid_out
  parts = λ i. joined (length_is i) (head_is i) (buckets_is i) (starts_is i)

  pub assembled : (o0 o1 o2 o3 o4 : List ℕ) → o0 ≡ []
      → o1 ≡ (((o0 ++ u32_bytes (size - 4)) ++ head_with places (length names) table) ++ unit_offsets false units) ++ unit_offsets true units
      → o2 ≡ (((o1 ++ flat_map u32_bytes buckets) ++ hash_bytes names) ++ string_bytes names) ++ flat_map u32_bytes starts
      → o3 ≡ o2 ++ abbreviation_table rows → o4 ≡ o3 ++ pool_bytes rows names → o4 ≡ laid_out units rows names
  assembled o0 o1 o2 o3 o4 e0 e1 e2 e3 e4 =
      let f1 = e1 ∙ ap (λ (w : List ℕ). (((w ++ u32_bytes (size - 4)) ++ head_with places (length names) table) ++ unit_offsets false units) ++ unit_offsets true units) e0 in
      let f2 = e2 ∙ ap (λ (w : List ℕ). (((w ++ flat_map u32_bytes buckets) ++ hash_bytes names) ++ string_bytes names) ++ flat_map u32_bytes starts) f1 in
      let f3 = e3 ∙ ap (λ (w : List ℕ). w ++ abbreviation_table rows) f2 in
      let f4 = e4 ∙ ap (λ (w : List ℕ). w ++ pool_bytes rows names) f3 in
      f4 ∙ pushed (u32_bytes (size - 4)) (head_with places (length names) table) (unit_offsets false units) (unit_offsets true units) (flat_map u32_bytes buckets) (hash_bytes names) (string_bytes names) (flat_map u32_bytes starts) (abbreviation_table rows) (pool_bytes rows names)
      ∙ parts
