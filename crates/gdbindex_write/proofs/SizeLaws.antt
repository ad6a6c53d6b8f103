-- How many bytes the areas have.
use Rattle.std.proofs.Common.{◌≡◌, ℕ, ◌+◌, ◌*◌, not, List, [], ◌∷◌, ◌++◌, length, take, map, refl, ap, ◌∙◌, arith}
use Rattle.std.specs.Prelude.{filter, flat_map, sum_by, count_by}
use Rattle.std.proofs.lemmas.List.{length-append, take-map}
use Rattle.std.proofs.lemmas.List.Concat.{length-flat_map}
use Rattle.std.proofs.lemmas.List.Sums.{sum_by-cons, length-filter}
use Rattle.std.proofs.lemmas.List.Folds.{fold-map}
use Rattle.std.proofs.lemmas.List.FromFn.{length-range_with_len}
use Rattle.index_model.specs.declared.entry.Entry.{Entry}
use Rattle.index_model.specs.declared.range.UnitRange.{UnitRange}
use Rattle.index_model.specs.declared.unit.Unit.{Unit as UnitHeader}
use Rattle.index_model.specs.Layout.{below, u32_bytes, u64_bytes, ended, start_of}
use Rattle.index_model.specs.GdbSlots.{slot_count, slots_of}
use Rattle.index_model.specs.GdbIndex.{Pool, cu_list, types_list, address_area, symbol_table, slot_bytes, name_in_slot, vector_bytes, pool_bytes, is_type_unit, start_in_section, index_number}
use Rattle.index_model.proofs.IndexSizes.{size_4, slot_size}
use Rattle.gdbindex_write.specs.Sizes.{names_size, vectors_size}

-- ---- sums

module _ {X : Type 0} where
  pub sum_same : (f : X → ℕ) (n : ℕ) → ((x : X) → f x ≡ n) → (xs : List X) → sum_by f xs ≡ n * length xs
  sum_same f n e [] = omega arith
  sum_same f n e (x ∷ xs) = omega (arith, sum_by-cons f x xs, e x, sum_same f n e xs)

  -- so many bytes for each item
  pub each_length : {Y : Type 0} (f : X → List Y) (n : ℕ) → ((x : X) → length (f x) ≡ n) → (xs : List X) → length (flat_map f xs) ≡ n * length xs
  each_length f n e xs = length-flat_map f xs ∙ sum_same (λ (x : X). length (f x)) n e xs

  -- items as many bytes as a function says
  pub sum_length : {Y : Type 0} (f : X → List Y) (g : X → ℕ) → ((x : X) → length (f x) ≡ g x) → (xs : List X) → length (flat_map f xs) ≡ sum_by g xs
  sum_length f g e xs = length-flat_map f xs ∙ (λ i. sum_by (λ (x : X). e x i) xs)

  -- where an item begins
  pub start_is : (f : X → List ℕ) (g : X → ℕ) → ((x : X) → length (f x) ≡ g x) → (xs : List X) (k : ℕ) → start_of (map f xs) k ≡ sum_by g (take k xs)
  start_is f g e xs k = ap (sum_by length) (take-map f k xs) ∙ fold-map (λ (a : ℕ) (w : List ℕ). a + length w) f 0 (take k xs) ∙ (λ i. sum_by (λ (x : X). e x i) (take k xs))

-- ---- the areas

pub ended_length : (name : List ℕ) → length (ended name) ≡ length name + 1
ended_length name = length-append name (0 ∷ [])

pub vector_length : (elements : List ℕ) → length (vector_bytes elements) ≡ 4 + 4 * length elements
vector_length elements = length-append (u32_bytes (length elements)) (flat_map u32_bytes elements) ∙ ap (λ (n : ℕ). 4 + n) (each_length u32_bytes 4 size_4 elements)

pub vectors_length : (vectors : List (List ℕ)) → length (flat_map vector_bytes vectors) ≡ vectors_size vectors
vectors_length = sum_length vector_bytes (λ (v : List ℕ). 4 + 4 * length v) vector_length

pub names_length : (names : List (List ℕ)) → length (flat_map ended names) ≡ names_size names
names_length = sum_length ended (λ (n : List ℕ). length n + 1) ended_length

pub pool_length : (pool : Pool) → length (pool_bytes pool) ≡ vectors_size pool.vectors + names_size pool.names
pool_length pool = length-append (flat_map vector_bytes pool.vectors) (flat_map ended pool.names) ∙ (λ i. vectors_length pool.vectors i + names_length pool.names i)

pub cu_length : (units : List UnitHeader) → length (cu_list units) ≡ 16 * count_by (λ u. not (is_type_unit u)) units
cu_length units = each_length (λ (u : UnitHeader). u64_bytes (start_in_section units u) ++ u64_bytes u.length) 16 (λ u. refl) (filter (λ u. not (is_type_unit u)) units) ∙ ap (λ (n : ℕ). 16 * n) (length-filter (λ (u : UnitHeader). not (is_type_unit u)) units)

pub types_length : (units : List UnitHeader) → length (types_list units) ≡ 24 * count_by is_type_unit units
types_length units = each_length (λ (u : UnitHeader). u64_bytes (start_in_section units u) ++ u64_bytes u.type_offset ++ u64_bytes u.signature) 24 (λ u. refl) (filter is_type_unit units) ∙ ap (λ (n : ℕ). 24 * n) (length-filter is_type_unit units)

pub addresses_length : (units : List UnitHeader) (pieces : List UnitRange) → length (address_area units pieces) ≡ 20 * length pieces
addresses_length units pieces = each_length (λ (p : UnitRange). u64_bytes p.range.low ++ u64_bytes p.range.end ++ u32_bytes (index_number units p.unit)) 20 (λ p. refl) pieces

module _ (units : List UnitHeader) (entries : List Entry) (pool : Pool) where
  pub table_length : length (symbol_table units entries pool) ≡ 8 * slot_count (length pool.names)
  unfolding symbol_table
  table_length =
      each_length (λ (slot : ℕ). slot_bytes units entries pool (name_in_slot pool.names (slots_of pool.names) slot)) 8 (λ slot. slot_size units entries pool (name_in_slot pool.names (slots_of pool.names) slot)) (below (slot_count (length pool.names)))
      ∙ ap (λ (n : ℕ). 8 * n) (length-range_with_len 0 (slot_count (length pool.names)))
