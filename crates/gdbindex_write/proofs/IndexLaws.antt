-- The areas one after the other are the index.
use Rattle.std.proofs.Common.{◌≡◌, ℕ, ◌+◌, ◌⊎◌, inl, inr, List, [], ◌∷◌, ◌++◌, length, Option, sym, ap, ◌∙◌, subst, arith}
use Rattle.std.specs.Prelude.{flat_map, ◌==◌, if◌then◌else◌}
use Rattle.std.proofs.lemmas.List.{append_assoc, append-nil, length-append}
use Rattle.index_model.specs.declared.answer.Main.{Main}
use Rattle.index_model.specs.declared.entry.Entry.{Entry}
use Rattle.index_model.specs.declared.range.UnitRange.{UnitRange}
use Rattle.index_model.specs.declared.unit.Unit.{Unit as UnitHeader}
use Rattle.index_model.specs.Layout.{u32_bytes, ended}
use Rattle.index_model.specs.GdbIndex.{Pool, pool_of, cu_list, types_list, address_area, symbol_table, shortcut, pool_bytes, vector_bytes, with_header, gdb_index_bytes}
use Rattle.index_model.proofs.IndexSizes.{shortcut_size}
use Rattle.gdbindex_write.specs.declared.sizes.Sizes.{Sizes}
use Rattle.gdbindex_write.specs.Sizes.{sizes_of, total}
use Rattle.gdbindex_write.specs.Header.{offsets, area_sizes, header_bytes}
use Rattle.gdbindex_write.proofs.SizeLaws.{cu_length, types_length, addresses_length, table_length, pool_length}

-- ---- areas behind their offsets

module _ (a b c d e : List ℕ) where
  pub joined_5 : (v : ℕ) → with_header v (a ∷ b ∷ c ∷ d ∷ e ∷ []) ≡ ((((u32_bytes v ++ offsets (length a ∷ length b ∷ length c ∷ length d ∷ length e ∷ [])) ++ a) ++ b) ++ c ++ d) ++ e
  joined_5 v = simp (append_assoc, append-nil)

  pub length_5 : (v : ℕ) → length (with_header v (a ∷ b ∷ c ∷ d ∷ e ∷ [])) ≡ 24 + length a + length b + length c + length d + length e
  length_5 v = ap length (joined_5 v) ∙ simp length-append (omega arith)

module _ (a b c d e f : List ℕ) where
  pub joined_6 : (v : ℕ) → with_header v (a ∷ b ∷ c ∷ d ∷ e ∷ f ∷ []) ≡ ((((u32_bytes v ++ offsets (length a ∷ length b ∷ length c ∷ length d ∷ length e ∷ length f ∷ [])) ++ a) ++ b) ++ c ++ d) ++ e ++ f
  joined_6 v = simp (append_assoc, append-nil)

  pub length_6 : (v : ℕ) → length (with_header v (a ∷ b ∷ c ∷ d ∷ e ∷ f ∷ [])) ≡ 28 + length a + length b + length c + length d + length e + length f
  length_6 v = ap length (joined_6 v) ∙ simp length-append (omega arith)

parts_5 : (h a b c d v n : List ℕ) → (((h ++ a) ++ b) ++ c ++ d) ++ (v ++ n) ≡ ((((h ++ a) ++ b) ++ c) ++ d) ++ [] ++ v ++ n
parts_5 h a b c d v n = simp (append_assoc, append-nil)

parts_6 : (h a b c d s v n : List ℕ) → (((h ++ a) ++ b) ++ c ++ d) ++ s ++ (v ++ n) ≡ ((((h ++ a) ++ b) ++ c) ++ d) ++ s ++ v ++ n
parts_6 h a b c d s v n = simp (append_assoc, append-nil)

-- ---- the index

module _ (units : List UnitHeader) (pieces : List UnitRange) (main : Option Main) (entries : List Entry) where
  abbrev pool : Pool
  pool = pool_of units entries

  abbrev cus : List ℕ
  cus = cu_list units

  abbrev types : List ℕ
  types = types_list units

  abbrev area : List ℕ
  area = address_area units pieces

  abbrev table : List ℕ
  table = symbol_table units entries pool

  abbrev texts : List ℕ
  texts = pool_bytes pool

  abbrev sizes : Sizes
  sizes = sizes_of units pieces pool

  sizes_8 : area_sizes 8 sizes ≡ length cus ∷ length types ∷ length area ∷ length table ∷ length texts ∷ []
  sizes_8 = sym (λ i. cu_length units i ∷ types_length units i ∷ addresses_length units pieces i ∷ table_length units entries pool i ∷ pool_length pool i ∷ [])

  sizes_9 : area_sizes 9 sizes ≡ length cus ∷ length types ∷ length area ∷ length table ∷ length (shortcut pool main) ∷ length texts ∷ []
  sizes_9 = sym (λ i. cu_length units i ∷ types_length units i ∷ addresses_length units pieces i ∷ table_length units entries pool i ∷ shortcut_size pool main i ∷ pool_length pool i ∷ [])

  abbrev short : ℕ → List ℕ
  short version = if version == 9 then shortcut pool main else []

  abbrev written : ℕ → List ℕ
  written version = (((((([] ++ header_bytes version sizes) ++ cus) ++ types) ++ area) ++ table) ++ short version) ++ flat_map vector_bytes pool.vectors ++ flat_map ended pool.names

  written_8 : written 8 ≡ gdb_index_bytes units pieces main entries 8
  unfolding gdb_index_bytes
  written_8 = ap (λ (w : List ℕ). (((((u32_bytes 8 ++ offsets w) ++ cus) ++ types) ++ area) ++ table) ++ [] ++ flat_map vector_bytes pool.vectors ++ flat_map ended pool.names) sizes_8 ∙ sym (joined_5 cus types area table texts 8 ∙ parts_5 (u32_bytes 8 ++ offsets (length cus ∷ length types ∷ length area ∷ length table ∷ length texts ∷ [])) cus types area table (flat_map vector_bytes pool.vectors) (flat_map ended pool.names))

  written_9 : written 9 ≡ gdb_index_bytes units pieces main entries 9
  unfolding gdb_index_bytes
  written_9 = ap (λ (w : List ℕ). (((((u32_bytes 9 ++ offsets w) ++ cus) ++ types) ++ area) ++ table) ++ shortcut pool main ++ flat_map vector_bytes pool.vectors ++ flat_map ended pool.names) sizes_9 ∙ sym (joined_6 cus types area table (shortcut pool main) texts 9 ∙ parts_6 (u32_bytes 9 ++ offsets (length cus ∷ length types ∷ length area ∷ length table ∷ length (shortcut pool main) ∷ length texts ∷ [])) cus types area table (shortcut pool main) (flat_map vector_bytes pool.vectors) (flat_map ended pool.names))

  -- the parts as they are written are the index
  pub written_is : (version : ℕ) → (version ≡ 8) ⊎ (version ≡ 9) → written version ≡ gdb_index_bytes units pieces main entries version
  written_is version v = elim v [
    | inl e ↦ subst (λ (n : ℕ). written n ≡ gdb_index_bytes units pieces main entries n) (sym e) written_8
    | inr e ↦ subst (λ (n : ℕ). written n ≡ gdb_index_bytes units pieces main entries n) (sym e) written_9
  ]

  length_8 : length (gdb_index_bytes units pieces main entries 8) ≡ total 8 sizes
  unfolding gdb_index_bytes
  length_8 = length_5 cus types area table texts 8 ∙ (λ i. 24 + cu_length units i + types_length units i + addresses_length units pieces i + table_length units entries pool i + pool_length pool i) ∙ omega arith

  length_9 : length (gdb_index_bytes units pieces main entries 9) ≡ total 9 sizes
  unfolding gdb_index_bytes
  length_9 = length_6 cus types area table (shortcut pool main) texts 9 ∙ (λ i. 28 + cu_length units i + types_length units i + addresses_length units pieces i + table_length units entries pool i + shortcut_size pool main i + pool_length pool i) ∙ omega arith

  -- it has as many bytes as its areas
  pub length_is : (version : ℕ) → (version ≡ 8) ⊎ (version ≡ 9) → length (gdb_index_bytes units pieces main entries version) ≡ total version sizes
  length_is version v = elim v [
    | inl e ↦ subst (λ (n : ℕ). length (gdb_index_bytes units pieces main entries n) ≡ total n sizes) (sym e) length_8
    | inr e ↦ subst (λ (n : ℕ). length (gdb_index_bytes units pieces main entries n) ≡ total n sizes) (sym e) length_9
  ]
