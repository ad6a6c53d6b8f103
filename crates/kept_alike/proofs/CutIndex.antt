-- A proper prefix of an index of version 9 has a fault.
use Rattle.std.proofs.Common.{◌≡◌, ℕ, ◌^◌, ◌<◌, List, [], ◌∷◌, length, take, Option, Ok, arith}
use Rattle.std.specs.Prelude.{Contains}
use Rattle.index_model.specs.declared.answer.Main.{Main}
use Rattle.index_model.specs.declared.entry.Entry.{Entry}
use Rattle.index_model.specs.declared.range.UnitRange.{UnitRange}
use Rattle.index_model.specs.declared.unit.Unit.{Unit as UnitHeader}
use Rattle.index_model.specs.GdbIndex.{Pool, address_area, cu_list, gdb_index_bytes, pool_bytes, pool_of, shortcut, symbol_table, types_list}
use Rattle.index_model.specs.GdbAreas.{areas, items}
use Rattle.index_model.specs.GdbIndexRead.{GdbIndex, gdb_index, slot_at, whole_items}
use Rattle.index_model.specs.Meaning.{each}
use Rattle.index_model.proofs.Meanings.{bind_ok, holds_ok}
use Rattle.index_alike.proofs.GdbHeader.{whole_size}
use Rattle.index_alike.proofs.GdbPositions.{HasNoZero}
use Rattle.kept_alike.proofs.CutAreas.{areas_cut}
use Rattle.kept_alike.proofs.CutTable.{slots_cut}

module _ (units : List UnitHeader) (pieces : List UnitRange) (main : Option Main) (entries : List Entry) where
  abbrev pool : Pool
  pool = pool_of units entries

  abbrev parts : List (List ℕ)
  parts = cu_list units ∷ types_list units ∷ address_area units pieces ∷ symbol_table units entries pool ∷ shortcut pool main ∷ pool_bytes pool ∷ []

  pub index_cut : ((name : List ℕ) → Contains pool.names name → HasNoZero name) → length (gdb_index_bytes units pieces main entries 9) < 2 ^ 32 → (j : ℕ) → j < length (gdb_index_bytes units pieces main entries 9) → (index : GdbIndex) → gdb_index (take j (gdb_index_bytes units pieces main entries 9)) ≡ Ok index → ⊥
  unfolding gdb_index gdb_index_bytes
  index_cut clean small j cut index is =
      let bytes : List ℕ = gdb_index_bytes units pieces main entries 9 in
      let pool_small : length (pool_bytes pool) < 2 ^ 32 = omega (arith, whole_size 9 parts small, small) in
      let a = bind_ok (areas (take j bytes)) _ index is in
      let w = bind_ok (whole_items a.0) _ index a.2 in
      let h = holds_ok _ _ _ index w.2 in
      let s = bind_ok (each (slot_at a.0) (items 8 a.0.table)) _ index h.1 in
      let c = areas_cut (cu_list units) (types_list units) (address_area units pieces) (symbol_table units entries pool) (shortcut pool main) (pool_bytes pool) small j cut a.0 a.1 in
      slots_cut units entries pool_small clean a.0 c.left c.table_is c.pool_is c.less s.0 s.1
