-- What is kept behind the units of a run.
use Rattle.std.specs.Prelude.{◌≡◌, ℕ, nat_eq, List, [], ◌∷◌, ◌++◌, flat_map, map, Some}
use Rattle.std.specs.List.{AllZip}
use Rattle.indexmap.specs.IndexMap.{IndexMap, get}
use Rattle.index_model.specs.Program.{Walked}
use Rattle.index_model.specs.Sections.{Section}
use Rattle.index_model.specs.Strings.{str}
use Rattle.index_model.specs.ShardParts.{root_facts, kept_in, IsSeenOf, spans_of, imports_in}
use Rattle.shard_build.specs.declared.run.ShardSoFar.{ShardSoFar}
use Rattle.entry_scan.specs.TablesAtOffsets.{IsAtOffset}
use Rattle.entry_scan.specs.declared.abbrev_table.AbbrevTable.{AbbrevTable}

-- what is kept is what a Shard keeps of these walks
pub record Holds (ss : List Section) (r : ShardSoFar) (ws : List Walked) : Type 0 where
  pub roots : r.roots.items ≡ map root_facts ws
  pub nodes : AllZip (IsSeenOf ss) r.kept.nodes.nodes (kept_in ws)
  pub strings : r.kept.nodes.strings ≡ str ss
  pub spans : r.kept.spans ≡ flat_map spans_of ws
  pub imports : r.kept.imports.items ≡ flat_map (imports_in ss) ws

-- behind one more unit
abbrev pub HoldsOneMore : List Section → ShardSoFar → ShardSoFar → Walked → Type 0
HoldsOneMore ss old new w = (ws : List Walked) → Holds ss old ws → Holds ss new (ws ++ w ∷ [])

-- each of the tables that are kept is the one at its offset
abbrev pub AreAtOffsets : {S : Type 0} → List ℕ → IndexMap ℕ AbbrevTable S → Type 0
AreAtOffsets bytes kept = (offset : ℕ) (t : AbbrevTable) → get nat_eq kept offset ≡ Some t → IsAtOffset bytes t
