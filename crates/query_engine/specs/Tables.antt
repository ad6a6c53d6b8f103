-- What the parts of a table are for its entries.
use Rattle.std.specs.Prelude.{◌≡◌, ℕ, ◌<◌, ◌^◌, List, length}
use Rattle.index_model.specs.declared.entry.Entry.{Entry}
use Rattle.query_engine.specs.declared.way.Way.TheVariants.{ByName}
use Rattle.query_engine.specs.declared.names.SortedNames.{SortedNames}
use Rattle.query_engine.specs.declared.simple.SimpleNames.{SimpleNames}
use Rattle.query_engine.specs.Asked.{TailsFit}
use Rattle.query_engine.specs.Counts.{name_count, without_linkage}
use Rattle.query_engine.specs.Simple.{AreSimpleOf}
use Rattle.query_engine.specs.Sorted.{AreNamesOf}

-- the sorted names and simple names are those of the entries, and the number is that of their names without linkage entries
pub record AreTableOf (es : List Entry) (names : SortedNames) (simple : SimpleNames) (distinct : ℕ) : Type 0 where
  pub few : length es < 2 ^ 32
  pub tails : TailsFit es
  pub by_name : names.way ≡ ByName
  pub own : AreNamesOf es names
  pub own_simple : AreSimpleOf es simple
  pub count : distinct ≡ name_count (without_linkage es)
