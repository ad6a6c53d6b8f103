-- Entries whose names are simple.
use Rattle.std.specs.Prelude.{◌≡◌, false, List, length, All}
use Rattle.index_model.specs.declared.entry.Entry.{Entry}
use Rattle.query_engine.specs.declared.orders.Orders.{Orders}
use Rattle.query_engine.specs.declared.simple.SimpleNames.{SimpleNames}
use Rattle.query_engine.specs.declared.simple.SimpleNames.TheVariants.{Shared, Own}
use Rattle.query_engine.specs.declared.way.Way.TheVariants.{ByName, BySimple}
use Rattle.query_engine.specs.Sorted.{AreNamesBy}

-- the entry's name is its simple name
pub record IsWhole (e : Entry) : Type 0 where
  pub plain : e.linkage ≡ false
  pub whole : e.tail ≡ length e.name

-- the simple names of these entries
abbrev pub AreSimpleOf : List Entry → SimpleNames → Type 0
AreSimpleOf es Shared = All IsWhole es
AreSimpleOf es (Own n) = AreNamesBy BySimple es n

-- the names and the simple names of these entries
pub record AreOrdersOf (es : List Entry) (o : Orders) : Type 0 where
  pub names : AreNamesBy ByName es o.by_name
  pub simple : AreSimpleOf es o.by_simple
