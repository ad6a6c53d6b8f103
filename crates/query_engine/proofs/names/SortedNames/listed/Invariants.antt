use Rattle.std.proofs.Common.{◌≡◌, take}
use Rattle.query_engine.specs.Asked.{is_asked}
use Rattle.query_engine.specs.Listed.{names_of, HaveEntriesBy}
use Rattle.query_engine.proofs.CountLaws.{group_texts}
use Rattle.query_engine.proofs.names.SortedNames.listed.Given as goal

abbrev pub invariant-loop-index : goal.invariant-loop-index
invariant-loop-index l = record {
  names : names_of l.listed.names.items ≡ take l.index (group_texts l.entries l.self);
  own : HaveEntriesBy (is_asked l.self.way) l.entries l.listed;
}
