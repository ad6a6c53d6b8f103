use Rattle.std.proofs.Common.{List, subst}
use Rattle.std.specs.Prelude.{Contains}
use Rattle.range_lists.specs.declared.found.RangeList.{RangeList}
use Rattle.range_lists.proofs.Keys.{lists_cmp, of_insert}
use Rattle.range_lists.proofs.found.FoundRanges.note.Goals as goal

pub returns-clause-lists : goal.returns-clause-lists
returns-clause-lists c other m = of_insert lists_cmp c.args.self.now.lists.keys c.args.list other (subst (λ (ks : List RangeList). Contains ks other) c.in_ok-insert.ensures.keys m)
