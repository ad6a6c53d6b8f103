use Rattle.std.proofs.Common.{sym, ◌∙◌}
use Rattle.range_lists.proofs.Keys.{lists_cmp, lists, of_equal}
use Rattle.range_lists.proofs.found.FoundRanges.has.Goals as goal

pub returns : goal.returns
returns c is = of_equal (lists_cmp c.args.list) c.args.list (lists c.args.list) c.args.self.now.lists.keys (sym c.contains.ensures ∙ is)
