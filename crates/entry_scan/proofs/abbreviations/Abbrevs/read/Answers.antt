use Rattle.entry_scan.proofs.AbbreviationSorting.{searchable}
use Rattle.entry_scan.proofs.abbreviations.Abbrevs.read.Goals as goal

pub invariant_of-result : goal.invariant_of-result
invariant_of-result c = (c.in_ok-parts.ensures.within, searchable c.in_ok-parts.parts.heads.items c.in_ok-parts.parts.others.items c.sort_unstable.new.self.items c.in_ok-parts.ensures.split c.sort_unstable.ensures.permutation c.sort_unstable.ensures.sorted)
