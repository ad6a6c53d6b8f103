use Rattle.std.proofs.Common.{◌≡◌, length}
use Rattle.parent_resolve.specs.Paths.{EndIn}
use Rattle.parent_resolve.proofs.paths.Paths.keep.Given as goal

-- the members that are left end in the scope
abbrev pub invariant-loop-member : goal.invariant-loop-member
invariant-loop-member l = record {
  kept : l.self ≡ l.fn.self;
  left : EndIn l.fn.self l.passed.items l.scope;
}

abbrev pub decreases-loop-member : goal.decreases-loop-member
decreases-loop-member l = length l.passed.items
