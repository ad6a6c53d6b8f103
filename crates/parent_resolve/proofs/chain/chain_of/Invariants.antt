use Rattle.std.proofs.Common.{◌≡◌, ◌≤◌, ◌-◌}
use Rattle.ix_base.specs.declared.limits.TheConstants.{MAX_CHAIN_HOPS}
use Rattle.parent_resolve.specs.Followed.{ForEntry}
use Rattle.parent_resolve.proofs.ChainLaws.{SoFar}
use Rattle.parent_resolve.proofs.chain.chain_of.Given as goal

-- the entries stay what they were, and the chain is followed as far as the hops
abbrev pub invariant-loop-target : goal.invariant-loop-target
invariant-loop-target l = record {
  kept : l.entries ≡ l.fn.entries;
  few : l.hops ≤ MAX_CHAIN_HOPS;
  so_far : ForEntry l.fn.entries l.fn.node (λ p d. SoFar p d l.chain l.hops);
}

abbrev pub decreases-loop-target : goal.decreases-loop-target
decreases-loop-target l = MAX_CHAIN_HOPS - l.hops
