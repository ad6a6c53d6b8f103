use Rattle.std.proofs.Common.{◌≡◌, length}
use Rattle.index_model.specs.Walk.{items}
use Rattle.entry_scan.proofs.walk.Walk.next.Given as goal

-- a null takes no entry away
abbrev pub invariant-loop-fault : goal.invariant-loop-fault
invariant-loop-fault l = record {
  items : items l.self ≡ items l.initial.self;
  end : l.self.end ≡ l.initial.self.end;
}

abbrev pub decreases-loop-fault : goal.decreases-loop-fault
decreases-loop-fault l = length l.self.tokens
