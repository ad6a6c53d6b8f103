use Rattle.std.proofs.Common.{◌≡◌, ◌++◌, take}
use Rattle.std.specs.Prelude.{flat_map}
use Rattle.index_model.specs.Layout.{ended}
use Rattle.gdbindex_write.proofs.names.put_names.Given as goal

abbrev pub invariant-loop-symbol : goal.invariant-loop-symbol
invariant-loop-symbol l = l.out.items ≡ l.initial.out.items ++ flat_map (λ s. ended s.name.now) (take l.symbol-index l.symbols)
