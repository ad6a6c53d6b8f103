use Rattle.std.proofs.Common.{◌≡◌, take}
use Rattle.std.specs.Prelude.{flat_map}
use Rattle.index_model.specs.Layout.{ended}
use Rattle.debugnames_write.proofs.strings.strings_of.Given as goal

abbrev pub invariant-loop-group : goal.invariant-loop-group
invariant-loop-group l = l.strings.items ≡ flat_map (λ g. ended g.name.now) (take l.group-index l.groups)
