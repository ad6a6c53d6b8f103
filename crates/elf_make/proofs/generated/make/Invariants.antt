use Rattle.std.proofs.Common.{◌≡◌}
use Rattle.std.specs.Prelude.{flat_map}
use Rattle.index_model.specs.Layout.{below}
use Rattle.elf_make.specs.Generated.{generated_unit}
use Rattle.elf_make.proofs.generated.make.Given as goal

-- the units so far
abbrev pub invariant-loop-index : goal.invariant-loop-index
invariant-loop-index l = l.info.items ≡ flat_map (generated_unit l.seed l.units) (below l.index)
