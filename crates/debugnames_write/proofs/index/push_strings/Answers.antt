use Rattle.std.proofs.Common.{ℕ, List}
use Rattle.common_laws.proofs.Appended.{no_part, more_parts, all_parts}
use Rattle.index_model.specs.Layout.{u32_bytes}
use Rattle.debugnames_write.specs.declared.name.Name.{Name}
use Rattle.debugnames_write.proofs.index.push_strings.Goals as goal

abbrev bytes : Name → List ℕ
bytes n = u32_bytes n.string

pub loop-name-init : goal.loop-name-init
loop-name-init c = no_part bytes c.args.names.now c.args.out.now.items

pub loop-name-preserved : goal.loop-name-preserved
loop-name-preserved c = more_parts bytes c.args.names.now c.loop-name.name-index _ c.args.out.now.items c.loop-name-test.true c.loop-name.invariant c.in_ok-push_u32.ensures

pub returns : goal.returns
returns c = all_parts bytes c.args.names.now c.loop-name.name-index c.args.out.now.items c.loop-name-test.false c.loop-name.invariant
