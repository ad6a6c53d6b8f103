use Rattle.std.proofs.Common.{ℕ, List, [], ◌∷◌, sym, ◌∙◌}
use Rattle.common_laws.proofs.Appended.{two_parts, more_parts, all_parts, flat_map-map}
use Rattle.index_model.specs.Layout.{ended}
use Rattle.debugnames_write.specs.declared.groups.NameEntries.{NameEntries}
use Rattle.debugnames_write.proofs.strings.strings_of.Goals as goal

abbrev bytes : NameEntries → List ℕ
bytes g = ended g.name.now

pub loop-group-init : goal.loop-group-init
loop-group-init c = c.in_ok-strings.ensures.items

pub loop-group-preserved : goal.loop-group-preserved
loop-group-preserved c = more_parts bytes c.args.groups.now c.loop-group.group-index _ [] c.loop-group-test.true c.loop-group.invariant (two_parts c.loop-group.strings.items _ (0 ∷ []) c.in_ok-extend_from_slice.ensures.items c.in_ok-push.ensures.items)

pub returns : goal.returns
returns c = all_parts bytes c.args.groups.now c.loop-group.group-index [] c.loop-group-test.false c.loop-group.invariant ∙ sym (flat_map-map ended (λ (g : NameEntries). g.name.now) c.args.groups.now)
