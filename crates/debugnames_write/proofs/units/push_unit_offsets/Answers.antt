use Rattle.std.proofs.Common.{sym, ◌∙◌, append_assoc}
use Rattle.debugnames_write.proofs.UnitLaws.{offsets_more, offsets_keep}
use Rattle.debugnames_write.proofs.units.push_unit_offsets.Goals as goal
use Rattle.debugnames_write.proofs.units.push_unit_offsets.Goals.{then-is_listed+in_ok-push_u32, else-is_listed}

pub loop-unit-preserved : goal.loop-unit-preserved
loop-unit-preserved c =
    let units = c.args.units.now in
    let i = c.loop-unit.unit-index in
    elim c.if-is_listed.branch [
      | then-is_listed+in_ok-push_u32 w ↦
          let more = offsets_more units i _ c.loop-unit-test.true c.args.types (sym c.is_listed.ensures ∙ w.if-is_listed.true) in
          rw (w.out-is, w.in_ok-push_u32.ensures, c.loop-unit.invariant, more) (simp append_assoc)
      | else-is_listed w ↦
          let keep = offsets_keep units i _ c.loop-unit-test.true c.args.types (sym c.is_listed.ensures ∙ w.if-is_listed.false) in
          rw (w.out-is, keep) c.loop-unit.invariant
    ]
