use Rattle.std.proofs.Common.{◌≡◌, ◌++◌, map, ap, ◌∙◌}
use Rattle.index_model.specs.NameIndex.{abbreviation_table}
use Rattle.debugnames_write.specs.Rows.{row_seen}
use Rattle.debugnames_write.proofs.TableLaws.{push_on, push_whole}
use Rattle.debugnames_write.proofs.abbreviations.Abbreviations.push.Goals as goal

pub loop-place-preserved : goal.loop-place-preserved
loop-place-preserved c = push_on c.deref-row-items.result.now c.loop-place.place _ c.loop-place-test.true c.args.out.now.items c.loop-place.out.items _ c.loop-place.invariant c.in_ok-push_abbreviation.ensures

pub returns : goal.returns
returns c =
    let view : map row_seen c.deref-row-items.result.now ≡ c.args.self.now = ap (map row_seen) c.deref-row-items.ensures.value ∙ c.self.view_is in
    push_whole c.deref-row-items.result.now c.loop-place.place c.args.out.now.items c.loop-place.out.items _ c.loop-place-test.false c.loop-place.invariant c.in_ok-push.ensures.items ∙ ap (λ w. c.args.out.now.items ++ abbreviation_table w) view
