use Rattle.std.proofs.Common.{◌≡◌, ℕ, length, map, ap, ◌∙◌}
use Rattle.index_model.specs.NameIndex.{uleb_bytes, abbreviation_table}
use Rattle.debugnames_write.specs.Rows.{row_seen}
use Rattle.debugnames_write.proofs.Stops.{stopped}
use Rattle.debugnames_write.proofs.TableLaws.{size_on, size_passes, size_whole}
use Rattle.debugnames_write.proofs.abbreviations.Abbreviations.size.Goals as goal

pub returns-in_err-size : goal.returns-in_err-size
returns-in_err-size c =
    let view : map row_seen c.deref-row-items.result.now ≡ c.args.self.now = ap (map row_seen) c.deref-row-items.ensures.value ∙ c.self.view_is in
    let tag = c.uleb_size-in-loop-place.ensures.size ∙ ap (λ (n : ℕ). length (uleb_bytes n)) c.from.ensures in
    rw (← view) (stopped c.from_residual.result c.in_err-size.field-0.0 _ c.from_residual.ensures.1 c.in_err-size.ensures
    (λ pass. size_passes c.deref-row-items.result.now c.loop-place.place _ c.loop-place-test.true c.loop-place.size _ _ 4294967283 c.loop-place.invariant.size c.uleb_size.ensures.size tag pass))

pub loop-place-preserved : goal.loop-place-preserved
loop-place-preserved c =
    let tag = c.uleb_size-in-loop-place.ensures.size ∙ ap (λ (n : ℕ). length (uleb_bytes n)) c.from.ensures in
    record {
      size = size_on c.deref-row-items.result.now c.loop-place.place _ c.loop-place-test.true c.loop-place.size _ _ _ c.loop-place.invariant.size c.uleb_size.ensures.size tag c.in_ok-size.ensures.0;
      fits = c.in_ok-size.ensures.1;
    }

pub returns : goal.returns
returns c =
    let view : map row_seen c.deref-row-items.result.now ≡ c.args.self.now = ap (map row_seen) c.deref-row-items.ensures.value ∙ c.self.view_is in
    (size_whole c.deref-row-items.result.now c.loop-place.place c.loop-place.size c.loop-place-test.false c.loop-place.invariant.size ∙ ap (λ w. length (abbreviation_table w)) view, c.loop-place.invariant.fits)
