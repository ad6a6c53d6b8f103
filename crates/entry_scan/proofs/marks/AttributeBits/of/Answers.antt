use Rattle.std.proofs.Common.{◌≡◌, ◌<◌, ◌⊎◌, inl, inr, ap, arith}
use Rattle.std.proofs.lemmas.List.{get_or_default}
use Rattle.entry_scan.specs.declared.abbreviation.Spec.{Spec}
use Rattle.entry_scan.proofs.ValueLaws.{zero_spec}
use Rattle.entry_scan.proofs.marks.AttributeBits.of.Goals as goal

pub loop-spec-preserved : goal.loop-spec-preserved
loop-spec-preserved c = λ k d lt.
    let all = c.args.specs.now in
    let at = c.loop-spec.spec-index in
    let either : (k < at) ⊎ (k ≡ at) = grind arith in
    elim either [
      | inl below ↦ c.with-marks.ensures.others _ (c.loop-spec.invariant k d below)
      | inr same ↦
          let own = rw (ap (λ (s : Spec). s.attribute) (get_or_default all at zero_spec d c.loop-spec-test.true)) at c.with-marks.ensures.one in
          rw same own
    ]

pub returns : goal.returns
returns c = λ k d lt. c.loop-spec.invariant k d (omega (arith, lt, c.loop-spec-test.false))
