use Rattle.std.proofs.Common.{ℕ, sym, subst}
use Rattle.file_image.specs.Images.{Image}
use Rattle.shard_build.proofs.MapLaws.{one_more}
use Rattle.gdb_index.specs.declared.step.Step.{Step}
use Rattle.gdb_index.specs.Kept.{AreKept}
use Rattle.gdb_index.specs.Steps.{IsStepAt}
use Rattle.gdb_index.proofs.StepLaws.{kept_still, same_step}
use Rattle.gdb_index.proofs.names.FileNames.make_step.Goals as goal

pub at-requires : goal.at-requires
at-requires c = c.self.invariant.texts

pub invariant_of-self : goal.invariant_of-self
invariant_of-self c = subst (λ (e : Image). AreKept e.file c.self.inside.texts.now c.self.inside.steps c.self.inside.fronts) (sym c.at.ensures.kept) c.self.invariant

pub invariant_of-self-in_err-share : goal.invariant_of-self-in_err-share
invariant_of-self-in_err-share c = subst (λ (e : Image). AreKept e.file c.self.inside.texts.now c.self.inside.steps c.self.inside.fronts) (sym c.at.ensures.kept) c.self.invariant

pub invariant_of-self-in_err-insert : goal.invariant_of-self-in_err-insert
invariant_of-self-in_err-insert c =
    let kept = subst (λ (e : Image). AreKept e.file c.self.inside.texts.now c.self.inside.steps c.self.inside.fronts) (sym c.at.ensures.kept) c.self.invariant in
    record { texts = kept.texts; steps = kept_still c.at.new.places.file c.self.inside.steps c.insert.new.self kept.steps c.in_err-insert.ensures.err; fronts = kept.fronts }

pub invariant_of-self-2 : goal.invariant_of-self-2
invariant_of-self-2 c =
    let kept = subst (λ (e : Image). AreKept e.file c.self.inside.texts.now c.self.inside.steps c.self.inside.fronts) (sym c.at.ensures.kept) c.self.invariant in
    let f = c.at.new.places.file in
    let o = c.args.offset in
    let own = subst (λ (e : Image). IsStepAt e.file o c.in_ok-step.step) (sym c.at.ensures.kept) c.in_ok-step.ensures.value in
    let same = same_step f o c.in_ok-step.step c.in_ok-share.field-0 c.in_ok-share.ensures own in
    record {
      texts = kept.texts;
      steps = one_more (λ (n : ℕ) (s : Step). IsStepAt f n s) c.self.inside.steps c.insert.new.self o c.in_ok-share.field-0 kept.steps same c.in_ok-insert.ensures.updates.0;
      fronts = kept.fronts;
    }

pub returns-clause-value : goal.returns-clause-value
returns-clause-value c = subst (λ (e : Image). IsStepAt e.file c.args.offset c.in_ok-step.step) c.self.view_is c.in_ok-step.ensures.value
