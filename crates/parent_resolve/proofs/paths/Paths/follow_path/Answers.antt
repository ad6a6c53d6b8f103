use Rattle.std.proofs.Common.{◌≡◌, List, [], ◌∷◌, length, length-append, Some, None, Result, refl, sym, ap, subst, ◌∙◌, rules, arith}
use Rattle.index_model.specs.Gives.{GivesFor}
use Rattle.index_model.specs.Gives.{Stop}
use Rattle.parent_resolve.specs.declared.scope.Scope.{Scope}
use Rattle.std.proofs.lemmas.Result.{err_from_is_err_and}
use Rattle.ix_base.specs.declared.limits.TheConstants.{MAX_PATH_STEPS}
use Rattle.index_model.specs.Faults.{program_of}
use Rattle.index_model.specs.Meaning.{at_place}
use Rattle.index_model.specs.Names.{scope_path}
use Rattle.shard_build.specs.Entries.{EntriesOf}
use Rattle.std.specs.Prelude.{IsOkAnd}
use Rattle.parent_resolve.specs.declared.scope.PathMember.{PathMember}
use Rattle.parent_resolve.specs.Paths.{AreBefore, EndIn, ForMember}
use Rattle.parent_resolve.proofs.PassedLaws.{few_joined, one_passed, passes_member}
use Rattle.parent_resolve.specs.Scopes.{passed_at, IsScope, IsStep}
use Rattle.parent_resolve.proofs.Outwards.{at_start, parent_found, ok_and, ok_here, gives_ok, stops_as, is_wrong, is_over, reaches, ends_here, joined_gives}
use Rattle.parent_resolve.proofs.paths.Paths.follow_path.Goals as goal

pub loop-scope-init : goal.loop-scope-init
loop-scope-init c = record {
  kept = refl;
  within = omega arith;
  before = search rules;
  count = search rules;
  reached = λ p file d dc place. at_start p d (record { steps = 0; length = 0 }) c.args.parent refl refl dc place;
}

pub returns-in-Some-clause-value : goal.returns-in-Some-clause-value
returns-in-Some-clause-value c p file d dc place =
    let s = c.loop-scope.scope in
    let outer = c.in-Some.outer in
    let r = c.loop-scope.invariant.reached p file d dc place in
    let here = ap (λ (e : EntriesOf). program_of e.image.file) c.loop-scope.invariant.kept ∙ file in
    let known = ok_here (IsScope outer) (scope_path p r.end) (c.in-Some.ensures p here r.end r.there r.place) in
    let whole = joined_gives p d s c.loop-scope.around r outer known.0 known.1 known.2 c.args.at c.joined.result _ refl refl c.joined.ensures.fits c.joined.ensures.long in
    subst (λ (r : Result Scope Stop). GivesFor IsScope r (at_place c.args.at (scope_path p d))) c.in_ok-whole.was whole

pub returns-in_err-whole-clause-value : goal.returns-in_err-whole-clause-value
returns-in_err-whole-clause-value c p file d dc place =
    let s = c.loop-scope.scope in
    let outer = c.in-Some.outer in
    let r = c.loop-scope.invariant.reached p file d dc place in
    let here = ap (λ (e : EntriesOf). program_of e.image.file) c.loop-scope.invariant.kept ∙ file in
    let known = ok_here (IsScope outer) (scope_path p r.end) (c.in-Some.ensures p here r.end r.there r.place) in
    let whole = joined_gives p d s c.loop-scope.around r outer known.0 known.1 known.2 c.args.at c.joined.result _ refl refl c.joined.ensures.fits c.joined.ensures.long in
    let q = err_from_is_err_and c.from_residual.result c.from_residual.ensures.1 in
    rw (q.1, q.2) (subst (λ (r : Result Scope Stop). GivesFor IsScope r (at_place c.args.at (scope_path p d))) c.in_err-whole.was whole)

pub keep-requires : goal.keep-requires
keep-requires c =
    let inv = c.loop-scope.invariant in
    let s = c.loop-scope.scope in
    let outer = c.in-Some.outer in
    let e = c.loop-scope.self in
    let few = few_joined s.steps outer.steps c.joined.result c.in_ok-whole.whole _ c.in_ok-whole.was c.joined.ensures.long in
    record {
      next = Some c.loop-scope.around;
      before = subst (λ (k : EntriesOf). AreBefore k c.loop-scope.passed.items (Some c.loop-scope.around)) (sym inv.kept) inv.before;
      behind = c.in-Some.ensures;
      few = omega (arith, few, inv.count);
    }

pub keep-requires-in-None : goal.keep-requires-in-None
keep-requires-in-None c =
    let inv = c.loop-scope.invariant in
    let e = c.args.self.now in
    let x : PathMember = record { offset = c.loop-scope.around; part = c.part_length-part.result } in
    let step : ForMember e c.loop-scope.around (λ p m. IsOkAnd (at_place c.args.at (passed_at p m)) (IsStep p c.in_ok-step.step)) = λ p file m is. c.in_ok-step.ensures.value p (ap (λ (k : EntriesOf). program_of k.image.file) (c.self.view_is ∙ inv.kept) ∙ file) m is in
    let here = passes_member e c.loop-scope.around c.args.at c.part_length-part.result c.in_ok-step.step step c.part_length-part.ensures None c.in-None.is in
    let more = one_passed e c.loop-scope.passed.items x None inv.before here in
    let one = ap length c.in_ok-push.ensures.items ∙ length-append c.loop-scope.passed.items (x ∷ []) in
    let made : EndIn e c.push.new.self.items (record { steps = 0; length = 0 }) = record {
      next = None;
      before = subst (λ (xs : List PathMember). AreBefore e xs None) (sym c.in_ok-push.ensures.items) more;
      behind = (refl, refl);
      few = omega (arith, one, inv.count, c.loop-scope-test.true);
    } in
    subst (λ (k : EntriesOf). EndIn k c.push.new.self.items (record { steps = 0; length = 0 })) (sym (c.step_at.ensures.kept ∙ c.self.view_is ∙ inv.kept)) made

pub returns-in_err-step-clause-value : goal.returns-in_err-step-clause-value
returns-in_err-step-clause-value c p file d dc place =
    let r = c.loop-scope.invariant.reached p file d dc place in
    let here = ap (λ (e : EntriesOf). program_of e.image.file) c.loop-scope.invariant.kept ∙ file in
    let inside = ap (λ (e : EntriesOf). program_of e.image.file) c.self.view_is ∙ here in
    let m = parent_found c.args.self.now.image.file p file r.end c.loop-scope.around r.there r.place in
    let q = err_from_is_err_and c.from_residual-in_err-step.result c.from_residual-in_err-step.ensures.1 in
    rw (q.1, q.2) (stops_as c.in_err-step.field-0.0 c.args.at (passed_at p m.0) (scope_path p d) (c.in_err-step.ensures.value p inside m.0 m.2) (is_wrong p d c.loop-scope.scope c.loop-scope.around r m.0 m.1 c.loop-scope-test.true))

pub loop-scope-preserved : goal.loop-scope-preserved
loop-scope-preserved c = record {
  kept = c.step_at.ensures.kept ∙ c.self.view_is ∙ c.loop-scope.invariant.kept;
  within = omega arith;
  before =
      let inv = c.loop-scope.invariant in
      let e = c.args.self.now in
      let x : PathMember = record { offset = c.loop-scope.around; part = c.part_length-part.result } in
      let next = Some c.in-Some-around.parent in
      let step : ForMember e c.loop-scope.around (λ p m. IsOkAnd (at_place c.args.at (passed_at p m)) (IsStep p c.in_ok-step.step)) = λ p file m is. c.in_ok-step.ensures.value p (ap (λ (k : EntriesOf). program_of k.image.file) (c.self.view_is ∙ inv.kept) ∙ file) m is in
      let here = passes_member e c.loop-scope.around c.args.at c.part_length-part.result c.in_ok-step.step step c.part_length-part.ensures next c.in-Some-around.is in
      subst (λ (xs : List PathMember). AreBefore e xs next) (sym c.in_ok-push.ensures.items) (one_passed e c.loop-scope.passed.items x next inv.before here);
  count =
      let x : PathMember = record { offset = c.loop-scope.around; part = c.part_length-part.result } in
      let one = ap length c.in_ok-push.ensures.items ∙ length-append c.loop-scope.passed.items (x ∷ []) in
      omega (arith, one, c.loop-scope.invariant.count, c.with-scope.ensures.steps);
  reached = λ p file d dc place.
      let r = c.loop-scope.invariant.reached p file d dc place in
      let here = ap (λ (e : EntriesOf). program_of e.image.file) c.loop-scope.invariant.kept ∙ file in
      let inside = ap (λ (e : EntriesOf). program_of e.image.file) c.self.view_is ∙ here in
      let m = parent_found c.args.self.now.image.file p file r.end c.loop-scope.around r.there r.place in
      let x = ok_and (IsStep p c.in_ok-step.step) c.args.at (passed_at p m.0) (c.in_ok-step.ensures.value p inside m.0 m.2) in
      (reaches p d c.loop-scope.scope c.loop-scope.around r m.0 m.1 c.loop-scope-test.true x.0 x.1 c.in_ok-step.step x.2 c.part_length-part.result c.part_length-part.ensures c.with-scope.result c.with-scope.ensures.steps c.with-scope.ensures.length c.in-Some-around.parent c.in-Some-around.is).0;
}

pub returns-in-None-clause-value : goal.returns-in-None-clause-value
returns-in-None-clause-value c p file d dc place =
    let r = c.loop-scope.invariant.reached p file d dc place in
    let here = ap (λ (e : EntriesOf). program_of e.image.file) c.loop-scope.invariant.kept ∙ file in
    let inside = ap (λ (e : EntriesOf). program_of e.image.file) c.self.view_is ∙ here in
    let m = parent_found c.args.self.now.image.file p file r.end c.loop-scope.around r.there r.place in
    let x = ok_and (IsStep p c.in_ok-step.step) c.args.at (passed_at p m.0) (c.in_ok-step.ensures.value p inside m.0 m.2) in
    let e = ends_here p d c.loop-scope.scope c.loop-scope.around r m.0 m.1 c.loop-scope-test.true x.0 x.1 c.in_ok-step.step x.2 c.part_length-part.result c.part_length-part.ensures c.with-scope.result c.with-scope.ensures.steps c.with-scope.ensures.length c.in-None.is in
    gives_ok (IsScope c.with-scope.result) c.args.at (scope_path p d) _ e.0 e.1

pub returns-clause-value : goal.returns-clause-value
returns-clause-value c p file d dc place =
    let r = c.loop-scope.invariant.reached p file d dc place in
    let m = parent_found c.args.self.now.image.file p file r.end c.loop-scope.around r.there r.place in
    let full : c.loop-scope.scope.steps ≡ MAX_PATH_STEPS = omega (arith, c.loop-scope.invariant.within, c.loop-scope-test.false) in
    rw c.too_long.ensures (ap (at_place c.args.at) (is_over p d c.loop-scope.scope c.loop-scope.around r m.0 m.1 full))
