use Rattle.std.proofs.Common.{◌≡◌, ℕ, ◌<◌, List, [], ◌∷◌, length, Option, refl, sym, ap, subst, ◌∙◌, arith, length-append}
use Rattle.std.specs.Borrow.{Bor}
use Rattle.std.proofs.lemmas.Result.{err_from_is_err_and}
use Rattle.ix_base.specs.declared.limits.TheConstants.{MAX_PATH_STEPS}
use Rattle.index_model.specs.Faults.{program_of}
use Rattle.index_model.specs.Meaning.{at_place}
use Rattle.index_model.specs.Names.{scope_path}
use Rattle.shard_build.specs.Entries.{EntriesOf}
use Rattle.parent_resolve.specs.Scopes.{passed_at, IsStep}
use Rattle.parent_resolve.proofs.Outwards.{is_wrong, ok_and, parent_found, stops_as}
use Rattle.parent_resolve.proofs.ComponentLaws.{Gathered, as_many, gathered, gathers, gives_texts, none_gathered, too_many}
use Rattle.parent_resolve.proofs.components.components_from.Goals as goal

pub members-init : goal.members-init
members-init c = record {
  kept = refl;
  counted = ap length c.new-components.ensures.items;
  gathered = λ p file d dc place. subst (λ (texts : List (Option (Bor (List ℕ)))). Gathered p d texts c.args.parent) (sym c.new-components.ensures.items) (none_gathered p d c.args.parent dc place);
}

pub returns-in_err-step-clause-value : goal.returns-in_err-step-clause-value
returns-in_err-step-clause-value c p file d dc place =
    let g = c.members.invariant.gathered p file d dc place in
    let r = g.reached in
    let here = ap (λ (e : EntriesOf). program_of e.image.file) c.members.invariant.kept ∙ file in
    let m = parent_found c.args.references.now.image.file p file r.end c.members.around r.there r.place in
    let lt : g.scope.steps < MAX_PATH_STEPS = omega (arith, c.members-test.true, c.members.invariant.counted, as_many p d c.members.components.items c.members.around g) in
    let q = err_from_is_err_and c.from_residual.result c.from_residual.ensures.1 in
    rw (q.1, q.2) (stops_as c.in_err-step.field-0.0 c.args.at (passed_at p m.0) (scope_path p d) (c.in_err-step.ensures.value p here m.0 m.2) (is_wrong p d g.scope c.members.around r m.0 m.1 lt))

pub members-preserved : goal.members-preserved
members-preserved c = record {
  kept = c.in_ok-step.ensures.kept ∙ c.members.invariant.kept;
  counted = ap length c.in_ok-push.ensures.items ∙ length-append c.members.components.items (c.in_ok-step.step.component ∷ []) ∙ omega (arith, c.members.invariant.counted);
  gathered = λ p file d dc place.
      let g = c.members.invariant.gathered p file d dc place in
      let here = ap (λ (e : EntriesOf). program_of e.image.file) c.members.invariant.kept ∙ file in
      let m = parent_found c.args.references.now.image.file p file g.reached.end c.members.around g.reached.there g.reached.place in
      let x = ok_and (IsStep p c.in_ok-step.step) c.args.at (passed_at p m.0) (c.in_ok-step.ensures.value p here m.0 m.2) in
      let lt : length c.members.components.items < MAX_PATH_STEPS = omega (arith, c.members-test.true, c.members.invariant.counted) in
      subst (λ (texts : List (Option (Bor (List ℕ)))). Gathered p d texts c.in-Some.parent) (sym c.in_ok-push.ensures.items) (gathers p d c.members.components.items c.members.around g m.0 m.1 lt x.0 x.1 c.in_ok-step.step x.2 c.in-Some.parent c.in-Some.is);
}

pub returns-in-None-clause-value : goal.returns-in-None-clause-value
returns-in-None-clause-value c p file d dc place =
    let g = c.members.invariant.gathered p file d dc place in
    let here = ap (λ (e : EntriesOf). program_of e.image.file) c.members.invariant.kept ∙ file in
    let m = parent_found c.args.references.now.image.file p file g.reached.end c.members.around g.reached.there g.reached.place in
    let x = ok_and (IsStep p c.in_ok-step.step) c.args.at (passed_at p m.0) (c.in_ok-step.ensures.value p here m.0 m.2) in
    let lt : length c.members.components.items < MAX_PATH_STEPS = omega (arith, c.members-test.true, c.members.invariant.counted) in
    let e = gathered p d c.members.components.items c.members.around g m.0 m.1 lt x.0 x.1 c.in_ok-step.step x.2 c.in-None.is in
    gives_texts _ c.args.at (scope_path p d) e.0 e.1 _ c.in_ok-push.ensures.items e.2

pub returns-clause-value : goal.returns-clause-value
returns-clause-value c p file d dc place =
    let g = c.members.invariant.gathered p file d dc place in
    let m = parent_found c.args.references.now.image.file p file g.reached.end c.members.around g.reached.there g.reached.place in
    let full : length c.members.components.items ≡ MAX_PATH_STEPS = omega (arith, c.members-test.false, c.members.invariant.counted) in
    rw c.too_long.ensures (ap (at_place c.args.at) (too_many p d c.members.components.items c.members.around g m.0 m.1 full))
