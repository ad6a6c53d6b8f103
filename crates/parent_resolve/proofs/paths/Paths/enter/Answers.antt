use Rattle.std.proofs.Common.{◌≡◌, ◌<◌, not, List, sym, ap, subst, ◌∙◌, arith, ⊎_elim}
use Rattle.std.specs.Prelude.{Contains}
use Rattle.std.proofs.lemmas.List.Elements.{Contains-push_cases}
use Rattle.shard_build.specs.Entries.{EntriesOf}
use Rattle.ix_base.specs.declared.limits.TheConstants.{MAX_PATH_STEPS}
use Rattle.parent_resolve.specs.declared.scope.ScopeAround.{ScopeAround}
use Rattle.parent_resolve.specs.Paths.{IsScopeAround}
use Rattle.parent_resolve.proofs.EnteredLaws.{entered, is_given}
use Rattle.parent_resolve.proofs.paths.Paths.enter.Goals as goal

pub invariant_of-self-2 : goal.invariant_of-self-2
invariant_of-self-2 c =
    let e = c.args.self.now in
    let node = c.args.node.now in
    let t = c.args.traced.now in
    let below = c.is_none.ensures ∙ ap not c.if-is_none.false in
    let around = is_given t.around (c.is_none-else-is_none.ensures ∙ ap not c.if-is_none-2.false) in
    let few : c.args.scope.steps < MAX_PATH_STEPS = omega (arith, c.if-scope-ge-MAX_PATH_STEPS.false) in
    let here : IsScopeAround e node.offset c.with.result =
    entered e node c.requires.entry below t c.requires.traced c.component.result c.component.ensures around.0 around.1 c.args.scope c.requires.scope c.part_length-part.result c.part_length-part.ensures c.with.result few c.with.ensures.steps c.with.ensures.length in
    let one : ScopeAround = record { parent = node.offset; scope = c.with.result } in (
      c.self.invariant.0,
      λ s k. ⊎_elim
          (λ (old : Contains c.self.inside.recent.items s). c.self.invariant.1 s old)
          (λ (same : one ≡ s). subst (λ (x : EntriesOf). IsScopeAround x s.parent s.scope) (sym c.self.view_is) (subst (λ (a : ScopeAround). IsScopeAround e a.parent a.scope) same here))
          (Contains-push_cases c.self.inside.recent.items one s (subst (λ (xs : List ScopeAround). Contains xs s) c.in_ok-push.ensures.items k)),
    )
