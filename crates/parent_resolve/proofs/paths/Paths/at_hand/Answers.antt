use Rattle.std.proofs.Common.{subst}
use Rattle.std.specs.Prelude.{Contains}
use Rattle.shard_build.specs.Entries.{EntriesOf}
use Rattle.parent_resolve.specs.declared.scope.Scope.{Scope}
use Rattle.parent_resolve.specs.declared.scope.ScopeAround.{ScopeAround}
use Rattle.parent_resolve.specs.Paths.{IsScopeAround}
use Rattle.parent_resolve.proofs.EnteredLaws.{if_some}
use Rattle.parent_resolve.proofs.paths.Paths.at_hand.Goals as goal

pub returns-clause-value : goal.returns-clause-value
returns-clause-value c =
    let parent = c.args.parent in
    if_some (λ (s : Scope). Contains c.drop_behind.new.recent.items (record { parent = parent; scope = s })) (IsScopeAround c.args.self.now parent) c.last_around-2.result
    (λ s k.
    let here : ScopeAround = record { parent = parent; scope = s } in
    subst (λ (e : EntriesOf). IsScopeAround e parent s) c.self.view_is (c.self.invariant.1 here (c.drop_behind.ensures here k)))
    c.last_around-2.ensures
