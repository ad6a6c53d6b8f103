use Rattle.std.proofs.Common.{◌≡◌, ℕ, List, sym, subst, ◌∙◌}
use Rattle.std.specs.Prelude.{IfOk, Option, option_map}
use Rattle.std.specs.List.{AllZip}
use Rattle.index_model.specs.Program.{Located}
use Rattle.gdb_entries.specs.Chains.{targets_of}
use Rattle.gdb_scopes.specs.Places.{offset_of, IsAt}
use Rattle.gdb_scopes.proofs.AroundLaws.{chain_there}
use Rattle.gdb_scopes.proofs.ScopeLaws.{is_sought, not_sought}
use Rattle.gdb_scopes.proofs.file.FilePlaces.around_chain.Goals as goal

pub returns-then-not-names_have_scopes-clause-value : goal.returns-then-not-names_have_scopes-clause-value
returns-then-not-names_have_scopes-clause-value c p is d told = not_sought p d c.args.class (sym c.names_have_scopes.ensures ∙ c.if-not-names_have_scopes.true)

pub returns-clause-value : goal.returns-clause-value
returns-clause-value c p is d told =
    let on = is_sought p d c.args.class (sym c.names_have_scopes.ensures ∙ c.if-not-names_have_scopes.false) in
    let offsets = c.as_slice.ensures.value ∙ told.targets in
    let are = subst (λ (os : List ℕ). AllZip (IsAt p) os (targets_of p d)) (sym offsets) (chain_there c.args.self.now.file p is d) in
    subst (λ (o : Option Located). IfOk c.first_around.result (λ around. around ≡ option_map offset_of o)) on (c.first_around.ensures.value p is (targets_of p d) are)
