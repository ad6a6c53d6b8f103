use Rattle.std.proofs.Common.{◌≡◌, ℕ, List, length, Option, Some, option_map, sym, ap, ◌∙◌, arith}
use Rattle.index_model.specs.Names.{qualified_name, scoped_name}
use Rattle.qualified_names.proofs.LinkLaws.{is_named, length_is}
use Rattle.qualified_names.proofs.NameLaws.{by_class_ada, changed, stays_qualified}
use Rattle.qualified_names.proofs.names.QualifiedNames.qualified.Goals as goal

pub returns-then-entry-clause-value : goal.returns-then-entry-clause-value
returns-then-entry-clause-value c p file are k h class_is =
    let x = c.args.entry.now in
    let same : length (qualified_name k.class k.path x.name.now) ≡ length x.name.now = omega (arith, c.if-entry.true, length_is p x k h) in
    (is_named p x k h).qualified ∙ ap {B = Option (List ℕ)} (λ (xs : List ℕ). Some xs) (stays_qualified k.class k.path x.name.now same ∙ sym c.lent.ensures)

pub returns-in_ok-ada-in-Ada-clause-value : goal.returns-in_ok-ada-in-Ada-clause-value
returns-in_ok-ada-in-Ada-clause-value c p file are k h class_is =
    let x = c.args.entry.now in
    (is_named p x k h).qualified ∙ ap {B = Option (List ℕ)} (λ (xs : List ℕ). Some xs) (by_class_ada k.class k.path x.name.now (sym class_is ∙ c.in-Ada.is) ∙ sym c.in_ok-ada-in-Ada.ensures ∙ sym c.owned.ensures)

pub returns-in_ok-scoped-in_default-clause-value : goal.returns-in_ok-scoped-in_default-clause-value
returns-in_ok-scoped-in_default-clause-value c p file are k h class_is =
    let x = c.args.entry.now in
    let scoped = changed k.class k.path x.name.now (λ ada. c.in_default.not-Ada (class_is ∙ ada)) (λ same. c.if-entry.false (omega (arith, same, length_is p x k h))) in
    (is_named p x k h).qualified ∙ ap {B = Option (List ℕ)} (λ (xs : List ℕ). Some xs) scoped ∙ sym (ap (option_map (scoped_name k.path)) h.links.name) ∙ c.in_ok-scoped-in_default.ensures.value p file are k h ∙ ap {B = Option (List ℕ)} (λ (xs : List ℕ). Some xs) (sym c.owned-in_default.ensures)
