use Rattle.std.proofs.Common.{◌≡◌, ℕ, Some, sym, ap, subst, ◌∙◌}
use Rattle.std.specs.Prelude.{Option, option_map}
use Rattle.std.proofs.lemmas.Bool.{ne_eqb}
use Rattle.std.proofs.lemmas.Result.{IfOk-weaker}
use Rattle.gdb_entries.specs.declared.language.LanguageClass.{LanguageClass}
use Rattle.gdb_entries.specs.Scopes.{around_by, around_target, scope_of}
use Rattle.gdb_scopes.specs.Places.{offset_of}
use Rattle.gdb_scopes.proofs.ScopeLaws.{own_scope, scope_itself, target_scope}
use Rattle.gdb_scopes.proofs.WalkLaws.{told_tag}
use Rattle.gdb_scopes.proofs.file.FilePlaces.scope_of.Goals as goal

pub returns-then-seen-eq-DW_TAG_entry_point-clause-value : goal.returns-then-seen-eq-DW_TAG_entry_point-clause-value
returns-then-seen-eq-DW_TAG_entry_point-clause-value c p is d here own read told = c.scope.ensures.value p is d here

pub returns-then-is_some-clause-value : goal.returns-then-is_some-clause-value
returns-then-is_some-clause-value c p is d here own read told =
    let seen = c.args.seen.now in
    let off = ne_eqb d.item.tag 3 (λ e. c.if-seen-eq-DW_TAG_entry_point.false (told_tag p.sections d seen.item own.item ∙ e)) in
    let around = subst (λ (o : Option LanguageClass). seen.around ≡ option_map offset_of (around_by p o d)) (sym read) own.around in
    own_scope p d seen.around around (sym c.is_some.ensures ∙ c.if-is_some.true) ∙ sym (ap (option_map offset_of) (scope_itself p d off))

pub returns-clause-value : goal.returns-clause-value
returns-clause-value c p is d here own read told =
    let seen = c.args.seen.now in
    let off = ne_eqb d.item.tag 3 (λ e. c.if-seen-eq-DW_TAG_entry_point.false (told_tag p.sections d seen.item own.item ∙ e)) in
    let around = subst (λ (o : Option LanguageClass). seen.around ≡ option_map offset_of (around_by p o d)) (sym read) own.around in
    IfOk-weaker c.around_chain.result (λ (t : Option ℕ). t ≡ option_map offset_of (around_target p (Some c.args.class) d)) (λ (t : Option ℕ). t ≡ option_map offset_of (scope_of p d))
    (λ t found. target_scope p d seen.around around (sym c.is_some.ensures ∙ c.if-is_some.false) t (found ∙ ap (λ (o : Option LanguageClass). option_map offset_of (around_target p o d)) (sym read)) ∙ sym (ap (option_map offset_of) (scope_itself p d off)))
    (c.around_chain.ensures.value p is d told)
