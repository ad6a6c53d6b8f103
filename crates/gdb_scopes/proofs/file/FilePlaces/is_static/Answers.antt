use Rattle.std.proofs.Common.{◌≡◌, Bool, sym, subst, ◌∙◌}
use Rattle.std.specs.Prelude.{IfOk}
use Rattle.std.proofs.lemmas.Bool.{eq-eqb, ne_eqb}
use Rattle.gdb_scopes.proofs.StaticLaws.{itself_told, static_around, static_itself}
use Rattle.gdb_scopes.proofs.WalkLaws.{told_tag}
use Rattle.gdb_scopes.proofs.file.FilePlaces.is_static.Goals as goal

pub returns-then-item-eq-DW_TAG_entry_point-clause-value : goal.returns-then-item-eq-DW_TAG_entry_point-clause-value
returns-then-item-eq-DW_TAG_entry_point-clause-value c p is d here own read told =
    let on = eq-eqb d.item.tag 3 (sym (told_tag p.sections d c.args.item.now own) ∙ c.if-item-eq-DW_TAG_entry_point.true) in
    subst (λ (b : Bool). IfOk c.is_static_around.result (λ s. s ≡ b)) (static_around p c.args.class d on) (c.is_static_around.ensures.value p is d here read)

pub returns-clause-value : goal.returns-clause-value
returns-clause-value c p is d here own read told =
    let tag = told_tag p.sections d c.args.item.now own in
    let off = ne_eqb d.item.tag 3 (λ e. c.if-item-eq-DW_TAG_entry_point.false (tag ∙ e)) in
    c.is_static.ensures ∙ itself_told p c.args.class d _ _ tag told.external ∙ static_itself p c.args.class d off
