use Rattle.std.proofs.Common.{sym, ap, ◌∙◌}
use Rattle.gdb_entries.specs.declared.item.ItemFacts.{ItemFacts}
use Rattle.gdb_entries.specs.Rules.{gives_scope_alone}
use Rattle.gdb_items.proofs.ChainLaws.{linkage_alone, linkage_in}
use Rattle.gdb_items.proofs.file.FileItems.linkage_name.Goals as goal

pub returns-then-gives_scope_alone-clause-value : goal.returns-then-gives_scope_alone-clause-value
returns-then-gives_scope_alone-clause-value c p is d h =
    let on = ap (λ (f : ItemFacts). gives_scope_alone f) (sym h.facts) ∙ sym c.gives_scope_alone.ensures ∙ c.if-gives_scope_alone.true in
    c.text.ensures p is ∙ h.linkage ∙ linkage_alone p d on

pub returns-clause-value : goal.returns-clause-value
returns-clause-value c p is d h =
    let off = ap (λ (f : ItemFacts). gives_scope_alone f) (sym h.facts) ∙ sym c.gives_scope_alone.ensures ∙ c.if-gives_scope_alone.false in
    linkage_in p d off c.linkage_within.result (c.linkage_within.ensures.value p is d h)
