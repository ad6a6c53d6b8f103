use Rattle.std.proofs.Common.{Bool, ◌&&◌, sym, ap, ◌∙◌}
use Rattle.std.specs.Prelude.{bytes_eq, codes}
use Rattle.std.proofs.lemmas.Bool.{eq-eqb, ne_eqb}
use Rattle.index_model.specs.MainProgram.{full_name}
use Rattle.index_model.specs.Tags.{subprogram}
use Rattle.qualified_names.proofs.sought.has_main_name.Goals as goal

pub returns-then-entry-eq-SUBPROGRAM : goal.returns-then-entry-eq-SUBPROGRAM
returns-then-entry-eq-SUBPROGRAM c p k h on =
    c.is_called_main.ensures p k h on ∙ ap (λ (b : Bool). b && bytes_eq (full_name k) (codes "main")) (sym (eq-eqb k.entry.item.tag subprogram (sym h.links.tag ∙ c.if-entry-eq-SUBPROGRAM.true)))

pub returns-else-entry-eq-SUBPROGRAM : goal.returns-else-entry-eq-SUBPROGRAM
returns-else-entry-eq-SUBPROGRAM c p k h on =
    ne_eqb c.args.entry.now.tag subprogram c.if-entry-eq-SUBPROGRAM.false ∙ ap (λ (b : Bool). b && bytes_eq (full_name k) (codes "main")) (sym (ne_eqb k.entry.item.tag subprogram (λ same. c.if-entry-eq-SUBPROGRAM.false (h.links.tag ∙ same))))
