use Rattle.std.proofs.Common.{length, Ok, None, sym, ap, ◌∙◌, arith}
use Rattle.std.proofs.lemmas.Result.{err_from_is_err_and}
use Rattle.index_model.proofs.Meanings.{same_ok}
use Rattle.elf_add.specs.Held.{adder_with}
use Rattle.elf_add.proofs.Opened.{adder_is, at_sections, table_opened}
use Rattle.elf_add.proofs.adder.Adder.new.Goals as goal

pub returns-in_err-sections : goal.returns-in_err-sections
returns-in_err-sections c =
    let p = err_from_is_err_and c.from_residual.result c.from_residual.ensures.1 in
    rw (p.1, p.2) (at_sections c.args.file.now c.in_err-sections.field-0.0 c.in_err-sections.ensures)

pub returns-in_err-table : goal.returns-in_err-table
returns-in_err-table c =
    let fits = table_opened c.args.file.now c.in_ok-sections.sections c.in_ok-sections.ensures in
    let fault = c.in_err-table.ensures in
    absurd (cc)

pub invariant_of-result : goal.invariant_of-result
invariant_of-result c = record {
  opened = c.in_ok-sections.ensures;
  of_file = sym (same_ok _ _ (sym (table_opened c.args.file.now c.in_ok-sections.sections c.in_ok-sections.ensures) ∙ c.in_ok-table.ensures));
  small = c.requires;
  few = omega (arith, ap length c.new.ensures.items);
}

pub returns : goal.returns
returns c = adder_is c.args.file.now c.in_ok-sections.sections c.in_ok-sections.ensures ∙ ap (λ ss. Ok (adder_with c.args.file.now c.in_ok-sections.sections ss None)) (sym c.new.ensures.items)
