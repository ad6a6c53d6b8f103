use Rattle.std.proofs.Common.{ap, sym, ◌∙◌, arith}
use Rattle.index_model.specs.NameIndex.{uleb_in}
use Rattle.elf_make.specs.PlainForm.{table_bytes}
use Rattle.elf_make.specs.Generated.{abbreviations}
use Rattle.elf_make.proofs.Tables.{one_is, more_are, of_one_unit, of_more_units}
use Rattle.elf_make.proofs.codes.abbreviation_table.Goals as goal

pub returns-then-units-eq1 : goal.returns-then-units-eq1
unfolding table_bytes uleb_in
returns-then-units-eq1 c = sym (ap (λ n. table_bytes (abbreviations c.args.seed n)) c.if-units-eq1.true ∙ ap table_bytes (of_one_unit c.args.seed ∙ one_is))

pub returns-else-units-eq1 : goal.returns-else-units-eq1
unfolding table_bytes uleb_in
returns-else-units-eq1 c = sym (ap table_bytes (of_more_units c.args.seed c.args.units (omega (arith, c.requires, c.if-units-eq1.false)) ∙ more_are))
