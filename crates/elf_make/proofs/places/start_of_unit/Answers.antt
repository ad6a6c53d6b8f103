use Rattle.std.proofs.Common.{sym, ap, ◌∙◌, arith}
use Rattle.elf_make.specs.Generated.{abbreviations, unit_start}
use Rattle.elf_make.proofs.Starts.{start_is, start_of_zero}
use Rattle.elf_make.proofs.places.start_of_unit.Goals as goal

pub returns-then-index-eq0-clause-place : goal.returns-then-index-eq0-clause-place
returns-then-index-eq0-clause-place c = sym (ap (unit_start (abbreviations 0 2) 0) c.if-index-eq0.true ∙ start_of_zero (abbreviations 0 2) 0)

pub returns-clause-place : goal.returns-clause-place
returns-clause-place c = sym (start_is 0 c.args.index (omega (arith, c.if-index-eq0.false)))
