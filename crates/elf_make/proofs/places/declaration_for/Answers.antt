use Rattle.std.proofs.Common.{◌≡◌, ◌+◌, ◌*◌, ◌%◌, ap, ◌∙◌, arith}
use Rattle.elf_make.specs.Generated.{abbreviations, declaration_in, specified_by}
use Rattle.elf_make.proofs.Starts.{declaration_at}
use Rattle.elf_make.proofs.places.declaration_for.Goals as goal

pub returns : goal.returns
unfolding specified_by
returns c =
    let named : 2 * ((c.from.result + c.from-2.result) % c.from-pairs.result) + 1 ≡ specified_by c.args.seed c.args.units c.args.index = rw (c.from.ensures, c.from-2.ensures, c.from-pairs.ensures) in
    declaration_at 0 _ c.start_of_unit.result (omega arith) c.start_of_unit.ensures.place ∙ ap (declaration_in (abbreviations 0 2) 0) named
