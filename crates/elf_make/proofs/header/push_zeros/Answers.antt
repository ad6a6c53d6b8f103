use Rattle.std.proofs.Common.{◌++◌, ap, ◌∙◌}
use Rattle.std.proofs.lemmas.List.{take-replicate}
use Rattle.elf_make.specs.Packed.{zeros}
use Rattle.elf_make.proofs.header.push_zeros.Goals as goal

pub returns : goal.returns
unfolding zeros
returns c = c.in_ok-extend_from_slice.ensures.items ∙ ap (λ xs. c.args.file.now.items ++ xs) (take-replicate c.args.count 64 0 c.requires)
