use Rattle.std.proofs.Common.{◌≡◌, length, take}
use Rattle.std.specs.List.{flat_map}
use Rattle.elf_make.proofs.layout.contents_size.Given as goal

-- the size of the contents so far
abbrev pub invariant-loop-section : goal.invariant-loop-section
invariant-loop-section l = l.size ≡ length (flat_map (λ s. s.content) (take l.section-index l.sections))
