use Rattle.std.proofs.Common.{◌≡◌, ◌++◌, take}
use Rattle.elf_add.specs.Pieces.{names_of}
use Rattle.elf_add.proofs.pieces.push_names.Given as goal

-- the names so far stand behind what the bytes began with
abbrev pub invariant-loop-section : goal.invariant-loop-section
invariant-loop-section l = l.bytes.items ≡ l.initial.bytes.items ++ names_of (take l.section-index l.sections)
