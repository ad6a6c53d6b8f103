use Rattle.std.proofs.Common.{◌≡◌, drop, map}
use Rattle.reach_model.specs.Added.{with_pieces}
use Rattle.elf_add.specs.Pieces.{content_of}
use Rattle.elf_add.proofs.pieces.push_pieces.Given as goal

-- the pieces of the other sections are still to come
abbrev pub invariant-loop-section : goal.invariant-loop-section
invariant-loop-section l = with_pieces l.bytes.items (map content_of (drop l.section-index l.sections)) ≡ with_pieces l.initial.bytes.items (map content_of l.sections)
