use Rattle.std.proofs.Common.{◌≡◌, ◌+◌, ◌++◌, [], ◌∷◌, length, take}
use Rattle.std.specs.List.{flat_map}
use Rattle.elf_make.proofs.layout.name_table_size.Given as goal

-- the size of the names so far, with that of the table's own
abbrev pub invariant-loop-section : goal.invariant-loop-section
invariant-loop-section l = l.size ≡ 11 + length (flat_map (λ s. s.name ++ 0 ∷ []) (take l.section-index l.sections))
