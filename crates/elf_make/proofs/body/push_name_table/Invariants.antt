use Rattle.std.proofs.Common.{◌≡◌, ◌++◌, [], ◌∷◌, take}
use Rattle.std.specs.List.{flat_map}
use Rattle.elf_make.proofs.body.push_name_table.Given as goal

-- the names so far stand behind what the file began with
abbrev pub invariant-loop-section : goal.invariant-loop-section
invariant-loop-section l = l.file.items ≡ l.initial.file.items ++ flat_map (λ s. s.name ++ 0 ∷ []) (take l.section-index l.sections)
