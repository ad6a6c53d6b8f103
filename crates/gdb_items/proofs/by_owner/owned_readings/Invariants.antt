use Rattle.std.proofs.Common.{◌≡◌, ◌++◌, ℕ, drop}
use Rattle.std.specs.Prelude.{map}
use Rattle.std.specs.List.{enumerate_from}
use Rattle.gdb_entries.specs.declared.language.LanguageClass.{LanguageClass}
use Rattle.gdb_items.specs.Readings.{reading_at}
use Rattle.gdb_items.proofs.by_owner.owned_readings.Given as goal

-- how the units so far are read, and those that are left
abbrev pub invariant-loop-number : goal.invariant-loop-number
invariant-loop-number l = l.readings.items ++ map (λ (u : ℕ × LanguageClass). reading_at l.owners l.classes u.0) (enumerate_from l.number (drop l.number l.classes)) ≡ map (λ (u : ℕ × LanguageClass). reading_at l.owners l.classes u.0) (enumerate_from 0 l.classes)
