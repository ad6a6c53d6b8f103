-- The entries of a range of units.
use Rattle.std.specs.Prelude.{◌≡◌, ◌++◌, ℕ, List, flat_map, take}
use Rattle.index_model.specs.declared.entry.Entry.{Entry}
use Rattle.index_model.specs.Program.{Program}
use Rattle.gdb_entries.specs.Files.{ForProgram}
use Rattle.gdb_index.specs.Listed.{listed_of}

-- the entries of the units with numbers below this one, as an index lists them
unfoldable pub listed_below : Program → ℕ → List Entry
listed_below p n = flat_map (listed_of p) (take n p.walks)

-- The entries are those of the units with numbers from first to below end: together with those of the units below first they are those
-- of the units below end.
abbrev pub AreListed : List ℕ → ℕ → ℕ → List Entry → Type 0
AreListed file first end entries = ForProgram file (λ p. listed_below p first ++ entries ≡ listed_below p end)
