-- The entries of units as an index lists them (gdb/dwarf2/read.c, index_dies; index-write.c, write_cooked_index).
use Rattle.std.specs.Prelude.{◌≡◌, List, map, flat_map}
use Rattle.index_model.specs.declared.entry.Entry.{Entry}
use Rattle.index_model.specs.Program.{Program, Walked}
use Rattle.gdb_entries.specs.Entries.{as_listed, entries_with, listed}
use Rattle.gdb_entries.specs.Owners.{owner_of}

-- the entries of a unit as an index lists them
abbrev pub listed_of : Program → Walked → List Entry
listed_of p w = map as_listed (entries_with p (owner_of p w) w)

-- what is listed of a program is what is listed of its units, one after the other
abbrev pub ProgramsListTheirUnits : Type 0
ProgramsListTheirUnits = (p : Program) → listed p ≡ flat_map (listed_of p) p.walks
