-- What the innermost open item around any item has to do with the class by which its unit is read.
use Rattle.std.specs.Prelude.{◌≡◌, None}
use Rattle.index_model.specs.Walk.{Item}
use Rattle.index_model.specs.Program.{Program, Walked}
use Rattle.gdb_entries.specs.Owners.{class_read}
use Rattle.gdb_entries.specs.Scopes.{open_around}
use Rattle.gdb_reach.specs.Around.{open_by}
use Rattle.gdb_reach.specs.Standing.{in_unit}

-- It is that by the class by which the unit is read.
abbrev pub OpenIsAsRead : Type 0
OpenIsAsRead = (p : Program) (w : Walked) (d : Item) → open_around p (in_unit w d) ≡ open_by p (class_read p w) (in_unit w d)

-- In a unit that isn't read there is none.
abbrev pub NothingIsOpenUnread : Type 0
NothingIsOpenUnread = (p : Program) (w : Walked) (d : Item) → class_read p w ≡ None → open_around p (in_unit w d) ≡ None
