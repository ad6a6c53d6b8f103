-- Where line tables begin.
use Rattle.std.specs.Prelude.{◌≡◌, ℕ, List, [], ◌∷◌, Option, Some, None, option_and_then, Result, Ok}
use Rattle.ix_base.specs.declared.fault.Fault.{Fault}
use Rattle.index_model.specs.declared.unit.Unit.{Unit as UnitHeader}
use Rattle.index_model.specs.Abbreviations.{Abbrev}
use Rattle.index_model.specs.Attributes.{read_as}
use Rattle.index_model.specs.Meaning.{◌>>=◌, at_place}
use Rattle.index_model.specs.Program.{walked}
use Rattle.index_model.specs.Sections.{Section}
use Rattle.index_model.specs.Walk.{Item, items, walk_of}
use Rattle.entry_scan.specs.Inside.{tree_of}
use Rattle.reach_model.specs.LineTables.{FileName, as_line_place, files_there, line_place}

-- the first of the items
abbrev pub first_item : List Item → Option Item
first_item [] = None
first_item (d ∷ ds) = Some d

-- the place that the first item of a unit says, by the unit's own bytes
abbrev pub place_by : UnitHeader → List Abbrev → List ℕ → Option ℕ
place_by u abbrevs bytes = option_and_then (read_as (as_line_place u.version) 0x10) (first_item (items (walk_of u abbrevs (tree_of u bytes))))

-- the place that the root of a unit says, or that its abbreviations are damaged
abbrev pub place_of : List Section → ℕ × UnitHeader → Result (Option ℕ) Fault
place_of ss u = walked ss u >>= λ w. Ok (line_place w)

-- the files of a unit by its header, or that its abbreviations are damaged
abbrev pub files_by : List Section → ℕ × UnitHeader → Result (List FileName) Fault
files_by ss u = place_of ss u >>= λ place. at_place u.1.start (files_there ss place)
