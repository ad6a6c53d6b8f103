-- Tables of abbreviations that are kept.
use Rattle.std.specs.Prelude.{◌≡◌, ℕ, List, Some}
use Rattle.index_model.specs.Abbreviations.{table}
use Rattle.entry_scan.specs.declared.abbrev_table.AbbrevTable.{AbbrevTable}

-- the table is the one at its offset
abbrev pub IsAtOffset : List ℕ → AbbrevTable → Type 0
IsAtOffset bytes t = table bytes t.offset ≡ Some t.abbrevs
