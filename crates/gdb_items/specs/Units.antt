-- A unit of a file, with its abbreviations.
use Rattle.std.specs.Prelude.{◌≡◌, ◌≤◌, ◌<◌, ◌+◌, ◌^◌, ℕ, length, codes, Contains}
use Rattle.file_image.specs.Images.{Image, unit_bytes}
use Rattle.index_model.specs.Program.{Walked, Program}
use Rattle.index_model.specs.Sections.{section_bytes}
use Rattle.shard_build.specs.Again.{walk_by, IsSound}
use Rattle.entry_scan.specs.TablesAtOffsets.{IsAtOffset}
use Rattle.shard_build.specs.declared.home.UnitInFile.{UnitInFile}
use Rattle.entry_scan.specs.declared.abbrev_table.AbbrevTable.{AbbrevTable}
use Rattle.gdb_entries.specs.Files.{ForProgram}
use Rattle.gdb_items.specs.declared.unit_with_table.UnitWithTable.{UnitWithTable}

-- the table is one of the file's
abbrev pub IsTableOf : Image → AbbrevTable → Type 0
IsTableOf image t = IsAtOffset (section_bytes image.sections (codes ".debug_abbrev")) t

-- the unit lies in its own bytes
pub record IsWithin (h : UnitInFile) : Type 0 where
  pub own : h.bytes.now ≡ unit_bytes h.sections.now h.unit
  pub header : h.unit.body ≤ length h.bytes.now
  pub small : h.unit.start + length h.bytes.now < 2 ^ 63
  pub ends : h.unit.start + h.unit.length < 2 ^ 63

-- its walk is that of the program's unit with the number
pub record IsHomeOf (p : Program) (number : ℕ) (u : UnitWithTable) : Type 0 where
  pub sections : u.home.sections.now ≡ p.sections
  pub walk : (w : Walked) → Contains p.walks w → w.number ≡ number → walk_by u.home u.table.abbrevs ≡ w

-- the unit is that of the file with the number, and has no fault
pub record IsUnitOf (image : Image) (number : ℕ) (u : UnitWithTable) : Type 0 where
  pub within : IsWithin u.home
  pub sound : IsSound u.home u.table.abbrevs
  pub table : IsTableOf image u.table
  pub home : ForProgram image.file (λ p. IsHomeOf p number u)

-- what holds of the unit of a file without a fault that has the number
abbrev pub ForUnitOf : Image → ℕ → (Program → Walked → Type 0) → Type 0
ForUnitOf image number Holds = ForProgram image.file (λ p. (w : Walked) → Contains p.walks w → w.number ≡ number → Holds p w)
