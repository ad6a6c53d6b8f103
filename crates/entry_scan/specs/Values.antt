-- The values of an entry's attributes, by the specs that an abbreviation lists (DWARF 5, 7.5.3).
use Rattle.std.specs.Prelude.{◌≡◌, ℕ, ℤ, nat_le, if◌then◌else◌, length, List, [], map, Result, Ok, Err}
use Rattle.ix_base.specs.declared.code.TheConstants.{TRUNCATED}
use Rattle.ix_base.specs.Reading.{Input, past}
use Rattle.index_model.specs.declared.unit.Part.TheVariants.{Info}
use Rattle.index_model.specs.declared.unit.UnitSort.TheVariants.{Compile}
use Rattle.index_model.specs.declared.unit.Unit.{Unit as UnitHeader}
use Rattle.index_model.specs.Forms.{Value, Reader}
use Rattle.index_model.specs.Walk.{values}
use Rattle.entry_scan.specs.declared.abbreviation.Spec.{Spec}
use Rattle.entry_scan.specs.SeenAbbreviations.{spec_seen}
use Rattle.index_model.specs.declared.value.Value.{Value as ReadValue}
use Rattle.index_model.specs.FormSeen.{seen}
use Rattle.entry_scan.specs.declared.values.UnitFormat.{UnitFormat}

-- an attribute and its value
abbrev pub pair_seen : ℕ × ReadValue → ℕ × Value
pair_seen p = (p.0, seen p.1)

-- a unit of this version and format; nothing else of a unit counts for values
abbrev pub unit_of_format : UnitFormat → UnitHeader
unit_of_format f = record { start = 0; part = Info; length = 0; version = f.version; wide = f.wide; sort = Compile; «abbrev» = 0; body = 0; signature = 0; type_offset = 0 }

-- the values of these attributes at the front
abbrev pub values_at : UnitFormat → List Spec → Input → Result (List (ℕ × Value) × Input) ℕ
values_at f specs i = values (unit_of_format f) [] (map spec_seen specs) i

-- what was read
abbrev pub value_read : {A : Type 0} → Result (List A × Input) ℕ → List A
value_read (Ok x) = x.0
value_read (Err code) = []

-- where the reading ended
abbrev pub place_read : {A : Type 0} → Result (A × Input) ℕ → Result Input ℕ
place_read (Ok x) = Ok x.1
place_read (Err code) = Err code

-- nothing is wrong
abbrev pub IsRead : {A : Type 0} → Result (A × Input) ℕ → Type 0
IsRead r = (j : Input) × (place_read r ≡ Ok j)

-- behind the next n bytes
abbrev pub past_bytes : ℕ → Input → Result Input ℕ
past_bytes n i = if nat_le n (length i.rest) then Ok (past n i) else Err TRUNCATED

-- the values of a form take n bytes each
abbrev pub TakeBytes : ℕ → (ℤ → Reader) → Type 0
TakeBytes n read = (constant : ℤ) (i : Input) → place_read (read constant i) ≡ past_bytes n i
