-- The units that tile `.debug_info` and `.debug_types` (DWARF 5, 7.5.1; DWARF 4, 7.5.1 for versions 2 to 4).
use Rattle.std.specs.Prelude.{ℕ, ◌+◌, ◌-◌, Bool, true, false, ◌&&◌, nat_lt, nat_le, ◌==◌, if◌then◌else◌, List, ◌++◌, length, codes, Option, Some, Result, Ok}
use Rattle.ix_base.specs.declared.fault.Fault.{Fault}
use Rattle.index_model.specs.declared.unit.Part.{Part}
use Rattle.index_model.specs.declared.unit.Part.TheVariants.{Info, Types}
use Rattle.index_model.specs.declared.unit.UnitSort.{UnitSort}
use Rattle.index_model.specs.declared.unit.UnitSort.TheVariants.{Compile, TypeUnit, Partial, Skeleton}
use Rattle.index_model.specs.declared.unit.Unit.{Unit as UnitHeader}
use Rattle.ix_base.specs.declared.code.TheConstants.{UNIT_LENGTH, UNIT_VERSION, UNIT_TYPE, ADDRESS_SIZE, TOO_MANY_UNITS}
use Rattle.ix_base.specs.declared.limits.TheConstants.{MAX_UNITS}
use Rattle.ix_base.specs.Reading.{Input, number, initial_length, offset, part, input, ◌>>=◌ as ◌>>=?◌}
use Rattle.index_model.specs.Meaning.{◌>>=◌, ◌>>◌, fault, holds_or, some_or}
use Rattle.index_model.specs.Sections.{Section, section_bytes}
use Rattle.index_model.specs.Tiling.{tiles}

-- whether the section is `.debug_types`
abbrev pub is_types : Part → Bool
is_types Types = true
is_types Info = false

-- a unit of `.debug_info` has version 2, 3, 4 or 5, and one of `.debug_types` has version 4
abbrev pub is_version : Part → ℕ → Bool
is_version Info v = nat_le 2 v && nat_le v 5
is_version Types v = v == 4

-- the sort of the unit with this unit type, 1 to 4
abbrev pub sort_numbered : ℕ → UnitSort
sort_numbered n = if n == 1 then Compile else if n == 2 then TypeUnit else if n == 3 then Partial else Skeleton

-- the sort of a unit and where its abbreviations begin
abbrev pub Fields : Type 0
Fields = record { sort : UnitSort; abbrev_offset : ℕ }

-- unit type, address size and abbreviation offset, as version 5 has them
unfoldable pub fields_5 : ℕ → Bool → Input → Result (Fields × Input) Fault
fields_5 place wide i = do
  kind ← some_or (number 1 i) (fault UNIT_LENGTH place)
  holds_or (nat_le 1 kind.0 && nat_le kind.0 4) (fault UNIT_TYPE place)
  size ← some_or (number 1 kind.1) (fault UNIT_LENGTH place)
  holds_or (size.0 == 8) (fault ADDRESS_SIZE place)
  at ← some_or (offset wide size.1) (fault UNIT_LENGTH place)
  Ok (record { sort = sort_numbered kind.0; abbrev_offset = at.0 }, at.1)

-- abbreviation offset and address size, as versions 2 to 4 have them
unfoldable pub fields_4 : Part → ℕ → Bool → Input → Result (Fields × Input) Fault
fields_4 section place wide i = do
  at ← some_or (offset wide i) (fault UNIT_LENGTH place)
  size ← some_or (number 1 at.1) (fault UNIT_LENGTH place)
  holds_or (size.0 == 8) (fault ADDRESS_SIZE place)
  Ok (record { sort = if is_types section then TypeUnit else Compile; abbrev_offset = at.0 }, size.1)

-- what only a type unit has
abbrev pub Ending : Type 0
Ending = record { signature : ℕ; type_offset : ℕ }

-- what a header has at its end: a type unit its signature and its type's place, a skeleton unit its id
unfoldable pub ending : UnitSort → Bool → Input → Option (Ending × Input)
ending TypeUnit wide i = number 8 i >>=? λ s. offset wide s.1 >>=? λ t. Some (record { signature = s.0; type_offset = t.0 }, t.1)
ending Skeleton wide i = number 8 i >>=? λ id. Some (record { signature = 0; type_offset = 0 }, id.1)
ending Compile wide i = Some (record { signature = 0; type_offset = 0 }, i)
ending Partial wide i = Some (record { signature = 0; type_offset = 0 }, i)

-- what stands in a header behind the initial length
abbrev pub Head : Type 0
Head = record { version : ℕ; fields : Fields; ending : Ending }

-- the header behind the initial length, in the unit's own bytes
unfoldable pub head : Part → ℕ → Bool → Input → Result (Head × Input) Fault
head section place wide own = do
  version ← some_or (number 2 own) (fault UNIT_LENGTH place)
  holds_or (is_version section version.0) (fault UNIT_VERSION place)
  let four = fields_4 section place wide version.1
  let five = fields_5 place wide version.1
  fields ← if version.0 == 5 then five else four
  end ← some_or (ending fields.0.sort wide fields.1) (fault UNIT_LENGTH place)
  Ok (record { version = version.0; fields = fields.0; ending = end.0 }, end.1)

-- the unit at the front, with its number, in a section whose first byte has the joint offset base; and what stands behind the unit
unfoldable pub next_unit : Part → ℕ → ℕ → Input → Result (UnitHeader × Input) Fault
next_unit section base k i = do
  let place = base + i.at
  len ← some_or (initial_length i) (fault UNIT_LENGTH place)
  own ← some_or (part len.0.length len.1) (fault UNIT_LENGTH place)
  h ← head section place len.0.wide own.0
  holds_or (nat_lt k MAX_UNITS) (fault TOO_MANY_UNITS place)
  let u : UnitHeader = record {
    start = place;
    part = section;
    length = own.1.at - i.at;
    version = h.0.version;
    wide = len.0.wide;
    sort = h.0.fields.sort;
    «abbrev» = h.0.fields.abbrev_offset;
    body = h.1.at - i.at;
    signature = h.0.ending.signature;
    type_offset = h.0.ending.type_offset;
  }
  Ok (u, own.1)

-- the units of both sections in section order, or the first fault
unfoldable pub units_of : List Section → Result (List UnitHeader) Fault
units_of ss = do
  let info = section_bytes ss (codes ".debug_info")
  let types = section_bytes ss (codes ".debug_types")
  infos ← tiles (next_unit Info 0) 0 (input info 0)
  others ← tiles (next_unit Types (length info)) (length infos) (input types 0)
  Ok (infos ++ others)
