-- What the lists of units have of one unit.
use Rattle.std.specs.Prelude.{ℕ, ◌-◌, ◌++◌, if◌then◌else◌, List, []}
use Rattle.index_model.specs.declared.unit.Unit.{Unit as UnitHeader}
use Rattle.index_model.specs.Layout.{u64_bytes}
use Rattle.index_model.specs.Units.{is_types}
use Rattle.index_model.specs.GdbIndex.{is_type_unit}

-- how many bytes of `.debug_info` the unit has
abbrev pub info_part : UnitHeader → ℕ
info_part u = if is_types u.part then 0 else u.length

-- where the unit begins in its own section, if `.debug_info` has so many bytes
abbrev pub start_behind : ℕ → UnitHeader → ℕ
start_behind info u = if is_types u.part then u.start - info else u.start

-- what the CU list has of the unit
abbrev pub cu_bytes : ℕ → UnitHeader → List ℕ
cu_bytes info u = if is_type_unit u then [] else u64_bytes (start_behind info u) ++ u64_bytes u.length

-- what the types list has of the unit
abbrev pub types_bytes : ℕ → UnitHeader → List ℕ
types_bytes info u = if is_type_unit u then u64_bytes (start_behind info u) ++ u64_bytes u.type_offset ++ u64_bytes u.signature else []
