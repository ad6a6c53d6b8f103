-- The bytes of a `.gdb_index`, versions 8 and 9 (GDB manual, index section format).
use Rattle.std.specs.Prelude.{ℕ, ◌+◌, ◌*◌, ◌-◌, ◌^◌, Bool, true, false, not, ◌&&◌, nat_lt, nat_eq, ◌==◌, if◌then◌else◌, List, [], ◌∷◌, ◌++◌, length, map, filter, position, sum_by, flat_map, bytes_eq, slice_get, Option, Some, None, unwrap_or}
use Rattle.std.specs.List.{enumerate_from}
use Rattle.ix_base.specs.Reading.{◌>>=◌ as ◌>>=?◌}
use Rattle.index_model.specs.declared.answer.Main.{Main}
use Rattle.index_model.specs.declared.entry.Entry.{Entry}
use Rattle.index_model.specs.declared.entry.Kind.{Kind}
use Rattle.index_model.specs.declared.entry.Kind.TheVariants.{TypeName, Variable, Function, Other}
use Rattle.index_model.specs.declared.range.UnitRange.{UnitRange}
use Rattle.index_model.specs.declared.unit.Unit.{Unit as UnitHeader}
use Rattle.index_model.specs.declared.unit.UnitSort.{UnitSort}
use Rattle.index_model.specs.declared.unit.UnitSort.TheVariants.{TypeUnit}
use Rattle.index_model.specs.Units.{is_types}
use Rattle.index_model.specs.Layout.{below, u32_bytes, u64_bytes, ended, start_of}
use Rattle.index_model.specs.Ordered.{distinct, ascending, bytes_lt, place_of}
use Rattle.index_model.specs.GdbSlots.{slot_count, slots_of}

-- ---- units

-- whether this is the sort of a type unit
abbrev pub is_type_sort : UnitSort → Bool
is_type_sort TypeUnit = true
is_type_sort other = false

-- whether the unit is a type unit
abbrev pub is_type_unit : UnitHeader → Bool
is_type_unit u = is_type_sort u.sort

-- the units with their numbers, first those that aren't type units, then the type units
abbrev pub index_order : List UnitHeader → List (ℕ × UnitHeader)
index_order units = filter (λ u. not (is_type_unit u.1)) (enumerate_from 0 units) ++ filter (λ u. is_type_unit u.1) (enumerate_from 0 units)

-- the number that the unit with this number has in the index
abbrev pub index_number : List UnitHeader → ℕ → ℕ
index_number units unit = unwrap_or (position (λ u. u.0 == unit) (index_order units)) 0

-- where a unit begins in its own section
unfoldable pub start_in_section : List UnitHeader → UnitHeader → ℕ
start_in_section units u = if is_types u.part then u.start - sum_by (λ v. v.length) (filter (λ v. not (is_types v.part)) units) else u.start

-- of each unit that isn't a type unit its start and its length
abbrev pub cu_list : List UnitHeader → List ℕ
cu_list units = flat_map (λ u. u64_bytes (start_in_section units u) ++ u64_bytes u.length) (filter (λ u. not (is_type_unit u)) units)

-- of each type unit its start, the offset of its type, and its signature
abbrev pub types_list : List UnitHeader → List ℕ
types_list units = flat_map (λ u. u64_bytes (start_in_section units u) ++ u64_bytes u.type_offset ++ u64_bytes u.signature) (filter is_type_unit units)

-- of each piece its low end, its end, and the number of its unit in the index
abbrev pub address_area : List UnitHeader → List UnitRange → List ℕ
address_area units pieces = flat_map (λ p. u64_bytes p.range.low ++ u64_bytes p.range.end ++ u32_bytes (index_number units p.unit)) pieces

-- ---- names and vectors

-- 1 type, 2 variable, 3 function, 4 other
abbrev pub kind_number : Kind → ℕ
kind_number TypeName = 1
kind_number Variable = 2
kind_number Function = 3
kind_number Other = 4

-- the number of the unit in bits 0 to 23, the kind in bits 28 to 30, static in bit 31
abbrev pub element : List UnitHeader → Entry → ℕ
element units e = index_number units e.unit + kind_number e.kind * 2 ^ 28 + (if e.local then 2 ^ 31 else 0)

-- the distinct names of the entries that aren't linkage entries, in byte order
unfoldable pub index_names : List Entry → List (List ℕ)
index_names entries = ascending bytes_lt (map (λ e. e.name) (filter (λ e. not e.linkage) entries))

-- the distinct elements of the entries with a name that aren't linkage entries, ascending
unfoldable pub vector : List UnitHeader → List Entry → List ℕ → List ℕ
vector units entries name = ascending nat_lt (map (element units) (filter (λ e. not e.linkage && bytes_eq e.name name) entries))

-- the number of the elements, and the elements
abbrev pub vector_bytes : List ℕ → List ℕ
vector_bytes elements = u32_bytes (length elements) ++ flat_map u32_bytes elements

-- ---- the constant pool

-- the names in byte order, and the distinct vectors in the order in which these names use them
pub record Pool : Type 0 where
  pub names : List (List ℕ)
  pub vectors : List (List ℕ)

-- the pool of a file with these units and entries
unfoldable pub pool_of : List UnitHeader → List Entry → Pool
pool_of units entries =
    let names = index_names entries in
    record { names = names; vectors = distinct bytes_eq (map (vector units entries) names) }

-- the vectors, then the names, each with a zero
abbrev pub pool_bytes : Pool → List ℕ
pool_bytes pool = flat_map vector_bytes pool.vectors ++ flat_map ended pool.names

-- the place of a name in the pool
abbrev pub name_place : Pool → List ℕ → ℕ
name_place pool name = length (flat_map vector_bytes pool.vectors) + start_of (map ended pool.names) (place_of bytes_eq name pool.names)

-- the place of a vector in the pool
abbrev pub vector_place : Pool → List ℕ → ℕ
vector_place pool elements = start_of (map vector_bytes pool.vectors) (place_of bytes_eq elements pool.vectors)

-- ---- the symbol table and the shortcut

-- a slot: the places of its name and of the name's vector, or zeros
abbrev pub slot_bytes : List UnitHeader → List Entry → Pool → Option (List ℕ) → List ℕ
slot_bytes units entries pool (Some name) = u32_bytes (name_place pool name) ++ u32_bytes (vector_place pool (vector units entries name))
slot_bytes units entries pool None = u32_bytes 0 ++ u32_bytes 0

-- the name whose slot this is, where the names have these slots
abbrev pub name_in_slot : List (List ℕ) → List ℕ → ℕ → Option (List ℕ)
name_in_slot names slots slot = position (nat_eq slot) slots >>=? slice_get names

-- the slots in their order
unfoldable pub symbol_table : List UnitHeader → List Entry → Pool → List ℕ
symbol_table units entries pool =
    let slots = slots_of pool.names in
    flat_map (λ slot. slot_bytes units entries pool (name_in_slot pool.names slots slot)) (below (slot_count (length pool.names)))

-- the language of main and the place of its name, or zeros
abbrev pub shortcut : Pool → Option Main → List ℕ
shortcut pool (Some main) = u32_bytes main.language ++ u32_bytes (name_place pool main.name)
shortcut pool None = u32_bytes 0 ++ u32_bytes 0

-- ---- the whole index

-- the version, the offsets of the areas, and the areas one after the other
abbrev pub with_header : ℕ → List (List ℕ) → List ℕ
with_header version areas =
    let header = 4 + 4 * length areas in
    u32_bytes version ++ flat_map (λ k. u32_bytes (header + start_of areas k)) (below (length areas)) ++ flat_map (λ area. area) areas

-- the index of a file with these units, pieces of addresses, main and entries; the shortcut is of version 9 alone
unfoldable pub gdb_index_bytes : List UnitHeader → List UnitRange → Option Main → List Entry → ℕ → List ℕ
gdb_index_bytes units pieces main entries version =
    let pool = pool_of units entries in
    let front = cu_list units ∷ types_list units ∷ address_area units pieces ∷ symbol_table units entries pool ∷ [] in
    let short = if version == 9 then shortcut pool main ∷ [] else [] in
    with_header version (front ++ short ++ pool_bytes pool ∷ [])
