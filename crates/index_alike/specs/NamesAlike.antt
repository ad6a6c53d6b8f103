-- What a written `.debug_names` says (DWARF 5, 6.1.1).
use Rattle.std.specs.Prelude.{◌≡◌, ◌≤◌, ℕ, ◌+◌, Bool, true, false, not, ◌&&◌, ◌||◌, List, length, filter, filter_map, slice_get, Contains, Option, Some, option_map, is_some, Ok}
use Rattle.ix_base.specs.declared.limits.TheConstants.{MAX_FILE_BYTES}
use Rattle.index_model.specs.declared.entry.Entry.{Entry}
use Rattle.index_model.specs.declared.unit.Unit.{Unit as UnitHeader}
use Rattle.index_model.specs.declared.job.CacheKind.TheVariants.{Names}
use Rattle.index_model.specs.Units.{is_types}
use Rattle.index_model.specs.GdbIndex.{is_type_unit}
use Rattle.index_model.specs.Faults.{Built, built_of}
use Rattle.index_model.specs.Answers.{entries_in, is_named, is_simply_named}
use Rattle.index_model.specs.Cache.{NameBytes, cache_in, string_bytes_in}
use Rattle.index_model.specs.NameIndex.{Indexed, indexed_entry, units_of_sort}
use Rattle.index_alike.specs.GdbAlike.{units_in}
use Rattle.index_model.specs.NameIndexRead.{Sort, Compile, Local, NameHit, NameIndex, name_index, name_index_hits}

-- the entry's simple name is the name; or it is a linkage entry, and its name is
abbrev pub stands_under : List ℕ → Entry → Bool
stands_under name e = is_simply_named name e || (e.linkage && is_named name e)

-- ---- hits

-- type units of the file are local ones, and all its other units stand among the compile units
abbrev pub sort_of : Bool → Sort
sort_of true = Local
sort_of false = Compile

-- an entry of the index, as a look-up gives it
abbrev pub hit_of : Indexed → NameHit
hit_of e = record { sort = sort_of e.types; unit = e.unit; tag = e.tag; offset = e.offset }

-- an entry of an accepted file, as a look-up gives it; none for those of `.debug_types`
abbrev pub hit_in : Built → Entry → Option NameHit
hit_in b e = option_map hit_of (indexed_entry (units_in b) e)

-- The hit leads to the entry: at its place in the list of its sort stands the entry's unit, with its number, and at its offset in this unit stands the entry.
pub record LeadsTo (units : List UnitHeader) (h : NameHit) (e : Entry) : Type 0 where
  pub unit : UnitHeader
  pub own : slice_get units e.unit ≡ Some unit
  pub sort : h.sort ≡ sort_of (is_type_unit unit)
  pub listed : slice_get (units_of_sort (is_type_unit unit) units) h.unit ≡ Some (e.unit, unit)
  pub place : unit.start + h.offset ≡ e.offset
  pub tag : h.tag ≡ e.tag

-- the hit of each entry leads to it
abbrev pub HitsLeadToEntries : Type 0
HitsLeadToEntries = (f : List ℕ) (b : Built) (e : Entry) (h : NameHit) → built_of f ≡ Ok b → Contains (entries_in b) e → hit_in b e ≡ Some h → LeadsTo (units_in b) h e

-- the entry's unit is one of the file, and the entry has a hit if its unit stands in `.debug_info`, and else none
pub record HasHitInInfo (b : Built) (e : Entry) : Type 0 where
  pub unit : UnitHeader
  pub own : slice_get (units_in b) e.unit ≡ Some unit
  pub hit : is_some (hit_in b e) ≡ not (is_types unit.part)

-- each entry of a file
abbrev pub InfoHasHits : Type 0
InfoHasHits = (f : List ℕ) (b : Built) (e : Entry) → built_of f ≡ Ok b → Contains (entries_in b) e → HasHitInInfo b e

-- ---- what is written

-- the entries in `.debug_info` that stand under the name, in section order
abbrev pub hits_under : Built → List ℕ → List NameHit
hits_under b name = filter_map (hit_in b) (filter (stands_under name) (entries_in b))

-- the bytes and the strings, which stand behind those of the file, have no fault, and give all entries of each name
pub record ReadAlike (b : Built) (names strings : List ℕ) : Type 0 where
  pub index : NameIndex
  pub accepted : name_index names strings (string_bytes_in b.program.sections) ≡ Ok index
  pub hits : (name : List ℕ) → name_index_hits index name ≡ hits_under b name

-- what is written of each accepted file within the limits
abbrev pub WrittenNamesReadAlike : Type 0
WrittenNamesReadAlike = (f : List ℕ) (b : Built) (names strings : List ℕ) → length f ≤ MAX_FILE_BYTES → built_of f ≡ Ok b → cache_in Names b ≡ NameBytes names strings → ReadAlike b names strings
