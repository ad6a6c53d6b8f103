-- The index that the last job writes, or that its format can't hold it.
use Rattle.std.specs.Prelude.{ℕ, ◌+◌, ◌&&◌, nat_le, if◌then◌else◌, List, length, map, codes, Option, Result, Ok, Err}
use Rattle.ix_base.specs.declared.fault.Fault.{Fault}
use Rattle.index_model.specs.declared.answer.CacheSize.{CacheSize}
use Rattle.index_model.specs.declared.answer.CacheSize.TheVariants.{Bytes, TooLarge}
use Rattle.index_model.specs.declared.answer.Main.{Main}
use Rattle.index_model.specs.declared.entry.Entry.{Entry}
use Rattle.index_model.specs.declared.job.CacheKind.{CacheKind}
use Rattle.index_model.specs.declared.job.CacheKind.TheVariants.{Gdb8, Gdb9, Names}
use Rattle.index_model.specs.declared.range.UnitRange.{UnitRange}
use Rattle.index_model.specs.declared.unit.Unit.{Unit as UnitHeader}
use Rattle.index_model.specs.Sections.{Section, section_bytes}
use Rattle.index_model.specs.MainProgram.{main_of}
use Rattle.index_model.specs.Faults.{Built}
use Rattle.index_model.specs.Answers.{entries_in}
use Rattle.index_model.specs.Pieces.{pieces}
use Rattle.index_model.specs.GdbIndex.{gdb_index_bytes}
use Rattle.index_model.specs.NameIndex.{name_index_bytes, name_index_strings}

-- the bytes of a `.gdb_index`, those of a `.debug_names` and the strings that it adds, or neither
pub data Cache : Type 0 where
  GdbBytes : List ℕ → Cache
  NameBytes : List ℕ → List ℕ → Cache
  DoesNotFit : Cache

-- a `.gdb_index` has at most 4,294,967,295 bytes
abbrev pub gdb_cache : List ℕ → Cache
gdb_cache bytes = if nat_le (length bytes) 4294967295 then GdbBytes bytes else DoesNotFit

-- a `.debug_names` has at most 4,294,967,283 bytes, and `.debug_str` with the added strings at most 4,294,967,295
abbrev pub name_cache : ℕ → List ℕ → List ℕ → Cache
name_cache old_strings names strings = if nat_le (length names) 4294967283 && nat_le (old_strings + length strings) 4294967295 then NameBytes names strings else DoesNotFit

-- the index of a kind over these units, pieces of addresses, main, bytes of `.debug_str` and entries
unfoldable pub cache_of : CacheKind → List UnitHeader → List UnitRange → Option Main → ℕ → List Entry → Cache
cache_of Gdb8 units pieces main old_strings entries = gdb_cache (gdb_index_bytes units pieces main entries 8)
cache_of Gdb9 units pieces main old_strings entries = gdb_cache (gdb_index_bytes units pieces main entries 9)
cache_of Names units pieces main old_strings entries = name_cache old_strings (name_index_bytes units old_strings entries) (name_index_strings units entries)

-- the length of the bytes; the strings of a `.debug_names` don't count
abbrev pub size_of : Cache → CacheSize
size_of (GdbBytes bytes) = Bytes (length bytes)
size_of (NameBytes names strings) = Bytes (length names)
size_of DoesNotFit = TooLarge

-- how many bytes `.debug_str` has
abbrev pub string_bytes_in : List Section → ℕ
string_bytes_in ss = length (section_bytes ss (codes ".debug_str"))

-- the index of an accepted file
unfoldable pub cache_in : CacheKind → Built → Cache
cache_in kind b = cache_of kind (map (λ w. w.unit) b.program.walks) (pieces b.ranges) (main_of b.program b.links) (string_bytes_in b.program.sections) (entries_in b)

-- its length; a file with a fault has none
unfoldable pub size_in : CacheKind → Result Built Fault → CacheSize
size_in kind (Ok b) = size_of (cache_in kind b)
size_in kind (Err f) = TooLarge
