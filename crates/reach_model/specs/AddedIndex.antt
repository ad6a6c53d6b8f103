-- A program with its index added (GDB manual, "Index Files"; DWARF 5, 6.1.1).
use Rattle.std.specs.Prelude.{ℕ, ◌+◌, Bool, nat_lt, List, [], ◌∷◌, codes, Option, Some, None, is_some, if◌then◌else◌}
use Rattle.index_model.specs.declared.job.CacheKind.{CacheKind}
use Rattle.index_model.specs.declared.job.CacheKind.TheVariants.{Gdb8, Gdb9, Names}
use Rattle.index_model.specs.Sections.{Section, index_named, section_count}
use Rattle.index_model.specs.Cache.{Cache, GdbBytes, NameBytes, DoesNotFit}
use Rattle.reach_model.specs.Added.{Addition, debug_str}

-- the section that holds an index of a kind
abbrev pub index_section : CacheKind → List ℕ
index_section Gdb8 = codes ".gdb_index"
index_section Gdb9 = codes ".gdb_index"
index_section Names = codes ".debug_names"

-- what is added for an index: its section, and for a `.debug_names` its strings; nothing where the format can't hold the index
abbrev pub addition_of : Cache → Option Addition
addition_of (GdbBytes bytes) = Some (record { sections = record { name = codes ".gdb_index"; content = bytes } ∷ []; strings = None })
addition_of (NameBytes names strings) = Some (record { sections = record { name = codes ".debug_names"; content = names } ∷ []; strings = Some strings })
addition_of DoesNotFit = None

-- whether the program has a section named as one that is added
abbrev pub is_indexed : CacheKind → List Section → Bool
is_indexed kind sections = is_some (index_named sections (index_section kind))

-- how many sections are added: that of the index, and for a `.debug_names` a `.debug_str` where there is none
abbrev pub added_count : CacheKind → List Section → ℕ
added_count Names sections = if is_some (index_named sections debug_str) then 1 else 2
added_count other sections = 1

-- the most sections that a program with an index has: from FF00 on indexes are reserved (gABI, "Sections")
abbrev pub most_sections : ℕ
most_sections = 65279

-- whether the program has no room for the sections that are added
abbrev pub is_crowded : CacheKind → List ℕ → List Section → Bool
is_crowded kind file sections = nat_lt most_sections (section_count file + added_count kind sections)
