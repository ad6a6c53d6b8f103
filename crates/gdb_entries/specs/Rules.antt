-- Which items gdb looks at, which open their children, and which names are static (gdb/dwarf2/abbrev.c, abbrev_table::read; read.c, scan_attributes and index_dies).
use Rattle.std.specs.Prelude.{ℕ, Bool, true, false, not, ◌&&◌, ◌||◌, ◌==◌, if◌then◌else◌, [], ◌∷◌, is_some, Option, Some, None}
use Rattle.index_model.specs.Tags.{is_one_of, is_record_tag, namespace, enumeration, subprogram, variable}
use Rattle.gdb_entries.specs.declared.language.LanguageClass.{LanguageClass}
use Rattle.gdb_entries.specs.declared.language.LanguageClass.TheVariants.{Ada, Fortran}
use Rattle.gdb_entries.specs.declared.item.ItemFacts.{ItemFacts}
use Rattle.gdb_entries.specs.Classes.{is_c, is_cxx}
use Rattle.gdb_entries.specs.Kinds.{kinds_of}

-- the tag of an entry point
abbrev pub entry_point : ℕ
entry_point = 0x03

-- the tag of a module
abbrev pub module_tag : ℕ
module_tag = 0x1E

-- the tag of an enumerator
abbrev pub enumerator : ℕ
enumerator = 0x28

-- ---- which items count

-- namespaces and enumerations count without a name
abbrev pub may_be_nameless : ℕ → Bool
may_be_nameless tag = tag == namespace || tag == enumeration

-- a declaration; a variable that is external isn't taken for one
abbrev pub is_declared : ItemFacts → Bool
is_declared d = d.declared && not (d.external && d.tag == variable)

-- a class, structure, union or namespace with children gives scope to what stands in it, be it only declared
abbrev pub is_declared_scope : ItemFacts → Bool
is_declared_scope d = d.children && is_one_of (0x02 ∷ 0x13 ∷ 0x17 ∷ 0x39 ∷ []) d.tag

-- a declaration that gives scope and isn't listed itself
abbrev pub gives_scope_alone : ItemFacts → Bool
gives_scope_alone d = is_declared d && is_declared_scope d

-- The item has a name or may be nameless, its tag is one that gdb lists, and it isn't declared, unless it gives scope.
abbrev pub counts : ItemFacts → Bool
counts d = (d.named || may_be_nameless d.tag) && is_some (kinds_of d.tag) && (not (is_declared d) || is_declared_scope d)

-- ---- where they are looked at

-- of what stands right in a subprogram only subprograms and entry points are looked at, and entry points nowhere else
abbrev pub is_allowed_in : Option ℕ → ℕ → Bool
is_allowed_in None tag = not (tag == entry_point)
is_allowed_in (Some around) tag = if around == subprogram then tag == subprogram || tag == entry_point else not (tag == entry_point)

-- subprograms stand in subprograms
abbrev pub has_local_subprograms : LanguageClass → Bool
has_local_subprograms Ada = true
has_local_subprograms Fortran = true
has_local_subprograms _ = false

-- whether an item that is looked at opens its children
abbrev pub opens : LanguageClass → ℕ → Bool → Bool → Bool
opens class tag children has_name =
    children && (may_be_nameless tag || (has_name && (
    tag == module_tag || (is_record_tag tag && not (is_c class)) || (tag == subprogram && has_local_subprograms class))))

-- ---- static

-- a class, structure, union, interface, enumeration or enumerator, each of which is one in all units of C++
abbrev pub is_shared_in_cxx : ℕ → Bool
is_shared_in_cxx tag = is_record_tag tag || tag == enumeration || tag == enumerator

-- The names of an item are static, unless it is external, or is what no unit has for itself. An entry point is as its subprogram.
abbrev pub is_static : LanguageClass → ℕ → Bool → Bool
is_static class tag external =
    not (external || tag == namespace || tag == module_tag
    || (is_cxx class && is_shared_in_cxx tag)
    || (has_local_subprograms class && tag == subprogram))
