-- Chains of references, and what they say (gdb/dwarf2/read.c, scan_attributes; DWARF 5, 2.13.2, 3.3.8.1).
use Rattle.std.specs.Prelude.{ℕ, zero, suc, Bool, ◌&&◌, ◌==◌, if◌then◌else◌, List, [], ◌∷◌, filter_map, bytes_eq, codes, Option, Some, None, option_and_then}
use Rattle.std.specs.Option.{option_or}
use Rattle.std.specs.List.{list_any}
use Rattle.ix_base.specs.declared.limits.TheConstants.{MAX_CHAIN_HOPS}
use Rattle.index_model.specs.Attributes.{Reference, read_as, as_reference, next_reference, is_declaration, has_external, has_enum_class}
use Rattle.index_model.specs.Tags.{is_one_of, namespace}
use Rattle.index_model.specs.Walk.{Item}
use Rattle.index_model.specs.Program.{Program, Located, item_with_offset}
use Rattle.index_model.specs.Strings.{own_name, own_linkage_name}
use Rattle.index_model.specs.References.{target_of}
use Rattle.index_model.specs.Chains.{first}
use Rattle.gdb_entries.specs.declared.language.LanguageClass.{LanguageClass}
use Rattle.gdb_entries.specs.declared.item.ItemFacts.{ItemFacts}
use Rattle.gdb_entries.specs.Classes.{is_cxx}
use Rattle.gdb_entries.specs.Rules.{gives_scope_alone}

-- name, linkage_name and 2007, specification, abstract_origin, extension
abbrev pub is_naming : ℕ → Bool
is_naming = is_one_of (0x03 ∷ 0x6E ∷ 0x2007 ∷ 0x47 ∷ 0x31 ∷ 0x54 ∷ [])

-- what the rules ask of an item by itself
unfoldable pub facts_of : Item → ItemFacts
facts_of d = record {
  tag = d.tag;
  children = d.children;
  named = list_any (λ v. is_naming v.0) d.values;
  declared = is_declaration d;
  external = has_external d;
}

-- the specification, else the abstract origin, else the extension
abbrev pub origin_of : Item → Option Reference
origin_of d = option_or (next_reference d) (read_as as_reference 0x54 d)

-- what the origin of an item names, if an item stands there
unfoldable pub next_of : Program → Located → Option Located
next_of p d = option_and_then (λ r. option_and_then (item_with_offset p) (target_of p.sections d.home r)) (origin_of d.item)

-- a target, and what comes behind it
abbrev pub with_others : Option Located → (Located → List Located) → List Located
with_others None others = []
with_others (Some d) others = d ∷ others d

-- what the item's origin names, what that one's names, and so on, n at most
unfoldable pub targets_from : ℕ → Program → Located → List Located
targets_from zero p d = []
targets_from (suc n) p d = with_others (next_of p d) (λ e. targets_from n p e)

-- the targets of an item's chain, 8 at most; of a declaration that gives scope alone nothing is followed
unfoldable pub targets_of : Program → Located → List Located
targets_of p d = if gives_scope_alone (facts_of d.item) then [] else targets_from MAX_CHAIN_HOPS p d

-- the chain of an item: the item and the targets
abbrev pub chain_of : Program → Located → List Located
chain_of p d = d ∷ targets_of p d

-- the first name on the chain
abbrev pub first_name : Program → Located → Option (List ℕ)
first_name p d = first (filter_map (own_name p.sections) (chain_of p d))

-- a namespace without a name is the anonymous one; in C++ one called `::` has none
abbrev pub namespace_name : LanguageClass → Option (List ℕ) → Option (List ℕ)
namespace_name class None = Some (codes "(anonymous namespace)")
namespace_name class (Some name) = if is_cxx class && bytes_eq name (codes "::") then None else Some name

-- the name of an item in a unit that is read by this class
unfoldable pub name_of : Program → LanguageClass → Located → Option (List ℕ)
name_of p class d =
    let name = first_name p d in
    if d.item.tag == namespace then namespace_name class name else name

-- the first linkage name on the chain
unfoldable pub linkage_of : Program → Located → Option (List ℕ)
linkage_of p d = first (filter_map (own_linkage_name p.sections) (chain_of p d))

-- whether some item of the chain is external
unfoldable pub is_external : Program → Located → Bool
is_external p d = list_any (λ e. has_external e.item) (chain_of p d)

-- whether some item of the chain is a scoped enumeration
unfoldable pub is_scoped : Program → Located → Bool
is_scoped p d = list_any (λ e. has_enum_class e.item) (chain_of p d)
