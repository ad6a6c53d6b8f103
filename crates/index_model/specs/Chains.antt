-- Chains of references, and the names that they give (DWARF 5, 2.13.2 and 3.3.8; signatures: 7.32).
use Rattle.std.specs.Prelude.{ℕ, zero, suc, Bool, true, false, ◌&&◌, ◌==◌, if◌then◌else◌, List, [], ◌∷◌, filter_map, find, codes, Option, Some, None, Result, Ok, Err}
use Rattle.std.specs.Option.{option_or}
use Rattle.std.specs.List.{list_any}
use Rattle.index_model.specs.declared.unit.UnitSort.{UnitSort}
use Rattle.index_model.specs.declared.unit.UnitSort.TheVariants.{TypeUnit}
use Rattle.ix_base.specs.declared.code.TheConstants.{REFERENCE_CHAIN}
use Rattle.ix_base.specs.declared.limits.TheConstants.{MAX_CHAIN_HOPS}
use Rattle.index_model.specs.Meaning.{◌>>=◌, if_some, some_else}
use Rattle.index_model.specs.Attributes.{next_reference, signature_of, has_external}
use Rattle.index_model.specs.Tags.{namespace}
use Rattle.index_model.specs.Program.{Program, Located}
use Rattle.index_model.specs.Strings.{own_name, own_linkage_name}
use Rattle.index_model.specs.References.{entry_named}

-- the first of a list
abbrev pub first : {A : Type 0} → List A → Option A
first [] = None
first (x ∷ xs) = Some x

-- what the entry's specification or abstract origin names, if it has one; a target is looked up before the hop is counted
unfoldable pub next_of : Program → Located → Result (Option Located) ℕ
next_of p d = if_some (next_reference d.item) (λ r. entry_named p d.home r >>= λ target. Ok (Some target))

-- the chain ends with its last entry; a hop more than are allowed is a fault
abbrev pub hop : Option Located → (Located → Result (List Located) ℕ) → Result (List Located) ℕ
hop None others = Ok []
hop (Some d) others = others d

-- what comes behind an entry of a chain, in n hops at most
unfoldable pub hops_from : ℕ → Program → Located → Result (List Located) ℕ
hops_from zero p d = next_of p d >>= λ next. hop next (λ _. Err REFERENCE_CHAIN)
hops_from (suc n) p d = next_of p d >>= λ next. hop next (λ e. hops_from n p e >>= λ others. Ok (e ∷ others))

-- the chain of the entry: the entry itself, what its reference names, what that one's names, and so on, in 8 hops at most
unfoldable pub chain_of : Program → Located → Result (List Located) ℕ
chain_of p d = do
  others ← hops_from MAX_CHAIN_HOPS p d
  Ok (d ∷ others)

-- the last entry of a chain that begins with d
abbrev pub chain_end : Located → List Located → Located
chain_end d [] = d
chain_end d (e ∷ es) = chain_end e es

-- some entry of the chain has the external flag
unfoldable pub is_external : List Located → Bool
is_external chain = list_any (λ d. has_external d.item) chain

-- the first linkage name on the chain
unfoldable pub linkage_name_of : Program → List Located → Option (List ℕ)
linkage_name_of p chain = first (filter_map (own_linkage_name p.sections) chain)

-- whether the unit is a type unit
abbrev pub is_type_unit : UnitSort → Bool
is_type_unit TypeUnit = true
is_type_unit other = false

-- the name of the type that the first type unit with the signature describes
unfoldable pub name_signed : Program → ℕ → Result (Option (List ℕ)) ℕ
name_signed p s =
    let w = find (λ w. is_type_unit w.unit.sort && w.unit.signature == s) p.walks in
    if_some w (λ w. entry_named p w (record { target = w.unit.type_offset; near = true }) >>= λ d. Ok (own_name p.sections d))

-- the name by the entry's own signature
unfoldable pub name_by_signature : Program → Located → Result (Option (List ℕ)) ℕ
name_by_signature p d = if_some (signature_of d.item) (name_signed p)

-- a namespace without a name is the anonymous one
abbrev pub anonymous : Located → Option (List ℕ)
anonymous d = if d.item.tag == namespace then Some (codes "(anonymous namespace)") else None

-- the name that the file spells for the entry whose chain is known: the first on the chain, else by its signature
unfoldable pub spelled_name : Program → Located → List Located → Result (Option (List ℕ)) ℕ
spelled_name p d chain = some_else (first (filter_map (own_name p.sections) chain)) (name_by_signature p d)

-- the name of an entry for which the file spells this name: a namespace without one is anonymous
abbrev pub name_with : Located → Option (List ℕ) → Option (List ℕ)
name_with d spelled = option_or spelled (anonymous d)

-- the name of the entry whose chain is known: what the file spells, else that of an anonymous namespace
unfoldable pub name_of : Program → Located → List Located → Result (Option (List ℕ)) ℕ
name_of p d chain = spelled_name p d chain >>= λ spelled. Ok (name_with d spelled)
