-- What is told of chains.
use Rattle.std.specs.Prelude.{◌≡◌, ℕ, true, List, ◌∷◌, map, filter_map, Option, is_some, option_map, IfSome}
use Rattle.std.specs.List.{list_any}
use Rattle.index_model.specs.Attributes.{has_external, has_enum_class}
use Rattle.index_model.specs.Chains.{first}
use Rattle.index_model.specs.Program.{Program, Located}
use Rattle.index_model.specs.Sections.{Section}
use Rattle.index_model.specs.Strings.{own_name}
use Rattle.gdb_entries.specs.Chains.{targets_of, first_name, is_external, is_scoped}
use Rattle.gdb_items.specs.Texts.{string_told}
use Rattle.gdb_items.specs.declared.chain.Chain.{Chain}

-- there is such a text, and it stands there in `.debug_str`, if it is said to
abbrev pub StandsAt : List Section → Option ℕ → Option (List ℕ) → Type 0
StandsAt ss place text = IfSome place (λ at. (is_some text ≡ true) × (string_told ss at ≡ text))

-- what is told of a chain of these targets behind an item
pub record IsToldOf (ss : List Section) (d : Located) (passed : List Located) (c : Chain) : Type 0 where
  pub name : option_map (λ b. b.now) c.name ≡ first (filter_map (own_name ss) (d ∷ passed))
  pub place : StandsAt ss c.place (first (filter_map (own_name ss) (d ∷ passed)))
  pub external : c.external ≡ list_any (λ e. has_external e.item) (d ∷ passed)
  pub scoped : c.scoped ≡ list_any (λ e. has_enum_class e.item) (d ∷ passed)
  pub targets : c.targets.items ≡ map (λ e. e.item.at) passed

-- what is told is what the chain of the item gives
pub record IsChainOf (p : Program) (d : Located) (c : Chain) : Type 0 where
  pub name : option_map (λ b. b.now) c.name ≡ first_name p d
  pub place : StandsAt p.sections c.place (first_name p d)
  pub external : c.external ≡ is_external p d
  pub scoped : c.scoped ≡ is_scoped p d
  pub targets : c.targets.items ≡ map (λ e. e.item.at) (targets_of p d)
