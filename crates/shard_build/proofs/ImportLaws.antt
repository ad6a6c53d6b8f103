-- The imports of a unit.
use Rattle.std.proofs.Common.{◌≡◌, ℕ, Bool, true, false, cond, eqb, List, [], ◌∷◌, ◌++◌, Option, Some, None, option_map, refl, ap, ◌∙◌}
use Rattle.std.specs.Prelude.{filter, filter_map, flat_map, map, option_and_then, option_to_list}
use Rattle.std.specs.List.{cons_option}
use Rattle.index_model.specs.declared.shard.Import.{Import}
use Rattle.index_model.specs.declared.unit.Unit.{Unit as UnitHeader}
use Rattle.index_model.specs.Attributes.{Reference, import_of}
use Rattle.index_model.specs.Languages.{imports_of}
use Rattle.index_model.specs.Program.{Walked, items_of}
use Rattle.index_model.specs.References.{target_of}
use Rattle.index_model.specs.Sections.{Section}
use Rattle.index_model.specs.ShardParts.{as_next, imports_in}
use Rattle.index_model.specs.Tags.{imported_unit}
use Rattle.index_model.specs.Walk.{Item}
use Rattle.shard_build.specs.Kept.{target_by, imports_by}

module _ (ss : List Section) (w : Walked) where
  abbrev u : ℕ × UnitHeader
  u = (w.number, w.unit)

  abbrev import : ℕ → Import
  import t = record { unit = w.number; target = t }

  pub same_target : (o : Option Reference) → option_and_then (target_by ss u) (option_map as_next o) ≡ option_and_then (target_of ss w) o
  unfolding target_of
  same_target None = refl
  same_target (Some r) = refl

  pub one_more : (o : Option ℕ) (more : List ℕ) → option_to_list (option_map import o) ++ map import more ≡ map import (cons_option o more)
  one_more None more = refl
  one_more (Some t) more = refl

  abbrev target : Item → Option ℕ
  target d = option_and_then (target_of ss w) (import_of d)

  by_tag : (b : Bool) (d : Item) (ds : List Item) (rest : List Import) → rest ≡ map import (filter_map target ds) → cond b (option_to_list (option_map import (option_and_then (target_by ss u) (option_map as_next (import_of d))))) [] ++ rest ≡ map import (filter_map target (cond b (d ∷ ds) ds))
  by_tag true d ds rest h =
      ap (λ (o : Option ℕ). option_to_list (option_map import o) ++ rest) (same_target (import_of d)) ∙
      ap (λ (is : List Import). option_to_list (option_map import (target d)) ++ is) h ∙
      one_more (target d) (filter_map target ds)
  by_tag false d ds rest h = h

  imports_from : (ds : List Item) → flat_map (imports_by ss u) ds ≡ map import (filter_map target (filter (λ d. eqb d.tag imported_unit) ds))
  imports_from [] = refl
  imports_from (d ∷ ds) = by_tag (eqb d.tag imported_unit) d (filter (λ d. eqb d.tag imported_unit) ds) (flat_map (imports_by ss u) ds) (imports_from ds)

  -- the imports of all entries are those of the unit
  pub all_imports : flat_map (imports_by ss u) (items_of w) ≡ imports_in ss w
  unfolding imports_of
  all_imports = imports_from (items_of w)
