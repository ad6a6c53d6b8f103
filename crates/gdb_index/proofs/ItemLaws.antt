-- The entries of an item, by what they have in common.
use Rattle.std.proofs.Common.{◌≡◌, ℕ, Bool, List, [], ◌∷◌, ◌++◌, map, flat_map, Option, Some, None, refl, sym, ap, ◌∙◌}
use Rattle.std.proofs.lemmas.List.{map-append}
use Rattle.common_laws.proofs.Filters.{map_map}
use Rattle.index_model.specs.declared.entry.Entry.{Entry}
use Rattle.index_model.specs.Program.{Program, Walked, Located}
use Rattle.gdb_entries.specs.declared.kinds.Kinds.{Kinds}
use Rattle.gdb_entries.specs.declared.language.LanguageClass.{LanguageClass}
use Rattle.gdb_entries.specs.Entries.{as_listed, entries_of_item, entry_as, is_item_static, names_of}
use Rattle.gdb_entries.specs.Kinds.{kinds_in, kinds_of}
use Rattle.gdb_index.specs.declared.entries.ItemEntries.{ItemEntries}
use Rattle.gdb_index.specs.Items.{entries_under, listed_of_item}

abbrev Named : Type 0
Named = Bool × List ℕ

abbrev common_by : ℕ → ℕ → ℕ → Bool → Kinds → ItemEntries
common_by unit offset tag local kinds = record { unit = unit; offset = offset; tag = tag; local = local; kinds = kinds }

module _ (p : Program) (owner : Walked) (class : LanguageClass) (d : Located) where
  -- what the entries have in common
  abbrev pub common_of : Kinds → ItemEntries
  common_of kinds = common_by owner.number d.item.at d.item.tag (is_item_static p class d) kinds

  -- it is told so
  pub common_told : (kinds : Kinds) (unit offset tag : ℕ) (local : Bool) → unit ≡ owner.number → offset ≡ d.item.at → tag ≡ d.item.tag → local ≡ is_item_static p class d → common_by unit offset tag local kinds ≡ common_of kinds
  common_told kinds unit offset tag local is_unit is_offset is_tag is_local =
      ap (λ (n : ℕ). common_by n offset tag local kinds) is_unit
      ∙ ap (λ (n : ℕ). common_by owner.number n tag local kinds) is_offset
      ∙ ap (λ (n : ℕ). common_by owner.number d.item.at n local kinds) is_tag
      ∙ ap (λ (b : Bool). common_by owner.number d.item.at d.item.tag b kinds) is_local

  abbrev defined : Option Kinds → Named → List Entry
  defined kinds n = map (entry_as owner d (is_item_static p class d) n.0 n.1) (kinds_in kinds)

  none_of_any : (ns : List Named) → flat_map (defined None) ns ≡ []
  none_of_any [] = refl
  none_of_any (n ∷ ns) = none_of_any ns

  -- a tag without kinds has none
  pub none_listed : kinds_of d.item.tag ≡ None → listed_of_item p owner class d ≡ []
  unfolding entries_of_item
  none_listed none = ap (λ (ks : Option Kinds). map as_listed (flat_map (defined ks) (names_of p class d))) none ∙ ap (map as_listed) (none_of_any (names_of p class d))

  under_each : (kinds : Kinds) (ns : List Named) → flat_map (entries_under (common_of kinds)) (map (λ (n : Named). n.1) ns) ≡ map as_listed (flat_map (defined (Some kinds)) ns)
  under_each kinds [] = refl
  under_each kinds (n ∷ ns) =
      let rest = flat_map (defined (Some kinds)) ns in
      ap (λ (es : List Entry). entries_under (common_of kinds) n.1 ++ es) (under_each kinds ns)
      ∙ ap (λ (es : List Entry). es ++ map as_listed rest) (sym (map_map (entry_as owner d (is_item_static p class d) n.0 n.1) as_listed (kinds_in (Some kinds))))
      ∙ sym (map-append as_listed (defined (Some kinds) n) rest)

  -- else each name has one under each kind
  pub all_listed : (kinds : Kinds) → kinds_of d.item.tag ≡ Some kinds → flat_map (entries_under (common_of kinds)) (map (λ (n : Named). n.1) (names_of p class d)) ≡ listed_of_item p owner class d
  unfolding entries_of_item
  all_listed kinds some = under_each kinds (names_of p class d) ∙ ap (λ (ks : Option Kinds). map as_listed (flat_map (defined ks) (names_of p class d))) (sym some)
