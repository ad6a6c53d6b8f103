-- The languages of the units that import others, gathered import by import.
use Rattle.std.proofs.Common.{◌≡◌, ℕ, ◌-◌, Bool, true, false, cond, List, [], ◌∷◌, length, drop, map, Option, Some, None, leb, refl, sym, ap, ◌∙◌}
use Rattle.std.specs.Prelude.{nat_eq, is_none, ◌&&◌, ◌||◌, slice_get, option_and_then}
use Rattle.std.specs.Arc.{arc_value}
use Rattle.std.specs.List.{list_any}
use Rattle.std.specs.Option.{option_or}
use Rattle.std.specs.declared.sync.Arc.{Arc}
use Rattle.std.proofs.lemmas.List.Folds.{list_any_at}
use Rattle.std.proofs.lemmas.Option.{get_or_from_slice_get, slice_get_within}
use Rattle.indexmap.specs.IndexMap.{IndexMap, get}
use Rattle.index_model.specs.declared.shard.Root.{Root}
use Rattle.index_model.specs.declared.shard.Shard.{Shard}
use Rattle.index_model.specs.ShardLanguages.{first_some, importing_in, language_by_root, node_in, root_in}
use Rattle.index_model.proofs.FirstSome.{drop_all, first_map}
use Rattle.parent_resolve.specs.Importers.{any_takes, takes_importers_language, Adds, HasImporters}

or_none : {A : Type 0} (o : Option A) → option_or o None ≡ o
or_none None = refl
or_none (Some x) = refl

-- ---- gathering

module _ {S X : Type 0} (f : ℕ → X → Option ℕ) (old : IndexMap ℕ ℕ S) (xs : List X) where
  -- what the map has and what is left gives come to what it had and all give
  abbrev pub IsLeft : IndexMap ℕ ℕ S → List X → Type 0
  IsLeft now rest = (o : ℕ) → option_or (get nat_eq now o) (first_some (f o) rest) ≡ option_or (get nat_eq old o) (first_some (f o) xs)

  -- none is left
  pub none_less : (now : IndexMap ℕ ℕ S) (i : ℕ) → i ≡ length xs → IsLeft now (drop i xs) → Adds (λ o. first_some (f o) xs) old now
  none_less now i end left o = sym (or_none (get nat_eq now o)) ∙ ap (option_or (get nat_eq now o)) (sym (drop_all (f o) xs i end)) ∙ left o

-- what shared shards give a map that had nothing
pub all_gathered : {S Z : Type 0} (shards : List (Arc Shard Z)) (m new : IndexMap ℕ ℕ S) → ((o : ℕ) → get nat_eq m o ≡ None) → Adds (λ o. first_some (λ s. importing_in o (arc_value s)) shards) m new → HasImporters (map arc_value shards) new
all_gathered shards m new none added o =
    added o ∙ ap (λ (h : Option ℕ). option_or h (first_some (λ s. importing_in o (arc_value s)) shards)) (none o)
    ∙ sym (first_map (importing_in o) arc_value shards)

-- ---- asking

-- what is true of some value is so of some shared one
pub any_shared : {S Z : Type 0} (p : S → Bool) (shared : List (Arc S Z)) → list_any p (map arc_value shared) ≡ list_any (λ s. p (arc_value s)) shared
any_shared p [] = refl
any_shared p (x ∷ xs) = ap (λ (b : Bool). p (arc_value x) || b) (any_shared p xs)

-- a root that takes the language of an importer is one of some shard
pub some_takes : (unit : ℕ) (shards : List Shard) (root : Root) → first_some (root_in unit) shards ≡ Some root → takes_importers_language root ≡ true → any_takes shards ≡ true
some_takes unit [] root e takes = absurd cc
some_takes unit (s ∷ ss) root e takes = by (root_in unit s) refl e (λ rest. some_takes unit ss root rest takes)
  where
    here : (b : Bool) → cond b (slice_get s.roots (unit - s.first)) None ≡ Some root → list_any takes_importers_language s.roots ≡ true
    here true is = list_any_at takes_importers_language s.roots (unit - s.first) root (slice_get_within s.roots (unit - s.first) root is) (ap takes_importers_language (get_or_from_slice_get s.roots (unit - s.first) root root is) ∙ takes)
    here false is = absurd cc

    or_true : (b : Bool) → (b || true) ≡ true
    or_true true = refl
    or_true false = refl

    by : (o : Option Root) → root_in unit s ≡ o → option_or o (first_some (root_in unit) ss) ≡ Some root → (first_some (root_in unit) ss ≡ Some root → any_takes ss ≡ true) → any_takes (s ∷ ss) ≡ true
    by None none rest later = ap (λ (b : Bool). list_any takes_importers_language s.roots || b) (later rest) ∙ or_true (list_any takes_importers_language s.roots)
    by (Some r) is same later = ap (λ (b : Bool). b || any_takes ss) (here (leb s.first unit) (is ∙ same))

-- it has the language of the importer
pub taken : (shards : List Shard) (unit : ℕ) (root : Root) → takes_importers_language root ≡ true → option_and_then (λ o. first_some (importing_in o) shards) (first_some (node_in unit) shards) ≡ language_by_root shards unit root
taken shards unit root takes = by root.partial root.language takes
  where
    importing : Option ℕ
    importing = option_and_then (λ o. first_some (importing_in o) shards) (first_some (node_in unit) shards)

    by : (partial : Bool) (own : Option ℕ) → (partial && is_none own) ≡ true → importing ≡ option_or own (cond partial importing None)
    by true None e = refl
    by true (Some x) e = absurd cc
    by false own e = absurd cc
