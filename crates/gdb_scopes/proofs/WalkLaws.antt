-- Behind each of the items that were read, the places so far are those of the kept items so far.
use Rattle.std.proofs.Common.{◌≡◌, ℕ, ◌+◌, ◌<◌, ◌≤◌, Bool, true, false, cond, eqb, ◌||◌, List, [], ◌∷◌, ◌++◌, length, drop, map, filter, get_or, Option, option_map, is_some, Ok, refl, sym, ap, subst, ◌∙◌, append_assoc, append-nil, drop-cons, add-one}
use Rattle.std.specs.Prelude.{Contains}
use Rattle.std.specs.List.{AllZip}
use Rattle.std.proofs.Math.ListN.{drop_of_length-le}
use Rattle.std.proofs.lemmas.List.{map-append}
use Rattle.std.proofs.lemmas.List.Elements.{filter-append}
use Rattle.common_laws.proofs.Filters.{filter_within, map_filter, map_map}
use Rattle.index_model.specs.Attributes.{is_declaration}
use Rattle.index_model.specs.Faults.{program_of}
use Rattle.index_model.specs.Program.{Program, Walked, Located, items_of}
use Rattle.index_model.specs.Sections.{Section}
use Rattle.index_model.specs.Tags.{namespace}
use Rattle.index_model.specs.Walk.{Item}
use Rattle.index_model.proofs.UnitsApart.{program_apart}
use Rattle.gdb_entries.specs.declared.language.LanguageClass.{LanguageClass}
use Rattle.gdb_entries.specs.declared.item.ItemFacts.{ItemFacts}
use Rattle.gdb_entries.specs.Chains.{facts_of, first_name, name_of, namespace_name}
use Rattle.gdb_entries.specs.Kinds.{kinds_of}
use Rattle.gdb_entries.specs.Scopes.{open_around}
use Rattle.gdb_items.specs.declared.item.UnitItem.{UnitItem}
use Rattle.gdb_items.specs.declared.which.Which.{Which}
use Rattle.gdb_items.specs.declared.which.Which.TheVariants.{Listed, All}
use Rattle.gdb_items.specs.Items.{keeps, kept_of, IsItemOf}
use Rattle.gdb_reach.specs.declared.state.Look.{Look}
use Rattle.gdb_reach.specs.declared.state.Reached.{Reached}
use Rattle.gdb_reach.specs.Runs.{KeepsParents}
use Rattle.gdb_reach.specs.Standing.{StandsFor, ComesBehind, IsOfAFile, IsTold, in_unit, look_of}
use Rattle.gdb_scopes.specs.declared.place.Place.{Place}
use Rattle.gdb_scopes.specs.Places.{offset_of, place_of, unit_read}

-- ---- one item

abbrev made : ℕ → Look → Option ℕ → Place
made offset look open_item = record { offset = offset; is_seen = look.is_seen; around = look.around; open_around = open_item }

-- what the walk says of an item is its place
pub placed_so : (p : Program) (class : LanguageClass) (w : Walked) (d : Item) (offset : ℕ) (look : Look) (open_item : Option ℕ) → offset ≡ d.at → look ≡ look_of (unit_read p class w) d →
    open_item ≡ option_map offset_of (open_around p (in_unit w d)) → made offset look open_item ≡ place_of p class (in_unit w d)
placed_so p class w d offset look open_item at seen around =
    ap (λ (o : ℕ). made o look open_item) at ∙ ap (λ (l : Look). made d.at l open_item) seen ∙ ap (λ (o : Option ℕ). made d.at (look_of (unit_read p class w) d) o) around

-- what is told of it
pub told_so : (ss : List Section) (w : Walked) (d : Item) (i : UnitItem) → IsItemOf ss i (in_unit w d) → IsTold d i.depth i.facts
told_so ss w d i h = record { depth = h.depth; facts = h.facts }

-- whether it has children, and its tag
pub told_children : (ss : List Section) (d : Located) (i : UnitItem) → IsItemOf ss i d → i.facts.children ≡ d.item.children
unfolding facts_of
told_children ss d i h = ap (λ (x : ItemFacts). x.children) h.facts

pub told_tag : (ss : List Section) (d : Located) (i : UnitItem) → IsItemOf ss i d → i.facts.tag ≡ d.item.tag
unfolding facts_of
told_tag ss d i h = ap (λ (x : ItemFacts). x.tag) h.facts

-- its name, by the first one on its chain
pub name_told : (p : Program) (class : LanguageClass) (d : Located) (tag : ℕ) (found : Option (List ℕ)) → tag ≡ d.item.tag → found ≡ first_name p d → cond (eqb tag namespace) (namespace_name class found) found ≡ name_of p class d
unfolding name_of
name_told p class d tag found at is =
    ap (λ (n : Option (List ℕ)). cond (eqb tag namespace) (namespace_name class n) n) is ∙
    ap (λ (t : ℕ). cond (eqb t namespace) (namespace_name class (first_name p d)) (first_name p d)) at

-- ---- what is kept has all parents

any_of : (a c e : Bool) → (a || true || c || e) ≡ true
any_of true c e = refl
any_of false c e = refl

pub keeps_parents : (which : Which) → KeepsParents (keeps which)
keeps_parents Listed d on = ap (λ (b : Bool). eqb d.depth 0 || b || is_some (kinds_of d.tag) || is_declaration d) on ∙ any_of (eqb d.depth 0) (is_some (kinds_of d.tag)) (is_declaration d)
keeps_parents All d on = refl

-- a unit of a program is one of a file
pub of_a_file : (f : List ℕ) (p : Program) → program_of f ≡ Ok p → (w : Walked) → Contains p.walks w → IsOfAFile w
of_a_file f p is w wc = let a = (program_apart f p is).walks w wc in record { sections = p.sections; place = a.0; walk = a.1 }

-- ---- the first of the kept items

-- it, and what stands before and behind it
pub record FirstKept (ss : List Section) (w : Walked) (keep : Item → Bool) (ds : List Item) (t : UnitItem) (ts : List UnitItem) : Type 0 where
  pub skipped : List Item
  pub item : Item
  pub later : List Item
  pub whole : skipped ++ item ∷ later ≡ ds
  pub none : filter keep skipped ≡ []
  pub kept : keep item ≡ true
  pub told : IsItemOf ss t (in_unit w item)
  pub others : AllZip (IsItemOf ss) ts (map (in_unit w) (filter keep later))

pub first_kept : (ss : List Section) (w : Walked) (keep : Item → Bool) (ds : List Item) (t : UnitItem) (ts : List UnitItem) → AllZip (IsItemOf ss) (t ∷ ts) (map (in_unit w) (filter keep ds)) → FirstKept ss w keep ds t ts
first_kept ss w keep [] t ts h = absurd h
first_kept ss w keep (x ∷ xs) t ts h =
    elim (keep x) as (λ b. keep x ≡ b → AllZip (IsItemOf ss) (t ∷ ts) (map (in_unit w) (cond b (x ∷ filter keep xs) (filter keep xs))) → FirstKept ss w keep (x ∷ xs) t ts) [
      | true ↦ λ on told. record { skipped = []; item = x; later = xs; whole = refl; none = refl; kept = on; told = told.0; others = told.1 }
      | false ↦ λ off told.
          let f = first_kept ss w keep xs t ts told in
          record {
            skipped = x ∷ f.skipped;
            item = f.item;
            later = f.later;
            whole = ap (λ (ys : List Item). x ∷ ys) f.whole;
            none = ap (λ (b : Bool). cond b (x ∷ filter keep f.skipped) (filter keep f.skipped)) off ∙ f.none;
            kept = f.kept;
            told = f.told;
            others = f.others;
          }
    ] refl h

-- where nothing is left to be told no item is kept
none_left : (ss : List Section) (w : Walked) (ds : List Item) → AllZip (IsItemOf ss) [] (map (in_unit w) ds) → ds ≡ []
none_left ss w [] h = refl
none_left ss w (d ∷ ds) h = absurd h

-- ---- the loop

-- some items of the unit are behind, and of the rest the kept ones are still to come
pub record Goes (p : Program) (class : LanguageClass) (w : Walked) (which : Which) (state : Reached) (found : List Place) (left : List UnitItem) : Type 0 where
  pub before : List Item
  pub rest : List Item
  pub whole : before ++ rest ≡ items_of w
  pub stands : StandsFor (unit_read p class w) (filter (keeps which) before) state
  pub told : AllZip (IsItemOf p.sections) left (map (in_unit w) (filter (keeps which) rest))
  pub places : found ≡ map (λ d. place_of p class (in_unit w d)) (filter (keeps which) before)

module _ (p : Program) (class : LanguageClass) (w : Walked) (which : Which) where
  abbrev keep : Item → Bool
  keep d = keeps which d

  abbrev place : Item → Place
  place d = place_of p class (in_unit w d)

  -- the kept items with their unit
  kept_there : map (in_unit w) (filter keep (items_of w)) ≡ kept_of which w
  kept_there = map_filter (in_unit w) (λ (d : Located). keeps which d.item) (items_of w)

  pub begins : (state : Reached) (found : List Place) (told : List UnitItem) → StandsFor (unit_read p class w) [] state → found ≡ [] → AllZip (IsItemOf p.sections) told (kept_of which w) → Goes p class w which state found told
  begins state found told stands none h = record {
    before = [];
    rest = items_of w;
    whole = refl;
    stands = stands;
    told = subst (λ (ds : List Located). AllZip (IsItemOf p.sections) told ds) (sym kept_there) h;
    places = none;
  }

  all_told : (state : Reached) (found : List Place) → Goes p class w which state found [] → found ≡ map (place_of p class) (kept_of which w)
  all_told state found g =
      let none = none_left p.sections w (filter keep g.rest) g.told in
      let all : filter keep g.before ≡ filter keep (items_of w) =
      sym (append-nil (filter keep g.before)) ∙ ap (λ (ys : List Item). filter keep g.before ++ ys) (sym none) ∙
      sym (filter-append keep g.before g.rest) ∙ ap (filter keep) g.whole in
      g.places ∙ ap (map place) all ∙ sym (map_map (in_unit w) (place_of p class) (filter keep (items_of w))) ∙ ap (map (place_of p class)) kept_there

  -- behind the last of them
  pub ends : (state : Reached) (found : List Place) (told : List UnitItem) (i : ℕ) → length told ≤ i → Goes p class w which state found (drop i told) → found ≡ map (place_of p class) (kept_of which w)
  ends state found told i le g = all_told state found (subst (Goes p class w which state found) (drop_of_length-le told le) g)

  module _ (old : Reached) (found : List Place) (t : UnitItem) (ts : List UnitItem) (g : Goes p class w which old found (t ∷ ts)) where
    pub first : FirstKept p.sections w keep g.rest t ts
    first = first_kept p.sections w keep g.rest t ts g.told

    abbrev behind : List Item
    behind = g.before ++ first.skipped

    kept_behind : filter keep behind ≡ filter keep g.before
    kept_behind = filter-append keep g.before first.skipped ∙ ap (λ (ys : List Item). filter keep g.before ++ ys) first.none ∙ append-nil (filter keep g.before)

    whole : behind ++ first.item ∷ first.later ≡ items_of w
    whole = append_assoc g.before first.skipped (first.item ∷ first.later) ∙ ap (λ (ys : List Item). g.before ++ ys) first.whole ∙ g.whole

    -- the next item that is told comes behind the kept ones
    pub comes : IsOfAFile w → ComesBehind w (filter keep g.before) first.item
    comes file = record {
      file = file;
      before = behind;
      rest = first.later;
      whole = whole;
      parents = ap (filter (λ e. e.children)) (sym kept_behind) ∙ filter_within keep (λ e. e.children) behind (λ e c on. keeps_parents which e on);
    }

    kept_with : filter keep (behind ++ first.item ∷ []) ≡ filter keep g.before ++ first.item ∷ []
    kept_with =
        filter-append keep behind (first.item ∷ []) ∙ ap (λ (ys : List Item). ys ++ filter keep (first.item ∷ [])) kept_behind ∙
        ap (λ (b : Bool). filter keep g.before ++ cond b (first.item ∷ []) []) first.kept

    -- behind it
    pub goes_on : (new : Reached) (one : Place) → StandsFor (unit_read p class w) (filter keep g.before ++ first.item ∷ []) new → one ≡ place first.item → Goes p class w which new (found ++ one ∷ []) ts
    goes_on new one stands is = record {
      before = behind ++ first.item ∷ [];
      rest = first.later;
      whole = append_assoc behind (first.item ∷ []) first.later ∙ whole;
      stands = subst (λ (xs : List Item). StandsFor (unit_read p class w) xs new) (sym kept_with) stands;
      told = first.others;
      places = ap (λ (ys : List Place). ys ++ one ∷ []) g.places ∙ ap (λ (a : Place). map place (filter keep g.before) ++ a ∷ []) is ∙
          sym (map-append place (filter keep g.before) (first.item ∷ [])) ∙ ap (map place) (sym kept_with);
    }

  -- one of them more
  pub one_told : IsOfAFile w → (old : Reached) (found : List Place) (told : List UnitItem) (i : ℕ) (t : UnitItem) → i < length told → Goes p class w which old found (drop i told) →
      (new : Reached) (one : Place) (more : List Place) →
      ((passed : List Item) (d : Item) → StandsFor (unit_read p class w) passed old → ComesBehind w passed d → IsItemOf p.sections (get_or told i t) (in_unit w d) → one ≡ place d) →
      ((passed : List Item) (d : Item) → StandsFor (unit_read p class w) passed old → ComesBehind w passed d → IsItemOf p.sections (get_or told i t) (in_unit w d) → StandsFor (unit_read p class w) (passed ++ d ∷ []) new) →
      more ≡ found ++ one ∷ [] → Goes p class w which new more (drop (i + 1) told)
  one_told file old found told i t lt goes new one more is stands push =
      let x : UnitItem = get_or told i t in
      let ts : List UnitItem = drop (i + 1) told in
      let next : drop i told ≡ x ∷ ts = rw add-one (drop-cons told i t lt) in
      let g : Goes p class w which old found (x ∷ ts) = subst (Goes p class w which old found) next goes in
      let d : Item = (first old found x ts g).item in
      let passed : List Item = filter keep g.before in
      let c : ComesBehind w passed d = comes old found x ts g file in
      let toldx : IsItemOf p.sections x (in_unit w d) = (first old found x ts g).told in
      subst (λ (ys : List Place). Goes p class w which new ys ts) (sym push) (goes_on old found x ts g new one (stands passed d g.stands c toldx) (is passed d g.stands c toldx))
