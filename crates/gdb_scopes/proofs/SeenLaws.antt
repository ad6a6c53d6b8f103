-- The items that are seen, by their places.
use Rattle.std.proofs.Common.{◌≡◌, ℕ, ◌+◌, ◌<◌, ◌≤◌, Bool, true, false, cond, eqb, ◌&&◌, ◌||◌, not, List, [], ◌∷◌, ◌++◌, length, drop, get_or, map, filter, is_some, Option, Some, None, refl, sym, ap, subst, ◌∙◌, append_assoc, append-nil, drop-cons, add-one, arith, inl, inr, ⊎_elim}
use Rattle.std.specs.Prelude.{min}
use Rattle.std.proofs.lemmas.Bool.{cases_lt}
use Rattle.std.specs.List.{AllZip}
use mathlib.Core.Logic.{◌⊎◌}
use Rattle.std.proofs.Math.ListN.{drop_of_length-le}
use Rattle.std.proofs.lemmas.List.Elements.{filter-append}
use Rattle.common_laws.proofs.Booleans.{both_on}
use Rattle.common_laws.proofs.Filters.{filter_within}
use Rattle.common_laws.proofs.Lists.{all_zip_append}
use Rattle.index_model.specs.Attributes.{is_declaration}
use Rattle.index_model.specs.Program.{Program, Walked, Located, located}
use Rattle.gdb_entries.specs.declared.language.LanguageClass.{LanguageClass}
use Rattle.gdb_entries.specs.declared.item.ItemFacts.{ItemFacts}
use Rattle.gdb_entries.specs.Chains.{facts_of}
use Rattle.gdb_entries.specs.Kinds.{kinds_of}
use Rattle.gdb_entries.specs.Reached.{Reach, tag_of, is_seen, is_seen_from, reach_of}
use Rattle.gdb_entries.specs.Rules.{counts, is_allowed_in, is_declared, is_declared_scope, may_be_nameless}
use Rattle.gdb_items.specs.declared.item.UnitItem.{UnitItem}
use Rattle.gdb_items.specs.declared.which.Which.{Which}
use Rattle.gdb_items.specs.declared.which.Which.TheVariants.{Listed, All}
use Rattle.gdb_items.specs.Items.{keeps, kept_of, IsItemOf}
use Rattle.gdb_scopes.specs.declared.place.Place.{Place}
use Rattle.gdb_scopes.specs.declared.seen.SeenItem.{SeenItem}
use Rattle.gdb_scopes.specs.Places.{place_of, IsSeenIn}

-- ---- what is seen is kept

middle_on : (a b e : Bool) → (a && b && e) ≡ true → b ≡ true
middle_on true true e h = refl
middle_on true false e h = absurd (cc)
middle_on false b e h = absurd (cc)

any_of : (a b e : Bool) → (a || b || true || e) ≡ true
any_of true b e = refl
any_of false true e = refl
any_of false false e = refl

-- what counts has a tag that is listed
listed_tag : (d : ItemFacts) → counts d ≡ true → is_some (kinds_of d.tag) ≡ true
listed_tag d h = middle_on (d.named || may_be_nameless d.tag) (is_some (kinds_of d.tag)) (not (is_declared d) || is_declared_scope d) h

seen_counts : (r : Option Reach) (d : Located) → is_seen_from r d ≡ true → counts (facts_of d.item) ≡ true
seen_counts None d h = absurd (cc)
seen_counts (Some r) d h = (both_on (is_allowed_in (tag_of r.around) d.item.tag) (counts (facts_of d.item)) h).1

kept_listed : (which : Which) (d : Located) → is_some (kinds_of d.item.tag) ≡ true → keeps which d.item ≡ true
kept_listed Listed d on = ap (λ (b : Bool). eqb d.item.depth 0 || d.item.children || b || is_declaration d.item) on ∙ any_of (eqb d.item.depth 0) d.item.children (is_declaration d.item)
kept_listed All d on = refl

seen_kept : (p : Program) (class : LanguageClass) (which : Which) (d : Located) → is_seen p class d ≡ true → keeps which d.item ≡ true
unfolding is_seen facts_of
seen_kept p class which d h = kept_listed which d (listed_tag (facts_of d.item) (seen_counts (reach_of p class d) d h))

-- so those of the kept ones are those of all
pub seen_of_kept : (p : Program) (class : LanguageClass) (which : Which) (w : Walked) → filter (is_seen p class) (kept_of which w) ≡ filter (is_seen p class) (located w)
seen_of_kept p class which w = filter_within (λ (d : Located). keeps which d.item) (is_seen p class) (located w) (λ d c h. seen_kept p class which d h)

-- ---- one item after the other

-- some items are behind, and these with their places are still to come
pub record IsSeenTo (p : Program) (class : LanguageClass) (ds : List Located) (seen : List SeenItem) (items : List UnitItem) (places : List Place) : Type 0 where
  pub before : List Located
  pub rest : List Located
  pub whole : before ++ rest ≡ ds
  pub are : AllZip (IsItemOf p.sections) items rest
  pub placed : places ≡ map (place_of p class) rest
  pub taken : AllZip (IsSeenIn p (Some class)) seen (filter (is_seen p class) before)

module _ (p : Program) (class : LanguageClass) (ds : List Located) where
  pub sees_none : (seen : List SeenItem) (items : List UnitItem) (places : List Place) → seen ≡ [] → AllZip (IsItemOf p.sections) items ds → places ≡ map (place_of p class) ds → IsSeenTo p class ds seen items places
  sees_none seen items places none are placed = record {
    before = [];
    rest = ds;
    whole = refl;
    are = are;
    placed = placed;
    taken = subst (λ (is : List SeenItem). AllZip (IsSeenIn p (Some class)) is []) (sym none) tt;
  }

  -- the next of them
  pub record NextSeen (seen : List SeenItem) (i : UnitItem) (is : List UnitItem) (x : Place) (xs : List Place) : Type 0 where
    pub before : List Located
    pub item : Located
    pub rest : List Located
    pub whole : before ++ item ∷ rest ≡ ds
    pub own : IsItemOf p.sections i item
    pub place : x ≡ place_of p class item
    pub are : AllZip (IsItemOf p.sections) is rest
    pub placed : xs ≡ map (place_of p class) rest
    pub taken : AllZip (IsSeenIn p (Some class)) seen (filter (is_seen p class) before)

  next : (seen : List SeenItem) (i : UnitItem) (is : List UnitItem) (x : Place) (xs : List Place) → IsSeenTo p class ds seen (i ∷ is) (x ∷ xs) → NextSeen seen i is x xs
  next seen i is x xs s = by s.rest s.whole s.are s.placed
    where
      by : (rest : List Located) → s.before ++ rest ≡ ds → AllZip (IsItemOf p.sections) (i ∷ is) rest → x ∷ xs ≡ map (place_of p class) rest → NextSeen seen i is x xs
      by [] whole are placed = absurd are
      by (d ∷ rest) whole are placed =
          let first : x ≡ place_of p class d = cc in
          let others : xs ≡ map (place_of p class) rest = cc in
          record { before = s.before; item = d; rest = rest; whole = whole; own = are.0; place = first; are = are.1; placed = others; taken = s.taken }

  module _ (seen : List SeenItem) (i : UnitItem) (is : List UnitItem) (x : Place) (xs : List Place) (s : IsSeenTo p class ds seen (i ∷ is) (x ∷ xs)) where
    abbrev n : NextSeen seen i is x xs
    n = next seen i is x xs s

    shown : x.is_seen ≡ is_seen p class n.item
    shown = ap (λ (y : Place). y.is_seen) n.place

    with_one : (b : Bool) → x.is_seen ≡ b → filter (is_seen p class) (n.before ++ n.item ∷ []) ≡ filter (is_seen p class) n.before ++ cond b (n.item ∷ []) []
    with_one b is = filter-append (is_seen p class) n.before (n.item ∷ []) ∙ ap (λ (c : Bool). filter (is_seen p class) n.before ++ cond c (n.item ∷ []) []) (sym shown ∙ is)

    -- as it is taken
    abbrev shown_item : SeenItem
    shown_item = record { item = i; around = x.around }

    shown_is : IsSeenIn p (Some class) shown_item n.item
    shown_is = record { item = n.own; around = ap (λ (y : Place). y.around) n.place }

    pub sees_one : x.is_seen ≡ true → (more : List SeenItem) → more ≡ seen ++ (record { item = i; around = x.around }) ∷ [] → IsSeenTo p class ds more is xs
    sees_one on more push = record {
      before = n.before ++ n.item ∷ [];
      rest = n.rest;
      whole = append_assoc n.before (n.item ∷ []) n.rest ∙ n.whole;
      are = n.are;
      placed = n.placed;
      taken = subst (λ (es : List SeenItem). AllZip (IsSeenIn p (Some class)) es (filter (is_seen p class) (n.before ++ n.item ∷ []))) (sym push)
          (subst (AllZip (IsSeenIn p (Some class)) (seen ++ shown_item ∷ [])) (sym (with_one true on)) (all_zip_append (IsSeenIn p (Some class)) seen (filter (is_seen p class) n.before) (shown_item ∷ []) (n.item ∷ []) n.taken (shown_is, tt)));
    }

    pub passes_one : x.is_seen ≡ false → IsSeenTo p class ds seen is xs
    passes_one off = record {
      before = n.before ++ n.item ∷ [];
      rest = n.rest;
      whole = append_assoc n.before (n.item ∷ []) n.rest ∙ n.whole;
      are = n.are;
      placed = n.placed;
      taken = subst (AllZip (IsSeenIn p (Some class)) seen) (sym (with_one false off ∙ append-nil (filter (is_seen p class) n.before))) n.taken;
    }

  -- behind the last
  pub sees_all : (seen : List SeenItem) (items : List UnitItem) (places : List Place) → IsSeenTo p class ds seen items places → (items ≡ []) ⊎ (places ≡ []) → AllZip (IsSeenIn p (Some class)) seen (filter (is_seen p class) ds)
  sees_all seen items places s none = by s.rest s.whole s.are s.placed
    where
      by : (rest : List Located) → s.before ++ rest ≡ ds → AllZip (IsItemOf p.sections) items rest → places ≡ map (place_of p class) rest → AllZip (IsSeenIn p (Some class)) seen (filter (is_seen p class) ds)
      by [] whole are placed = subst (λ (es : List Located). AllZip (IsSeenIn p (Some class)) seen (filter (is_seen p class) es)) (sym (append-nil s.before) ∙ whole) s.taken
      by (d ∷ rest) whole are placed = ⊎_elim
          (λ (e : items ≡ []). absurd (subst (λ (is : List UnitItem). AllZip (IsItemOf p.sections) is (d ∷ rest)) e are))
          (λ (e : places ≡ []). absurd (let clash : [] ≡ map (place_of p class) (d ∷ rest) = sym e ∙ placed in cc))
          none

-- ---- the pair at a place

module _ (p : Program) (class : LanguageClass) (ds : List Located) (seen : List SeenItem) (items : List UnitItem) (places : List Place) (n : ℕ) (i : UnitItem) (x : Place) where
  abbrev later_items : List UnitItem
  later_items = drop (n + 1) items

  abbrev later_places : List Place
  later_places = drop (n + 1) places

  module _ (li : n < length items) (lx : n < length places) (is : i ≡ get_or items n i) (at : x ≡ get_or places n x) (s : IsSeenTo p class ds seen (drop n items) (drop n places)) where
    next_pair : IsSeenTo p class ds seen (i ∷ later_items) (x ∷ later_places)
    next_pair =
        let first : drop n items ≡ i ∷ later_items = (rw add-one (drop-cons items n i li)) ∙ ap (λ (y : UnitItem). y ∷ later_items) (sym is) in
        let second : drop n places ≡ x ∷ later_places = (rw add-one (drop-cons places n x lx)) ∙ ap (λ (y : Place). y ∷ later_places) (sym at) in
        subst (λ (ys : List Place). IsSeenTo p class ds seen (i ∷ later_items) ys) second (subst (λ (ys : List UnitItem). IsSeenTo p class ds seen ys (drop n places)) first s)

    -- one more, where it is seen
    pub sees_pair : (k : ℕ) → k ≡ n + 1 → x.is_seen ≡ true → (more : List SeenItem) → more ≡ seen ++ (record { item = i; around = x.around }) ∷ [] → IsSeenTo p class ds more (drop k items) (drop k places)
    sees_pair k one on more push = subst (λ (j : ℕ). IsSeenTo p class ds more (drop j items) (drop j places)) (sym one) (sees_one p class ds seen i later_items x later_places next_pair on more push)

    -- where it isn't
    pub passes_pair : (k : ℕ) → k ≡ n + 1 → x.is_seen ≡ false → IsSeenTo p class ds seen (drop k items) (drop k places)
    passes_pair k one off = subst (λ (j : ℕ). IsSeenTo p class ds seen (drop j items) (drop j places)) (sym one) (passes_one p class ds seen i later_items x later_places next_pair off)

-- behind as many as the shorter list has
pub sees_whole : (p : Program) (class : LanguageClass) (ds : List Located) (seen : List SeenItem) (items : List UnitItem) (places : List Place) (n : ℕ) → n ≡ min (length items) (length places) → IsSeenTo p class ds seen (drop n items) (drop n places) → AllZip (IsSeenIn p (Some class)) seen (filter (is_seen p class) ds)
sees_whole p class ds seen items places n all s = sees_all p class ds seen (drop n items) (drop n places) s (⊎_elim
    (λ (gt : length places < length items). inr (drop_of_length-le places (omega (arith, gt, all))))
    (λ (le : length items ≤ length places). inl (drop_of_length-le items (omega (arith, le, all))))
    (cases_lt (length places) (length items)))
