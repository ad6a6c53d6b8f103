-- The places of a unit by their offsets.
use Rattle.std.proofs.Common.{◌≡◌, ℕ, ◌<◌, ◌≤◌, zero, suc, Bool, true, false, cond, eqb, List, [], ◌∷◌, length, get_or, map, Option, Some, None, Ok, refl, sym, ap, subst, ◌∙◌, arith, ⊎_elim}
use Rattle.std.specs.Prelude.{Contains, find, slice_get, option_and_then}
use Rattle.std.specs.Bool.{then_some}
use Rattle.std.specs.List.Sorted.{IsNonDecreasingBy}
use Rattle.std.proofs.lemmas.Bool.{eqb-true, eq-eqb, ne_eqb, cases_eq, cases_lt}
use Rattle.std.proofs.lemmas.Option.{same_Some}
use Rattle.common_laws.proofs.Members.{of_map, to_map, of_filter, to_filter, of_find, to_flat_map}
use Rattle.index_model.specs.Faults.{program_of}
use Rattle.index_model.specs.Program.{Walked, Program, Located, items_of, located, item_with_offset}
use Rattle.index_model.proofs.Located.{Before, at_home, items_rise}
use Rattle.index_model.proofs.OrderLaws.{walk_rises}
use Rattle.index_model.proofs.Pairs.{Pairs, all_pairs, pairs_filter, pairs_map}
use Rattle.index_model.proofs.UnitsApart.{program_apart}
use Rattle.shard_build.proofs.OnePlace.{find_none, is_at, home_of}
use Rattle.gdb_entries.specs.declared.language.LanguageClass.{LanguageClass}
use Rattle.gdb_items.specs.declared.which.Which.{Which}
use Rattle.gdb_items.specs.Items.{keeps, kept_of}
use Rattle.gdb_scopes.specs.declared.place.Place.{Place}
use Rattle.gdb_scopes.specs.Places.{place_of}

-- ---- the place where those begin that aren't before an offset

pub then_place : (b : Bool) (x : Place) → then_some b x ≡ cond b (Some x) None
then_place true x = refl
then_place false x = refl

module _ (o : ℕ) where
  abbrev pub stands : Place → Bool
  stands x = eqb x.offset o

  none_later : (xs : List Place) → ((k : ℕ) (d : Place) → k < length xs → o < (get_or xs k d).offset) → find stands xs ≡ None
  none_later [] larger = refl
  none_later (x ∷ xs) larger =
      let lt = larger 0 x (omega arith) in
      ap (λ (b : Bool). cond b (Some x) (find stands xs)) (ne_eqb x.offset o (λ e. omega (arith, e, lt))) ∙ none_later xs (λ k d l. larger (suc k) d (omega (arith, l)))

  abbrev pub if_there : Place → Option Place
  if_there x = cond (stands x) (Some x) None

  -- the place at the offset stands there
  pub at_point : (xs : List Place) (n : ℕ) → IsNonDecreasingBy (λ x. x.offset) xs → ((k : ℕ) (d : Place) → k < n → (get_or xs k d).offset < o) → ((k : ℕ) (d : Place) → n ≤ k → k < length xs → o ≤ (get_or xs k d).offset) → find (λ x. eqb x.offset o) xs ≡ option_and_then if_there (slice_get xs n)
  at_point [] n rise smaller larger = refl
  at_point (x ∷ xs) zero rise smaller larger = ⊎_elim
      (λ (same : x.offset ≡ o). rw (eq-eqb x.offset o same) refl)
      (λ (other : x.offset ≡ o → ⊥).
      let least = larger 0 x (omega arith) (omega arith) in
      let none : find stands xs ≡ None = none_later xs (λ k d l. let up = rise 0 (suc k) d (omega arith) (omega (arith, l)) in omega (arith, least, other, up)) in
      rw (ne_eqb x.offset o other) none)
      (cases_eq x.offset o)
  at_point (x ∷ xs) (suc n) rise smaller larger =
      let lt = smaller 0 x (omega arith) in
      ap (λ (b : Bool). cond b (Some x) (find stands xs)) (ne_eqb x.offset o (λ e. omega (arith, e, lt))) ∙
      at_point xs n (λ j k d le l. rise (suc j) (suc k) d (omega (arith, le)) (omega (arith, l))) (λ k d l. smaller (suc k) d (omega (arith, l))) (λ k d le l. larger (suc k) d (omega (arith, le)) (omega (arith, l)))

-- ---- the places of a unit

abbrev Earlier : Place → Place → Type 0
Earlier x y = x.offset < y.offset

module _ (f : List ℕ) (p : Program) (is : program_of f ≡ Ok p) (w : Walked) (wc : Contains p.walks w) (class : LanguageClass) (which : Which) where
  abbrev place : Located → Place
  place d = place_of p class d

  abbrev keeps_there : Located → Bool
  keeps_there d = keeps which d.item

  in_order : Pairs Earlier (map place (kept_of which w))
  in_order =
      let a = (program_apart f p is).walks w wc in
      let r = walk_rises p.sections a.0 w a.1 in
      let all = pairs_map Before (at_home w) (items_of w) (items_rise r.0 (items_of w) r.1) in
      pairs_map Earlier place (kept_of which w) (pairs_filter Before keeps_there (located w) all)

  module _ (places : List Place) (are : places ≡ map (place_of p class) (kept_of which w)) where
    -- their offsets rise
    pub places_rise : IsNonDecreasingBy (λ x. x.offset) places
    places_rise i j d le within =
        let pairs = subst (Pairs Earlier) (sym are) in_order in
        ⊎_elim
        (λ (lt : i < j). let before = all_pairs Earlier places pairs i j d lt within in omega (arith, before))
        (λ (ge : j ≤ i). let same : i ≡ j = omega (arith, le, ge) in subst (λ (k : ℕ). (get_or places i d).offset ≤ (get_or places k d).offset) same (omega arith))
        (cases_lt i j)

    module _ (o : ℕ) (d : Located) (here : item_with_offset p o ≡ Some d) where
      -- one with the offset is the place of the file's item there
      pub found_place : (x : Place) → find (stands o) places ≡ Some x → x ≡ place_of p class d
      found_place x found =
          let m = of_find (stands o) places x found in
          let e = of_map place (kept_of which w) x (subst (λ (xs : List Place). Contains xs x) are m.0) in
          let own = (of_filter keeps_there (located w) e.0 e.1).0 in
          let at : e.0.item.at ≡ o = ap (λ (y : Place). y.offset) e.2 ∙ eqb-true x.offset o m.1 in
          let same : e.0 ≡ d = same_Some e.0 d (sym (is_at f p is o e.0 (to_flat_map located p.walks w e.0 wc own) at) ∙ here) in
          sym e.2 ∙ ap place same

      -- where all items of its unit have places it is among them
      pub some_place : ((e : Located) → keeps which e.item ≡ true) → d.home ≡ w → find (stands o) places ≡ Some (place_of p class d)
      some_place all home = by (find (stands o) places) refl
        where
          by : (q : Option Place) → find (stands o) places ≡ q → find (stands o) places ≡ Some (place_of p class d)
          by (Some x) e = e ∙ ap (λ (y : Place). Some y) (found_place x e)
          by None e =
              let h = home_of f p is o d here in
              let own = to_map (at_home d.home) (items_of d.home) d.item h.1 in
              let kept = to_filter keeps_there (located w) d (subst (λ (v : Walked). Contains (located v) d) home own) (all d) in
              let there = subst (λ (xs : List Place). Contains xs (place d)) (sym are) (to_map place (kept_of which w) d kept) in
              absurd (find_none (stands o) places e (place d) there (eq-eqb d.item.at o h.2))
