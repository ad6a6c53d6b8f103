-- The items of a unit by their offsets.
use Rattle.std.proofs.Common.{◌≡◌, ℕ, zero, suc, ◌<◌, ◌≤◌, Bool, true, false, cond, eqb, List, [], ◌∷◌, length, get_or, Option, Some, None, Ok, refl, sym, ap, subst, ◌∙◌, arith, ⊎_elim}
use Rattle.std.specs.Prelude.{Contains, find, slice_get, option_and_then}
use Rattle.std.specs.Bool.{then_some}
use Rattle.std.specs.List.{AllZip}
use Rattle.std.specs.List.Sorted.{IsNonDecreasingBy}
use Rattle.std.proofs.lemmas.Bool.{eqb-true, eq-eqb, ne_eqb, cases_eq, cases_lt}
use Rattle.std.proofs.lemmas.Option.{same_Some}
use Rattle.common_laws.proofs.Members.{contains_here, contains_later, contains_cases, to_map, of_filter, to_filter, of_find, to_flat_map}
use Rattle.index_model.specs.Faults.{program_of}
use Rattle.index_model.specs.Program.{Walked, Program, Located, items_of, located, item_with_offset}
use Rattle.index_model.specs.Sections.{Section}
use Rattle.index_model.proofs.Located.{Before, at_home, items_rise}
use Rattle.index_model.proofs.OrderLaws.{walk_rises}
use Rattle.index_model.proofs.Pairs.{Pairs, all_pairs, pairs_filter, pairs_map}
use Rattle.index_model.proofs.UnitsApart.{program_apart}
use Rattle.shard_build.specs.Found.{IsUnitAt}
use Rattle.shard_build.proofs.OnePlace.{find_none, is_at, home_of}
use Rattle.gdb_items.specs.declared.item.UnitItem.{UnitItem}
use Rattle.gdb_items.specs.declared.which.Which.{Which}
use Rattle.gdb_items.specs.Items.{keeps, kept_of, AreItemsOf, IsItemOf}
use Rattle.gdb_items.specs.Files.{IsItemIn}

-- ---- two lists, member by member

module _ {A B : Type 0} (R : A → B → Type 0) where
  right_of : (xs : List A) (ys : List B) → AllZip R xs ys → (x : A) → Contains xs x → (y : B) × Contains ys y × R x y
  right_of [] ys z x c = absurd (omega (arith, c.1))
  right_of (x ∷ xs) [] z v c = absurd z
  right_of (x ∷ xs) (y ∷ ys) z v c = ⊎_elim
      (λ (same : x ≡ v). (y, contains_here y ys, subst (λ (u : A). R u y) same z.0))
      (λ (later : Contains xs v). let r = right_of xs ys z.1 v later in (r.0, contains_later y ys r.0 r.1, r.2))
      (contains_cases x xs v c)

  left_of : (xs : List A) (ys : List B) → AllZip R xs ys → (y : B) → Contains ys y → (x : A) × Contains xs x × R x y
  left_of xs [] z y c = absurd (omega (arith, c.1))
  left_of [] (y ∷ ys) z v c = absurd z
  left_of (x ∷ xs) (y ∷ ys) z v c = ⊎_elim
      (λ (same : y ≡ v). (x, contains_here x xs, subst (R x) same z.0))
      (λ (later : Contains ys v). let r = left_of xs ys z.1 v later in (r.0, contains_later x xs r.0 r.1, r.2))
      (contains_cases y ys v c)

-- ---- offsets that rise

abbrev Earlier : UnitItem → UnitItem → Type 0
Earlier i j = i.offset < j.offset

earlier : (ss : List Section) (is : List UnitItem) (ds : List Located) → AllZip (IsItemOf ss) is ds → Pairs Before ds → Pairs Earlier is
earlier ss [] ds z h = tt
earlier ss (i ∷ is) [] z h = absurd z
earlier ss (i ∷ is) (d ∷ ds) z h = (
  λ j c. let r = right_of (IsItemOf ss) is ds z.1 j c in let lt = h.0 r.0 r.1 in omega (arith, lt, z.0.offset, r.2.offset),
  earlier ss is ds z.1 h.1,
)

pub then_item : (b : Bool) (i : UnitItem) → then_some b i ≡ cond b (Some i) None
then_item true i = refl
then_item false i = refl

module _ (o : ℕ) where
  abbrev pub stands : UnitItem → Bool
  stands i = eqb i.offset o

  none_later : (is : List UnitItem) → ((k : ℕ) (d : UnitItem) → k < length is → o < (get_or is k d).offset) → find stands is ≡ None
  none_later [] larger = refl
  none_later (i ∷ is) larger =
      let lt = larger 0 i (omega arith) in
      ap (λ (b : Bool). cond b (Some i) (find stands is)) (ne_eqb i.offset o (λ e. omega (arith, e, lt))) ∙ none_later is (λ k d l. larger (suc k) d (omega (arith, l)))

  abbrev pub if_there : UnitItem → Option UnitItem
  if_there i = cond (stands i) (Some i) None

  -- the item at the offset stands where those begin that aren't before it
  pub at_point : (is : List UnitItem) (n : ℕ) → IsNonDecreasingBy (λ i. i.offset) is → ((k : ℕ) (d : UnitItem) → k < n → (get_or is k d).offset < o) → ((k : ℕ) (d : UnitItem) → n ≤ k → k < length is → o ≤ (get_or is k d).offset) → find (λ i. eqb i.offset o) is ≡ option_and_then if_there (slice_get is n)
  at_point [] n rise smaller larger = refl
  at_point (i ∷ is) zero rise smaller larger = ⊎_elim
      (λ (same : i.offset ≡ o). rw (eq-eqb i.offset o same) refl)
      (λ (other : i.offset ≡ o → ⊥).
      let least = larger 0 i (omega arith) (omega arith) in
      let none : find stands is ≡ None = none_later is (λ k d l. let up = rise 0 (suc k) d (omega arith) (omega (arith, l)) in omega (arith, least, other, up)) in
      rw (ne_eqb i.offset o other) none)
      (cases_eq i.offset o)
  at_point (i ∷ is) (suc n) rise smaller larger =
      let lt = smaller 0 i (omega arith) in
      ap (λ (b : Bool). cond b (Some i) (find stands is)) (ne_eqb i.offset o (λ e. omega (arith, e, lt))) ∙
      at_point is n (λ j k d le l. rise (suc j) (suc k) d (omega (arith, le)) (omega (arith, l))) (λ k d l. smaller (suc k) d (omega (arith, l))) (λ k d le l. larger (suc k) d (omega (arith, le)) (omega (arith, l)))

-- ---- the items of a unit

module _ (f : List ℕ) (p : Program) (is : program_of f ≡ Ok p) (which : Which) (items : List UnitItem) where
  abbrev keeps_there : Located → Bool
  keeps_there d = keeps which d.item

  module _ (w : Walked) (wc : Contains p.walks w) (are : AllZip (IsItemOf p.sections) items (kept_of which w)) where
    -- their offsets rise
    pub offsets_rise : IsNonDecreasingBy (λ i. i.offset) items
    offsets_rise i j d le within =
        let a = (program_apart f p is).walks w wc in
        let r = walk_rises p.sections a.0 w a.1 in
        let all = pairs_map Before (at_home w) (items_of w) (items_rise r.0 (items_of w) r.1) in
        let pairs = earlier p.sections items (kept_of which w) are (pairs_filter Before keeps_there (located w) all) in
        ⊎_elim
        (λ (lt : i < j). let before = all_pairs Earlier items pairs i j d lt within in omega (arith, before))
        (λ (ge : j ≤ i). let same : i ≡ j = omega (arith, le, ge) in subst (λ (k : ℕ). (get_or items i d).offset ≤ (get_or items k d).offset) same (omega arith))
        (cases_lt i j)

    -- one with the offset is the file's item there
    pub found_there : (o : ℕ) (i : UnitItem) → find (stands o) items ≡ Some i → IsItemIn p.sections (Some i) (item_with_offset p o)
    found_there o i found =
        let m = of_find (stands o) items i found in
        let d = right_of (IsItemOf p.sections) items (kept_of which w) are i m.0 in
        let own = (of_filter keeps_there (located w) d.0 d.1).0 in
        let place = sym d.2.offset ∙ eqb-true i.offset o m.1 in
        subst (IsItemIn p.sections (Some i)) (sym (is_at f p is o d.0 (to_flat_map located p.walks w d.0 wc own) place)) d.2

  -- where no unit has an item with the offset that is kept none stands there
  module _ (o unit : ℕ) (at : IsUnitAt f o (Some unit)) (are : AreItemsOf f unit which items) where
    pub none_there : ((d : Located) → keeps which d.item ≡ true) → find (stands o) items ≡ None → IsItemIn p.sections None (item_with_offset p o)
    none_there all none = by (item_with_offset p o) refl
      where
        by : (q : Option Located) → item_with_offset p o ≡ q → IsItemIn p.sections None (item_with_offset p o)
        by None e = subst (IsItemIn p.sections None) (sym e) tt
        by (Some d) e =
            let h = home_of f p is o d e in
            let number : d.home.number ≡ unit = sym (same_Some unit d.home.number (at p is d.home h.0 d.item h.1 h.2)) in
            let here = to_map (at_home d.home) (items_of d.home) d.item h.1 in
            let kept = to_filter keeps_there (located d.home) d here (all d) in
            let i = left_of (IsItemOf p.sections) items (kept_of which d.home) (are p is d.home h.0 number) d kept in
            absurd (find_none (stands o) items none i.0 i.1 (eq-eqb (i.0).offset o (i.2.offset ∙ h.2)))

    -- so of a unit read whole the one that is found, or none, is the file's item there
    pub all_there : ((d : Located) → keeps which d.item ≡ true) → (w : Walked) → Contains p.walks w → w.number ≡ unit → (found : Option UnitItem) → found ≡ find (stands o) items → IsItemIn p.sections found (item_with_offset p o)
    all_there all w wc number None e = none_there all (sym e)
    all_there all w wc number (Some i) e = found_there w wc (are p is w wc number) o i (sym e)

-- nothing stands at an offset of no unit
module _ (f : List ℕ) (p : Program) (is : program_of f ≡ Ok p) (o : ℕ) (at : IsUnitAt f o None) where
  pub nothing_there : IsItemIn p.sections None (item_with_offset p o)
  nothing_there = by (item_with_offset p o) refl
    where
      by : (q : Option Located) → item_with_offset p o ≡ q → IsItemIn p.sections None (item_with_offset p o)
      by None e = subst (IsItemIn p.sections None) (sym e) tt
      by (Some d) e =
          let h = home_of f p is o d e in
          let clash : None ≡ Some d.home.number = at p is d.home h.0 d.item h.1 h.2 in
          absurd (cc)
