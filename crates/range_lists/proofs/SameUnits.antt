-- Ranges that show the same units, and lists that were read.
use Rattle.std.proofs.Common.{◌≡◌, ℕ, Bool, true, false, cond, List, [], ◌∷◌, ◌++◌, append_assoc, Option, Some, None, Result, Ok, Err, refl, sym, ap, ◌∙◌}
use Rattle.std.specs.Prelude.{find, IsOkAnd}
use Rattle.std.specs.Option.{option_map, option_or}
use Rattle.std.proofs.lemmas.List.{append-nil, map-append}
use Rattle.std.proofs.lemmas.List.Folds.{find-append}
use Rattle.index_model.specs.declared.range.Range.{Range}
use Rattle.index_model.specs.declared.range.UnitRange.{UnitRange}
use Rattle.index_model.specs.Ranges.{contains, unit_at}
use Rattle.index_model.specs.Sections.{Section}
use Rattle.range_lists.specs.declared.found.FoundRanges.{FoundRanges}
use Rattle.range_lists.specs.declared.found.RangeList.{RangeList}
use Rattle.range_lists.specs.Found.{IsRead, AreRead, IsAdded}
use Rattle.range_lists.specs.Same.{with_unit, of_unit, HaveSameUnits, AddNothing}

-- ---- units at addresses

or_map : {A B : Type 0} (f : A → B) (x y : Option A) → option_map f (option_or x y) ≡ option_or (option_map f x) (option_map f y)
or_map f (Some x) y = refl
or_map f None y = refl

-- what stands in front wins
in_two : (us vs : List UnitRange) (a : ℕ) → unit_at (us ++ vs) a ≡ option_or (unit_at us a) (unit_at vs a)
unfolding unit_at
in_two us vs a =
    ap (option_map (λ (u : UnitRange). u.unit)) (find-append (λ (u : UnitRange). contains a u.range) us vs) ∙
    or_map (λ (u : UnitRange). u.unit) (find (λ u. contains a u.range) us) (find (λ u. contains a u.range) vs)

-- the unit of a list's ranges is at the addresses of the ranges
by_range : (unit a : ℕ) (rs : List Range) → unit_at (of_unit unit rs) a ≡ option_map (λ (r : Range). unit) (find (contains a) rs)
unfolding unit_at
by_range unit a [] = refl
by_range unit a (r ∷ rs) = by (contains a r) (by_range unit a rs)
  where
    by : (b : Bool) → unit_at (of_unit unit rs) a ≡ option_map (λ (r : Range). unit) (find (contains a) rs) → option_map (λ (u : UnitRange). u.unit) (cond b (Some (with_unit unit r)) (find (λ u. contains a u.range) (of_unit unit rs))) ≡ option_map (λ (r : Range). unit) (cond b (Some r) (find (contains a) rs))
    by true later = refl
    by false later = later

none_either : {A : Type 0} (u v : ℕ) (o : Option A) → option_map (λ (x : A). u) o ≡ None → option_map (λ (x : A). v) o ≡ None
none_either u v None is = refl
none_either u v (Some x) is = absurd cc

-- ---- ranges behind others

pub same_front : (us vs ws : List UnitRange) → HaveSameUnits us vs → HaveSameUnits (us ++ ws) (vs ++ ws)
same_front us vs ws h a = in_two us ws a ∙ ap (λ (o : Option ℕ). option_or o (unit_at ws a)) (h a) ∙ sym (in_two vs ws a)

front_wins : (x m y : Option ℕ) → option_or x y ≡ x → option_or (option_or x m) y ≡ option_or x m
front_wins (Some u) m y h = refl
front_wins None (Some v) y h = refl
front_wins None None y h = h

-- what adds nothing to ranges adds nothing to them and others
pub still_nothing : (us ms new : List UnitRange) (rs : List Range) → HaveSameUnits new (us ++ ms) → AddNothing us rs → AddNothing new rs
still_nothing us ms new rs same h unit a =
    let own : unit_at new a ≡ option_or (unit_at us a) (unit_at ms a) = same a ∙ in_two us ms a in
    in_two new (of_unit unit rs) a ∙
    ap (λ (o : Option ℕ). option_or o (unit_at (of_unit unit rs) a)) own ∙
    front_wins (unit_at us a) (unit_at ms a) (unit_at (of_unit unit rs) a) (sym (in_two us (of_unit unit rs) a) ∙ h unit a) ∙
    sym own

last_wins : (x y z : Option ℕ) → (y ≡ None → z ≡ None) → option_or (option_or x y) z ≡ option_or x y
last_wins (Some u) y z none = refl
last_wins None (Some v) z none = refl
last_wins None None z none = none refl

-- ranges that were added once add nothing again
pub nothing_again : (us new : List UnitRange) (unit : ℕ) (rs : List Range) → HaveSameUnits new (us ++ of_unit unit rs) → AddNothing new rs
nothing_again us new unit rs same other a =
    let own : unit_at new a ≡ option_or (unit_at us a) (unit_at (of_unit unit rs) a) = same a ∙ in_two us (of_unit unit rs) a in
    in_two new (of_unit other rs) a ∙
    ap (λ (o : Option ℕ). option_or o (unit_at (of_unit other rs) a)) own ∙
    last_wins (unit_at us a) (unit_at (of_unit unit rs) a) (unit_at (of_unit other rs) a) (λ none. by_range other a rs ∙ none_either unit other (find (contains a) rs) (sym (by_range unit a rs) ∙ none)) ∙
    sym own

-- ---- lists that were read

pub ok_still : {A E : Type 0} (r : Result A E) (P Q : A → Type 0) → ((x : A) → P x → Q x) → IsOkAnd r P → IsOkAnd r Q
ok_still (Ok x) P Q h p = h x p
ok_still (Err e) P Q h p = p

pub still_read : (ss : List Section) (us ms new : List UnitRange) (list : RangeList) → HaveSameUnits new (us ++ ms) → IsRead ss us list → IsRead ss new list
still_read ss us ms new list same is w base = ok_still _ (AddNothing us) (AddNothing new) (λ rs h. still_nothing us ms new rs same h) (is w base)

pub same_read : (ss : List Section) (us new : List UnitRange) (list : RangeList) → HaveSameUnits new us → IsRead ss us list → IsRead ss new list
same_read ss us new list same is = still_read ss us [] new list (λ a. same a ∙ ap (λ (vs : List UnitRange). unit_at vs a) (sym (append-nil us))) is

-- ---- what was added

module _ (ss : List Section) (unit : ℕ) where
  pub none_added : (found : FoundRanges) → AreRead ss found → IsAdded ss unit found found []
  none_added found read = record { same = λ a. ap (λ (us : List UnitRange). unit_at us a) (sym (append-nil found.ranges.items)); read = read }

  -- ranges were added, and no list was read
  pub ranges_added : (old new : FoundRanges) (rs : List Range) → AreRead ss old → new.lists ≡ old.lists → new.ranges.items ≡ old.ranges.items ++ of_unit unit rs → IsAdded ss unit old new rs
  ranges_added old new rs read lists ranges =
      let same : HaveSameUnits new.ranges.items (old.ranges.items ++ of_unit unit rs) = λ a. ap (λ (us : List UnitRange). unit_at us a) ranges in
      record {
        same = same;
        read = λ list c. still_read ss old.ranges.items (of_unit unit rs) new.ranges.items list same (read list (rw (sym lists) c));
      }

  pub added_both : (first second third : FoundRanges) (rs ts : List Range) → IsAdded ss unit first second rs → IsAdded ss unit second third ts → IsAdded ss unit first third (rs ++ ts)
  added_both first second third rs ts a b = record {
    same = λ k.
        b.same k ∙
        same_front second.ranges.items (first.ranges.items ++ of_unit unit rs) (of_unit unit ts) a.same k ∙
        ap (λ (us : List UnitRange). unit_at us k) (append_assoc first.ranges.items (of_unit unit rs) (of_unit unit ts) ∙ ap (λ (us : List UnitRange). first.ranges.items ++ us) (sym (map-append (with_unit unit) rs ts)));
    read = b.read;
  }
