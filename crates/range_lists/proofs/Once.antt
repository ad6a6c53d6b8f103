-- A list is read, or was read before.
use Rattle.std.proofs.Common.{Vec, Global, ◌≡◌, ℕ, List, ◌++◌, Result, Ok, Err, refl, sym, ap, subst, ⊎_elim}
use Rattle.std.specs.Prelude.{Contains, IsOkAnd}
use mathlib.Core.Logic.{◌⊎◌}
use Rattle.index_model.specs.declared.range.Range.{Range}
use Rattle.index_model.specs.declared.range.UnitRange.{UnitRange}
use Rattle.index_model.specs.Program.{Walked}
use Rattle.index_model.specs.Sections.{Section}
use Rattle.index_model.specs.Strings.{base_of}
use Rattle.index_model.proofs.Meanings.{bind_ok, same_ok}
use Rattle.range_lists.specs.declared.found.FoundRanges.{FoundRanges}
use Rattle.range_lists.specs.declared.found.RangeList.{RangeList}
use Rattle.range_lists.specs.Found.{list_ranges, IsRead, AreRead, IsAdded, IsReadOn}
use Rattle.range_lists.specs.Lists.{behind}
use Rattle.range_lists.specs.Same.{of_unit, HaveSameUnits, AddNothing}
use Rattle.ix_base.specs.declared.or_memory.OrMemory.{OrMemory}
use Rattle.ix_base.specs.declared.or_memory.OrMemory.TheVariants.{Cause, Memory}
use Rattle.range_lists.specs.Gives.{GivesOrRefused, RefusedOr}
use Rattle.range_lists.proofs.SameUnits.{ranges_added, ok_still, still_read}
use Rattle.range_lists.proofs.Rests.{own_read}

module _ (ss : List Section) (w : Walked) (unit : ℕ) (list : RangeList) (base : base_of 0x73 w ≡ list.addr_base) (old : FoundRanges) (read : AreRead ss old) where
  pub read_before : Contains old.lists.keys list → IsOkAnd (list_ranges ss w list) (IsAdded ss unit old old)
  read_before c = ok_still (list_ranges ss w list) (AddNothing old.ranges.items) (IsAdded ss unit old old) (λ rs h. record { same = λ a. sym (h unit a); read = read }) (read list c w base)

  -- it was read on, and it and its ends are remembered
  module _ (now new : FoundRanges) (ends : List RangeList) (ranges : new.ranges ≡ now.ranges) (keys : (other : RangeList) → Contains new.lists.keys other → (list ≡ other) ⊎ (Contains ends other ⊎ Contains now.lists.keys other)) where
    noted : (rs : List Range) → list_ranges ss w list ≡ Ok rs → IsReadOn ss unit old now ends rs → IsAdded ss unit old new rs
    noted rs is on =
        let items : now.ranges.items ≡ new.ranges.items = ap (λ (v : Vec UnitRange Global). v.items) (sym ranges) in
        let same : HaveSameUnits new.ranges.items (old.ranges.items ++ of_unit unit rs) = subst (λ (us : List UnitRange). HaveSameUnits us (old.ranges.items ++ of_unit unit rs)) items on.same in
        record {
          same = same;
          read = λ other c. ⊎_elim
              (λ (one : list ≡ other). subst (IsRead ss new.ranges.items) one (own_read ss w unit list base old.ranges.items new.ranges.items rs is same))
              (λ (before : Contains ends other ⊎ Contains now.lists.keys other). ⊎_elim
              (λ (end : Contains ends other). subst (λ (us : List UnitRange). IsRead ss us other) items (on.read other end))
              (λ (earlier : Contains now.lists.keys other). still_read ss old.ranges.items (of_unit unit rs) new.ranges.items other same (read other (rw on.lists at earlier)))
              before)
              (keys other c);
        }

    pub read_now : IsOkAnd (list_ranges ss w list) (IsReadOn ss unit old now ends) → IsOkAnd (list_ranges ss w list) (IsAdded ss unit old new)
    read_now is = by (list_ranges ss w list) refl is
      where
        by : (r : Result (List Range) ℕ) → list_ranges ss w list ≡ r → IsOkAnd r (IsReadOn ss unit old now ends) → IsOkAnd r (IsAdded ss unit old new)
        by (Ok rs) same on = noted rs same on
        by (Err e) same on = absurd on

-- ---- ranges without a list

err_behind : (unit : ℕ) (front : List UnitRange) (m : Result (List Range) ℕ) (code : ℕ) → behind unit front m ≡ Err code → m ≡ Err code
err_behind unit front (Ok rs) code is = absurd cc
err_behind unit front (Err e) code is = let same : e ≡ code = cc in ap (λ (k : ℕ). Err k) same

pub bounds_added : (ss : List Section) (unit : ℕ) (old new : FoundRanges) → AreRead ss old → new.lists ≡ old.lists → (r : Result (Unit {0}) (OrMemory ℕ)) (m : Result (List Range) ℕ) → GivesOrRefused (λ _. new.ranges.items) r (behind unit old.ranges.items m) → RefusedOr (λ _. IsAdded ss unit old new) r m
bounds_added ss unit old new read lists (Ok x) m gives =
    let b = bind_ok m (λ rs. Ok (old.ranges.items ++ of_unit unit rs)) new.ranges.items gives in
    let all : old.ranges.items ++ of_unit unit b.0 ≡ new.ranges.items = same_ok (old.ranges.items ++ of_unit unit b.0) new.ranges.items b.2 in
    subst (λ (r : Result (List Range) ℕ). IsOkAnd r (IsAdded ss unit old new)) (sym b.1) (ranges_added ss unit old new b.0 read lists (sym all))
bounds_added ss unit old new read lists (Err (Cause code)) m gives = err_behind unit old.ranges.items m code gives
bounds_added ss unit old new read lists (Err Memory) m gives = tt
