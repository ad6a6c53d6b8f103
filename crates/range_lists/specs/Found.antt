-- The ranges that were found so far, and the lists that were read for them.
use Rattle.std.specs.Prelude.{◌≡◌, ℕ, List, ◌++◌, Contains, Result, IsOkAnd}
use Rattle.index_model.specs.declared.range.Range.{Range}
use Rattle.index_model.specs.declared.range.UnitRange.{UnitRange}
use Rattle.index_model.specs.RangeLists.{list_at}
use Rattle.index_model.specs.Program.{Walked}
use Rattle.index_model.specs.Sections.{Section}
use Rattle.index_model.specs.Strings.{base_of}
use Rattle.range_lists.specs.Lists.{reader_for, lists_in, kept}
use Rattle.range_lists.specs.Same.{of_unit, HaveSameUnits, AddNothing}
use Rattle.range_lists.specs.declared.found.FoundRanges.{FoundRanges}
use Rattle.range_lists.specs.declared.found.RangeList.{RangeList}

-- the ranges of a list that count
abbrev pub list_ranges : List Section → Walked → RangeList → Result (List Range) ℕ
list_ranges ss w list = kept (list_at (reader_for list.format ss w) list.base (lists_in list.format ss) list.place)

-- the list has no fault, and its ranges add nothing to these, in whatever unit with this base of addresses it is read
abbrev pub IsRead : List Section → List UnitRange → RangeList → Type 0
IsRead ss us list = (w : Walked) → base_of 0x73 w ≡ list.addr_base → IsOkAnd (list_ranges ss w list) (AddNothing us)

-- the lists that were read add nothing to the ranges that were found
abbrev pub AreRead : List Section → FoundRanges → Type 0
AreRead ss found = (list : RangeList) → Contains found.lists.keys list → IsRead ss found.ranges.items list

-- what was found with these ranges of the unit: the same units at each address as the old ranges with all of these behind them
pub record IsAdded (ss : List Section) (unit : ℕ) (old new : FoundRanges) (rs : List Range) : Type 0 where
  pub same : HaveSameUnits new.ranges.items (old.ranges.items ++ of_unit unit rs)
  pub read : AreRead ss new

-- what was found with these ranges of a list of the unit, and ends of that list, which add nothing now; none of these lists is remembered yet
pub record IsReadOn (ss : List Section) (unit : ℕ) (old new : FoundRanges) (ends : List RangeList) (rs : List Range) : Type 0 where
  pub same : HaveSameUnits new.ranges.items (old.ranges.items ++ of_unit unit rs)
  pub lists : new.lists ≡ old.lists
  pub read : (end : RangeList) → Contains ends end → IsRead ss new.ranges.items end
