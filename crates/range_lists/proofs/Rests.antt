-- A list that is read, and its ends.
use Rattle.std.proofs.Common.{◌≡◌, ℕ, suc, ◌+◌, ◌-◌, ◌<◌, ◌≤◌, List, [], ◌∷◌, ◌++◌, append_assoc, length, drop, Some, None, Result, Ok, Err, refl, sym, ap, subst, ◌∙◌, arith, length-drop, ⊎_elim}
use Rattle.std.specs.Prelude.{Contains, IsOkAnd}
use Rattle.std.proofs.lemmas.List.{append-nil, drop-drop, map-append}
use Rattle.std.proofs.lemmas.List.Elements.{Contains-append_cases}
use Rattle.common_laws.proofs.Members.{contains_cases}
use Rattle.ix_base.specs.declared.code.TheConstants.{BAD_RANGE}
use Rattle.ix_base.specs.Reading.{Input, input}
use Rattle.index_model.specs.declared.range.Range.{Range}
use Rattle.index_model.specs.declared.range.UnitRange.{UnitRange}
use Rattle.index_model.specs.Ranges.{unit_at}
use Rattle.index_model.specs.Sections.{Section}
use Rattle.index_model.specs.Program.{Walked}
use Rattle.index_model.specs.Strings.{base_of}
use Rattle.index_model.specs.RangeLists.{ListEntry, EntryReader, list_at, list_from}
use Rattle.range_lists.specs.declared.found.FoundRanges.{FoundRanges}
use Rattle.range_lists.specs.declared.found.RangeList.{RangeList}
use Rattle.range_lists.specs.Found.{list_ranges, IsRead, AreRead, IsReadOn}
use Rattle.range_lists.specs.Lists.{reader_for, lists_in, kept, range_in, base_behind}
use Rattle.range_lists.specs.Same.{with_unit, of_unit, HaveSameUnits, AddNothing}
use Rattle.range_lists.proofs.Alike.{reader_same}
use Rattle.range_lists.proofs.Entries.{Takes, entry_takes}
use Rattle.range_lists.proofs.Reading.{before, before_both, list_more, list_ends, list_cut, list_out, same_from}
use Rattle.range_lists.proofs.SameUnits.{same_read, still_nothing, nothing_again}

abbrev given : List Range → Result (List Range) ℕ
given rs = Ok rs

only : {A : Type 0} (x y : A) → Contains (x ∷ []) y → x ≡ y
only x y c = ⊎_elim (λ (e : x ≡ y). e) (λ (l : Contains [] y). absurd (omega (arith, l.1))) (contains_cases x [] y c)

-- a list whose ranges the unit was given adds nothing
pub own_read : (ss : List Section) (w : Walked) (unit : ℕ) (list : RangeList) → base_of 0x73 w ≡ list.addr_base → (us new : List UnitRange) (rs : List Range) → list_ranges ss w list ≡ Ok rs → HaveSameUnits new (us ++ of_unit unit rs) → IsRead ss new list
own_read ss w unit list base us new rs is same v its =
    let alike : list_ranges ss v list ≡ Ok rs = ap (λ (reader : EntryReader). kept (list_at reader list.base (lists_in list.format ss) list.place)) (reader_same ss v w (its ∙ sym base) list.format) ∙ is in
    subst (λ (r : Result (List Range) ℕ). IsOkAnd r (AddNothing new)) (sym alike) (nothing_again us new unit rs same)

module _ (ss : List Section) (w : Walked) (unit : ℕ) (list : RangeList) where
  abbrev read : EntryReader
  read = reader_for list.format ss w

  abbrev bytes : List ℕ
  bytes = lists_in list.format ss

  -- the list from the place of the cursor on
  abbrev pub end_at : ℕ → Input → RangeList
  end_at base i = record list { place = i.at; base = base }

  -- the ranges of an end, if it has no fault
  abbrev rest : ℕ → Input → Result (List Range) ℕ
  rest base i = list_ranges ss w (end_at base i)

  -- so many entries were read, whose ranges were added, and the rest is still to come
  pub record IsReading (old now : FoundRanges) (ends : List RangeList) (count base : ℕ) (i : Input) : Type 0 where
    pub inside : drop i.at bytes ≡ i.rest
    pub few : count + length i.rest ≤ length bytes
    pub front : List Range
    pub ranges : now.ranges.items ≡ old.ranges.items ++ of_unit unit front
    pub all : list_ranges ss w list ≡ before front (rest base i)
    pub lists : now.lists ≡ old.lists
    pub read_if : base_of 0x73 w ≡ list.addr_base → (end : RangeList) → Contains ends end → (rs : List Range) → rest base i ≡ Ok rs → IsRead ss (now.ranges.items ++ of_unit unit rs) end

  from_here : (base : ℕ) (i : Input) → drop i.at bytes ≡ i.rest → rest base i ≡ kept (list_from (length bytes) read base i)
  unfolding list_at
  from_here base i inside = ap (λ (left : List ℕ). kept (list_from (length bytes) read base (record { at = i.at; rest = left }))) inside

  -- one entry is read
  from_one : (base : ℕ) (i : Input) → drop i.at bytes ≡ i.rest → 0 < length bytes → rest base i ≡ kept (list_from (suc (length bytes - 1)) read base i)
  from_one base i inside some = from_here base i inside ∙ (let n : length bytes ≡ suc (length bytes - 1) = omega (arith, some) in ap (λ (k : ℕ). kept (list_from k read base i)) n)

  module _ (i j : Input) (e : ListEntry) (is : read i ≡ Ok (e, j)) (inside : drop i.at bytes ≡ i.rest) where
    takes : Takes i j
    takes = entry_takes list.format ss w i (e, j) is

    pub next_inside : drop j.at bytes ≡ j.rest
    next_inside =
        let at : j.at ≡ i.at + takes.0 = ap (λ (k : Input). k.at) (sym takes.2.on) in
        ap (λ (k : ℕ). drop k bytes) at ∙ sym (drop-drop takes.0 i.at bytes) ∙ ap (drop takes.0) inside ∙ ap (λ (k : Input). k.rest) takes.2.on

    pub next_less : length j.rest < length i.rest
    next_less = omega (arith, takes.1, takes.2.there, ap (λ (k : Input). length k.rest) takes.2.on, length-drop takes.0 i.rest)

    rest_more : (base next : ℕ) → length i.rest ≤ length bytes → base_behind e base ≡ Some next → rest base i ≡ before (range_in e base) (rest next j)
    rest_more base next few on =
        let n = length bytes - 1 in
        from_one base i inside (omega (arith, few, next_less)) ∙
        list_more read n base i e j next is on ∙
        ap (λ (r : Result (List Range) ℕ). before (range_in e base) (kept r)) (same_from list.format ss w n (length bytes) next j (omega (arith, few, next_less)) (omega (arith, few, next_less))) ∙
        ap (before (range_in e base)) (sym (from_here next j next_inside))

  module _ (old : FoundRanges) where
    pub at_first : list.place ≤ length bytes → IsReading old old [] 0 list.base (input bytes list.place)
    at_first within = record {
      inside = refl;
      few = omega (arith, length-drop list.place bytes);
      front = [];
      ranges = sym (append-nil old.ranges.items);
      all = none (list_ranges ss w list);
      lists = refl;
      read_if = λ own end c. absurd (omega (arith, c.1));
    }
      where
        none : (r : Result (List Range) ℕ) → r ≡ before [] r
        none (Ok rs) = refl
        none (Err e) = refl

    module _ (now : FoundRanges) (ends : List RangeList) (count base : ℕ) (i : Input) (h : IsReading old now ends count base i) where
      -- ---- the entry at the cursor

      pub was_cut : (code : ℕ) → count < length bytes → read i ≡ Err code → list_ranges ss w list ≡ Err code
      was_cut code more is = h.all ∙ ap (before h.front) (from_one base i h.inside (omega (arith, more)) ∙ list_cut read (length bytes - 1) base i code is)

      pub was_out : length bytes ≤ count → list_ranges ss w list ≡ Err BAD_RANGE
      was_out over = h.all ∙ ap (before h.front) (from_here base i h.inside ∙ ap kept (list_out list.format ss w (length bytes) base i (omega (arith, over, h.few))))

      -- the list has no fault where its end adds nothing
      ended : base_of 0x73 w ≡ list.addr_base → (rs : List Range) → rest base i ≡ Ok rs → AddNothing now.ranges.items rs → IsOkAnd (list_ranges ss w list) (IsReadOn ss unit old now ends)
      ended own rs is nothing =
          let all : list_ranges ss w list ≡ given (h.front ++ rs) = h.all ∙ ap (before h.front) is in
          let longer : now.ranges.items ++ of_unit unit rs ≡ old.ranges.items ++ of_unit unit (h.front ++ rs) =
          ap (λ (us : List UnitRange). us ++ of_unit unit rs) h.ranges ∙ append_assoc old.ranges.items (of_unit unit h.front) (of_unit unit rs) ∙ ap (λ (us : List UnitRange). old.ranges.items ++ us) (sym (map-append (with_unit unit) h.front rs)) in
          subst (λ (r : Result (List Range) ℕ). IsOkAnd r (IsReadOn ss unit old now ends)) (sym all) (record {
            same = subst (λ (us : List UnitRange). HaveSameUnits now.ranges.items us) longer (λ a. sym (nothing unit a));
            lists = h.lists;
            read = λ end c. same_read ss (now.ranges.items ++ of_unit unit rs) now.ranges.items end (λ a. sym (nothing unit a)) (h.read_if own end c rs is);
          })

      pub at_last : base_of 0x73 w ≡ list.addr_base → (e : ListEntry) (j : Input) → count < length bytes → read i ≡ Ok (e, j) → base_behind e base ≡ None → IsOkAnd (list_ranges ss w list) (IsReadOn ss unit old now ends)
      at_last own e j more is off = ended own [] (from_one base i h.inside (omega (arith, more)) ∙ list_ends read (length bytes - 1) base i e j is off) (λ unit a. ap (λ (us : List UnitRange). unit_at us a) (append-nil now.ranges.items))

      -- the end was read before
      pub known : base_of 0x73 w ≡ list.addr_base → AreRead ss old → Contains now.lists.keys (end_at base i) → IsOkAnd (list_ranges ss w list) (IsReadOn ss unit old now ends)
      known own are c =
          by (rest base i) refl (are (end_at base i) (rw h.lists at c) w own)
        where
          by : (r : Result (List Range) ℕ) → rest base i ≡ r → IsOkAnd r (AddNothing old.ranges.items) → IsOkAnd (list_ranges ss w list) (IsReadOn ss unit old now ends)
          by (Ok rs) is nothing = ended own rs is (still_nothing old.ranges.items (of_unit unit h.front) now.ranges.items rs (λ a. ap (λ (us : List UnitRange). unit_at us a) h.ranges) nothing)
          by (Err e) is nothing = absurd nothing

      -- the end is remembered
      pub one_end : IsReading old now (ends ++ (end_at base i ∷ [])) count base i
      one_end = record {
        inside = h.inside;
        few = h.few;
        front = h.front;
        ranges = h.ranges;
        all = h.all;
        lists = h.lists;
        read_if = λ own end c rs is. ⊎_elim
            (λ (earlier : Contains ends end). h.read_if own end earlier rs is)
            (λ (last : Contains (end_at base i ∷ []) end). subst (IsRead ss (now.ranges.items ++ of_unit unit rs)) (only (end_at base i) end last) (own_read ss w unit (end_at base i) own now.ranges.items (now.ranges.items ++ of_unit unit rs) rs is (λ a. refl)))
            (Contains-append_cases ends (end_at base i ∷ []) end c);
      }

      -- one entry on
      pub one_on : (e : ListEntry) (j : Input) (next : ℕ) (new : FoundRanges) → count < length bytes → read i ≡ Ok (e, j) → base_behind e base ≡ Some next → new.lists ≡ now.lists → new.ranges.items ≡ now.ranges.items ++ of_unit unit (range_in e base) → IsReading old new ends (count + 1) next j
      one_on e j next new more is on lists ranges =
          let later : rest base i ≡ before (range_in e base) (rest next j) = rest_more i j e is h.inside base next (omega (arith, h.few)) on in
          let both : (us : List UnitRange) (rs ts : List Range) → (us ++ of_unit unit rs) ++ of_unit unit ts ≡ us ++ of_unit unit (rs ++ ts) = λ us rs ts. append_assoc us (of_unit unit rs) (of_unit unit ts) ∙ ap (λ (vs : List UnitRange). us ++ vs) (sym (map-append (with_unit unit) rs ts)) in
          record {
            inside = next_inside i j e is h.inside;
            few = omega (arith, h.few, next_less i j e is h.inside);
            front = h.front ++ range_in e base;
            ranges = ranges ∙ ap (λ (us : List UnitRange). us ++ of_unit unit (range_in e base)) h.ranges ∙ both old.ranges.items h.front (range_in e base);
            all = h.all ∙ ap (before h.front) later ∙ before_both h.front (range_in e base) (rest next j);
            lists = lists ∙ h.lists;
            read_if = λ own end c rs its. subst (λ (us : List UnitRange). IsRead ss us end) (sym (both now.ranges.items (range_in e base) rs) ∙ ap (λ (us : List UnitRange). us ++ of_unit unit rs) (sym ranges)) (h.read_if own end c (range_in e base ++ rs) (later ∙ ap (before (range_in e base)) its));
          }
