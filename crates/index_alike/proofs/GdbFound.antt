-- Each slot that is read is found on the path of its name, and no other slot has the name.
use Rattle.std.proofs.Common.{◌≡◌, ◌≢◌, ℕ, zero, suc, ◌+◌, ◌*◌, ◌^◌, ◌<◌, Bool, true, false, not, cond, List, [], ◌∷◌, ◌++◌, length, get_or, map, Option, Some, None, Result, Ok, refl, sym, ap, ◌∙◌, subst, arith, zero-add, ⊎_elim}
use mathlib.Core.Logic.{◌⊎◌}
use Rattle.std.specs.Prelude.{flat_map, filter, bytes_eq, All}
use Rattle.std.specs.List.{list_all, enumerate_from, range_with_len}
use Rattle.std.proofs.lemmas.Bool.{false_from_ne_true, cases_order}
use Rattle.std.proofs.lemmas.List.{append-nil, get_or_default}
use Rattle.std.proofs.lemmas.List.Elements.{All-head, All-tail}
use Rattle.std.proofs.lemmas.List.Folds.{flat_map-map}
use Rattle.std.proofs.lemmas.List.FromFn.{length-map-range_with_len, get_or-map-range_with_len, length-enumerate_from, get_or-enumerate_from}
use Rattle.std.proofs.lemmas.Option.{unwrap_or-slice_get}
use Rattle.std.proofs.lemmas.Slice.Eq.{bytes_eq-Decides}
use Rattle.ix_base.specs.declared.fault.Fault.{Fault}
use Rattle.index_model.specs.declared.entry.Entry.{Entry}
use Rattle.index_model.specs.declared.index_code.TheConstants.{GDB_LOST_SLOT}
use Rattle.index_model.specs.declared.unit.Unit.{Unit as UnitHeader}
use Rattle.index_model.specs.Layout.{below}
use Rattle.index_model.specs.Hashes.{path}
use Rattle.index_model.specs.Meaning.{fault, holds_or, each}
use Rattle.index_model.specs.Ordered.{bytes_lt}
use Rattle.index_model.specs.GdbSlots.{slot_count, slots_of}
use Rattle.index_model.specs.GdbIndex.{pool_of, index_names, vector, name_in_slot}
use Rattle.index_model.specs.GdbIndexRead.{Slot, slot_or_none, is_other, is_found, places_before, reached, elements_of}
use Rattle.index_model.specs.Order.{Rises}
use Rattle.index_model.proofs.Orders.{bytes_order, ascending_rises, pairs_from_rises}
use Rattle.index_alike.proofs.GdbPlaced.{slot_below, name_there, in_slot, path_leads}
use Rattle.index_alike.proofs.GdbPool.{names_of_pool}
use Rattle.index_alike.proofs.GdbTable.{slot_of, slot_read}

-- what is right of each item gives no fault
fine : {A : Type 0} (g : A → Result (record {}) Fault) (xs : List A) → All (λ x. g x ≡ Ok (record {})) xs → each g xs ≡ Ok (map (λ _. record {}) xs)
fine g [] all = refl
fine g (x ∷ xs) all =
    let here = All-head (λ x. g x ≡ Ok (record {})) x xs all in
    let rest = fine g xs (All-tail (λ x. g x ≡ Ok (record {})) x xs all) in
    rw (here, rest) refl

-- where no number gives something
none_at_all : (f : ℕ → List ℕ) (a n : ℕ) → ((i : ℕ) → i < n → f (a + i) ≡ []) → flat_map f (range_with_len a n) ≡ []
none_at_all f a zero none = refl
none_at_all f a (suc n) none =
    let first : f a ≡ [] = ap f (let e : a ≡ a + 0 = omega arith in e) ∙ none 0 (omega arith) in
    (λ i. first i ++ none_at_all f (a + 1) n (λ j lt. ap f (let e : a + 1 + j ≡ a + suc j = omega arith in e) ∙ none (suc j) (omega (arith, lt))) i)

-- where one number alone gives something
only_one : (f : ℕ → List ℕ) (a n k : ℕ) → k < n → ((i : ℕ) → i < n → i ≢ k → f (a + i) ≡ []) → flat_map f (range_with_len a n) ≡ f (a + k)
only_one f a zero k lt none = absurd (omega (arith, lt))
only_one f a (suc n) zero lt none =
    let rest = none_at_all f (a + 1) n (λ j less. ap f (let e : a + 1 + j ≡ a + suc j = omega arith in e) ∙ none (suc j) (omega (arith, less)) (omega arith)) in
    (λ i. f (let e : a ≡ a + 0 = omega arith in e i) ++ rest i) ∙ append-nil (f (a + 0))
only_one f a (suc n) (suc k) lt none =
    let first : f a ≡ [] = ap f (let e : a ≡ a + 0 = omega arith in e) ∙ none 0 (omega arith) (omega arith) in
    let rest = only_one f (a + 1) n k (omega (arith, lt)) (λ j less other. ap f (let e : a + 1 + j ≡ a + suc j = omega arith in e) ∙ none (suc j) (omega (arith, less)) (omega (arith, other))) in
    (λ i. first i ++ rest i) ∙ ap f (let e : a + 1 + k ≡ a + suc k = omega arith in e)

module _ (units : List UnitHeader) (entries : List Entry) (short : length (pool_of units entries).names < 2 ^ 60) (area : ℕ) where
  abbrev names : List (List ℕ)
  names = (pool_of units entries).names

  abbrev count : ℕ
  count = slot_count (length names)

  abbrev slots : List ℕ
  slots = slots_of names

  -- the slot with this number, as it is read
  abbrev pub read : ℕ → Option Slot
  read k = slot_read units entries (area + 8 * k) (name_in_slot names slots k)

  abbrev pub all_read : List (Option Slot)
  all_read = map read (below count)

  read_size : length all_read ≡ count
  read_size = length-map-range_with_len read 0 count

  read_at : (k : ℕ) → k < count → get_or all_read k None ≡ read k
  read_at k lt = get_or-map-range_with_len read 0 count k k None lt (omega arith)

  or_none : (k : ℕ) → k < count → slot_or_none all_read k ≡ read k
  or_none k lt = unwrap_or-slice_get all_read k None ∙ read_at k lt

  -- the slot of the name with this number
  own_read : (k : ℕ) → k < length names → read (get_or slots k 0) ≡ Some (slot_of units entries (area + 8 * get_or slots k 0) (get_or names k []))
  own_read k lt = ap (slot_read units entries (area + 8 * get_or slots k 0)) (name_there names short k lt)

  names_ascend : Rises bytes_lt names
  unfolding index_names
  names_ascend = subst (Rises bytes_lt) (sym (names_of_pool units entries)) (ascending_rises bytes_lt bytes_order (map (λ e. e.name) (filter (λ e. not e.linkage) entries)))

  apart : (i j : ℕ) → i < j → j < length names → get_or names i [] ≡ get_or names j [] → ⊥
  apart i j lt within same =
      bytes_order.itself (get_or names j []) (sym (ap (λ (w : List ℕ). bytes_lt w (get_or names j [])) same) ∙ pairs_from_rises bytes_lt names names_ascend i j [] lt within)

  same_number : (i j : ℕ) → i < length names → j < length names → get_or names i [] ≡ get_or names j [] → i ≡ j
  same_number i j li lj same = ⊎_elim (λ (e : i ≡ j). e) (λ (o : (i < j) ⊎ (j < i)). ⊎_elim (λ (l : i < j). absurd (apart i j l lj same)) (λ (l : j < i). absurd (apart j i l li (sym same))) o) (cases_order i j)

  earlier_is_other : (i k : ℕ) → i < k → k < length names → is_other (get_or names k []) (slot_or_none all_read (get_or slots i 0)) ≡ true
  earlier_is_other i k lt within =
      let li : i < length names = omega (arith, lt, within) in
      let other : bytes_eq (get_or names i []) (get_or names k []) ≡ false = false_from_ne_true (bytes_eq (get_or names i []) (get_or names k [])) (λ same. apart i k lt within ((bytes_eq-Decides (get_or names i []) (get_or names k [])).0 same)) in
      ap (is_other (get_or names k [])) (or_none (get_or slots i 0) (slot_below names short i li) ∙ own_read i li) ∙ ap not other

  found : (k at : ℕ) → k < length names → is_found all_read (get_or slots k 0) (slot_of units entries at (get_or names k [])) ≡ true
  unfolding is_found
  found k at lt =
      let name : List ℕ = get_or names k [] in
      ap (λ (n : ℕ). list_all (λ o. is_other name (slot_or_none all_read o)) (places_before (get_or slots k 0) (path n name))) read_size
      ∙ path_leads names short (λ o. is_other name (slot_or_none all_read o)) k lt (λ i less. earlier_is_other i k less lt)

  slot_found : (k at : ℕ) (o : Option (List ℕ)) → name_in_slot names slots k ≡ o → reached all_read (k, slot_read units entries at o) ≡ Ok (record {})
  slot_found k at None e = refl
  slot_found k at (Some name) e =
      let s = in_slot names short k name e in
      let there : is_found all_read k (slot_of units entries at name) ≡ true = (λ i. is_found all_read (s.slot_is i) (slot_of units entries at (sym s.name_is i))) ∙ found s.number at s.within in
      ap (λ (b : Bool). holds_or b (fault GDB_LOST_SLOT at)) there

  -- no slot is lost
  pub all_reached : each (reached all_read) (enumerate_from 0 all_read) ≡ Ok (map (λ _. record {}) (enumerate_from 0 all_read))
  all_reached = fine (reached all_read) (enumerate_from 0 all_read) (λ k d lt.
      let within : k < length all_read = omega (arith, lt, length-enumerate_from 0 all_read) in
      let at : get_or (enumerate_from 0 all_read) k d ≡ (k, read k) = get_or-enumerate_from 0 all_read k d within ∙ (λ i. (zero-add k i, (get_or_default all_read k d.1 None within ∙ read_at k (omega (arith, within, read_size))) i)) in
      ap (reached all_read) at ∙ slot_found k (area + 8 * k) (name_in_slot names slots k) refl)

  -- ---- hits

  none_elsewhere : (name : List ℕ) (k : ℕ) (o : Option (List ℕ)) → ((other : List ℕ) → o ≡ Some other → other ≢ name) → elements_of name (slot_read units entries (area + 8 * k) o) ≡ []
  none_elsewhere name k None other = refl
  none_elsewhere name k (Some n) other =
      let apart : bytes_eq n name ≡ false = false_from_ne_true (bytes_eq n name) (λ same. other n refl ((bytes_eq-Decides n name).0 same)) in
      ap (λ (b : Bool). cond b (vector units entries n) []) apart

  -- a name of the index has its vector
  pub name_hits : (k : ℕ) → k < length names → flat_map (elements_of (get_or names k [])) all_read ≡ vector units entries (get_or names k [])
  name_hits k lt =
      let name : List ℕ = get_or names k [] in
      let slot : ℕ = get_or slots k 0 in
      flat_map-map (elements_of name) read (below count)
      ∙ only_one (λ j. elements_of name (read j)) 0 count slot (slot_below names short k lt) (λ i less other. ap (λ (j : ℕ). elements_of name (read j)) (zero-add i) ∙ none_elsewhere name i (name_in_slot names slots i) (λ n e same. other (elsewhere i n e same)))
      ∙ ap (λ (j : ℕ). elements_of name (read j)) (zero-add slot)
      ∙ ap (elements_of name) (own_read k lt)
      ∙ ap (λ (b : Bool). cond b (vector units entries name) []) ((bytes_eq-Decides name name).1 refl)
    where
      elsewhere : (i : ℕ) (n : List ℕ) → name_in_slot names slots i ≡ Some n → n ≡ get_or names k [] → i ≡ get_or slots k 0
      elsewhere i n e same =
          let s = in_slot names short i n e in
          s.slot_is ∙ ap (λ (j : ℕ). get_or slots j 0) (same_number s.number k s.within lt (s.name_is ∙ same))

  -- another name has nothing
  pub other_hits : (name : List ℕ) → ((k : ℕ) → k < length names → get_or names k [] ≢ name) → flat_map (elements_of name) all_read ≡ []
  other_hits name others =
      flat_map-map (elements_of name) read (below count)
      ∙ none_at_all (λ j. elements_of name (read j)) 0 count (λ i less. ap (λ (j : ℕ). elements_of name (read j)) (zero-add i) ∙ none_elsewhere name i (name_in_slot names slots i) (λ n e same. absurd (let s = in_slot names short i n e in others s.number s.within (s.name_is ∙ same))))
