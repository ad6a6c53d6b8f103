-- Each name goes into the first slot on its path that no name before it has.
use Rattle.std.proofs.Common.{◌≡◌, ◌≢◌, ℕ, zero, suc, ◌+◌, ◌*◌, ◌^◌, ◌%◌, ◌<◌, ◌≤◌, Bool, true, false, not, eqb, leb, List, [], ◌∷◌, ◌++◌, length, get_or, set, take, replicate, map, find, position, Option, Some, None, is_some, unwrap_or, refl, sym, ap, ◌∙◌, arith}
use mathlib.Core.Bool.{◌||◌, true≢false}
use Rattle.std.specs.List.{list_any}
use Rattle.std.proofs.lemmas.Bool.Decides.{nat_tests}
use Rattle.std.proofs.lemmas.List.{take_more, take_all, length-take-le, length-set, length-replicate, get_or-replicate, get_or-set_same, get_or-set_other}
use Rattle.std.proofs.lemmas.List.FromFn.{length-map-range_with_len, get_or-map-range_with_len, fill_by_all}
use Rattle.std.proofs.lemmas.Nat.{mod_below}
use Rattle.std.proofs.Math.Nat.{mod-add-mod}
use Rattle.std.proofs.lemmas.Bool.{or_parts, le-leb, lt-leb}
use Rattle.index_model.specs.Layout.{below}
use Rattle.index_model.specs.Hashes.{path, gdb_hash, odd, slot_on_path}
use Rattle.index_model.specs.GdbSlots.{slot_count, slots_of, slots_behind, free_slot, AreOwn, ArePlaced}
use Rattle.index_model.proofs.PathLaws.{same_path}
use Rattle.index_model.proofs.SlotLaws.{each_name_has_its_slot}
use Rattle.gdbindex_write.specs.Slots.{is_free, numbers_at}
use Rattle.gdbindex_write.proofs.PositionLaws.{is_some_position, position_push, position_keep, find_same, find_below}

pub slots_length : (slots : ℕ) (taken : List ℕ) (names : List (List ℕ)) → length (slots_behind slots taken names) ≡ length names
unfolding slots_behind
slots_length slots taken [] = refl
slots_length slots taken (n ∷ ns) = ap suc (slots_length slots (unwrap_or (free_slot slots taken n) 0 ∷ taken) ns)

pub slots_length_of : (names : List (List ℕ)) → length (slots_of names) ≡ length names
unfolding slots_of
slots_length_of names = slots_length (slot_count (length names)) [] names

-- ---- the slot of one name

or_false : (b : Bool) → (b || false) ≡ b
or_false true = refl
or_false false = refl

regroup : (a t r : Bool) → ((a || t) || r) ≡ (t || (a || r))
regroup true true r = refl
regroup true false r = refl
regroup false t r = refl

-- a placed name has the first slot on its path that isn't taken and that no name before it has
placed_at : (slots : ℕ) (taken : List ℕ) (names : List (List ℕ)) (ss : List ℕ) (k : ℕ) → ArePlaced slots taken names ss → k < length names
    → find (λ s. not (list_any (eqb s) taken || list_any (eqb s) (take k ss))) (path slots (get_or names k [])) ≡ Some (get_or ss k 0)
placed_at slots taken [] ss k placed lt = absurd (omega arith)
placed_at slots taken (n ∷ ns) [] k placed lt = absurd placed
placed_at slots taken (n ∷ ns) (s ∷ ss) zero placed lt = (λ i. find (λ x. not (or_false (list_any (eqb x) taken) i)) (path slots n)) ∙ placed.0
placed_at slots taken (n ∷ ns) (s ∷ ss) (suc k) placed lt =
    let rest : List ℕ = take k ss in
    (λ i. find (λ x. not (sym (regroup (eqb x s) (list_any (eqb x) taken) (list_any (eqb x) rest)) i)) (path slots (get_or ns k [])))
    ∙ placed_at slots (s ∷ taken) ns ss k placed.1 (omega arith)

-- ---- slots that no two names share

record Own (slots : ℕ) (taken ss : List ℕ) (k : ℕ) : Type 0 where
  pub within : get_or ss k 0 < slots
  pub free : list_any (eqb (get_or ss k 0)) taken ≡ false
  pub apart : list_any (eqb (get_or ss k 0)) (take k ss) ≡ false

own_at : (slots : ℕ) (taken ss : List ℕ) (k : ℕ) → AreOwn slots taken ss → k < length ss → Own slots taken ss k
own_at slots taken [] k own lt = absurd (omega arith)
own_at slots taken (s ∷ ss) zero own lt = record { within = own.0; free = own.1; apart = refl }
own_at slots taken (s ∷ ss) (suc k) own lt =
    let rest = own_at slots (s ∷ taken) ss k own.2 (omega arith) in
    let x : ℕ = get_or ss k 0 in
    let other : eqb x s ≡ false = (or_parts (eqb x s) (list_any (eqb x) taken) rest.free).0 in
    record { within = rest.within; free = (or_parts (eqb x s) (list_any (eqb x) taken) rest.free).1; apart = (λ i. other i || rest.apart i) }

-- ---- the table

module _ (count : ℕ) (ss : List ℕ) where
  number_at : (s : ℕ) → s < count → get_or (numbers_at count ss) s None ≡ position (eqb s) ss
  number_at s lt = get_or-map-range_with_len (λ (s : ℕ). position (eqb s) ss) 0 count s s None lt (omega arith)

  pub free_is : (s : ℕ) → s < count → is_free (numbers_at count ss) s ≡ not (list_any (eqb s) ss)
  free_is s lt = ap (λ (o : Option ℕ). not (is_some o)) (number_at s lt) ∙ ap not (is_some_position (eqb s) ss)

  pub numbers_length : length (numbers_at count ss) ≡ count
  numbers_length = length-map-range_with_len (λ (s : ℕ). position (eqb s) ss) 0 count

  -- one name more
  pub numbers_push : (s : ℕ) → s < count → list_any (eqb s) ss ≡ false → set (numbers_at count ss) s (Some (length ss)) ≡ numbers_at count (ss ++ s ∷ [])
  numbers_push s lt apart = fill_by_all (λ (j : ℕ). position (eqb j) (ss ++ s ∷ [])) (set (numbers_at count ss) s (Some (length ss))) count None (length-set (numbers_at count ss) s (Some (length ss)) ∙ numbers_length) each
    where
      each : (j : ℕ) → j < count → get_or (set (numbers_at count ss) s (Some (length ss))) j None ≡ position (eqb j) (ss ++ s ∷ [])
      each j less = by (eqb j s) refl
        where
          by : (b : Bool) → eqb j s ≡ b → get_or (set (numbers_at count ss) s (Some (length ss))) j None ≡ position (eqb j) (ss ++ s ∷ [])
          by true e =
              let is : j ≡ s = grind (arith, nat_tests) in
              let own : list_any (eqb j) ss ≡ false = ap (λ (w : ℕ). list_any (eqb w) ss) is ∙ apart in
              let within : s < length (numbers_at count ss) = omega (arith, numbers_length) in
              ap (λ (w : ℕ). get_or (set (numbers_at count ss) s (Some (length ss))) w None) is ∙ get_or-set_same (numbers_at count ss) s (Some (length ss)) None within ∙ sym (position_push (eqb j) ss s own e)
          by false e =
              let other : j ≢ s = λ is. true≢false (sym (let same : eqb j s ≡ true = grind (arith, nat_tests) in same) ∙ e) in
              get_or-set_other (numbers_at count ss) s j (Some (length ss)) None other ∙ number_at j less ∙ sym (position_keep (eqb j) ss s e)

-- ---- along a path

pub path_first : (slots hash : ℕ) → hash % slots ≡ slot_on_path slots hash 0
path_first slots hash =
    let step = odd (hash * 17 % slots) in
    let start : hash ≡ hash + 0 * step = omega arith in
    ap (λ (n : ℕ). n % slots) start

pub path_next : (slots hash i : ℕ) → (slot_on_path slots hash i + odd (hash * 17 % slots)) % slots ≡ slot_on_path slots hash (i + 1)
path_next slots hash i = along (odd (hash * 17 % slots))
  where
    along : (step : ℕ) → ((hash + i * step) % slots + step) % slots ≡ (hash + (i + 1) * step) % slots
    along step =
        let next : (hash + i * step) + step ≡ hash + (i + 1) * step = omega arith in
        mod-add-mod (hash + i * step) slots step ∙ ap (λ (n : ℕ). n % slots) next

-- ---- the loop over names

module _ (names : List (List ℕ)) (small : length names < 2 ^ 60) where
  abbrev count : ℕ
  count = slot_count (length names)

  -- the slot that is found in the table so far is the name's own
  pub found_slot : (k hash : ℕ) → k < length names → 0 < count → hash ≡ gdb_hash (get_or names k [])
      → find (is_free (numbers_at count (take k (slots_of names)))) (map (slot_on_path count (hash % count)) (below count)) ≡ Some (get_or (slots_of names) k 0)
  unfolding slots_of path
  found_slot k hash lt some is =
      let ss = take k (slots_behind count [] names) in
      let free = λ (s : ℕ). not (list_any (eqb s) ss) in
      find_same (is_free (numbers_at count ss)) free (slot_on_path count (hash % count)) (below count) (λ i. free_is count ss (slot_on_path count (hash % count) i) (mod_below _ count some))
      ∙ (λ i. find free (map (λ j. same_path count hash j i) (below count)))
      ∙ ap (λ (h : ℕ). find free (map (slot_on_path count h) (below count))) is
      ∙ placed_at count [] names (slots_behind count [] names) k (each_name_has_its_slot names small).0 lt

  own_slot : (k : ℕ) → k < length names → Own count [] (slots_of names) k
  unfolding slots_of
  own_slot k lt = own_at count [] (slots_of names) k (each_name_has_its_slot names small).1 (omega (arith, slots_length count [] names))

  pub slot_within : (k : ℕ) → k < length names → get_or (slots_of names) k 0 < count
  slot_within k lt = (own_slot k lt).within

  pub all_slots : (k : ℕ) → length names ≤ k → numbers_at count (take k (slots_of names)) ≡ numbers_at count (slots_of names)
  unfolding slots_of
  all_slots k le = ap (numbers_at count) (take_all k (slots_behind count [] names) (omega (arith, slots_length count [] names)))

  -- one name more in the table
  pub table_more : (k : ℕ) → k < length names → set (numbers_at count (take k (slots_of names))) (get_or (slots_of names) k 0) (Some k) ≡ numbers_at count (take (k + 1) (slots_of names))
  unfolding slots_of
  table_more k lt =
      let ss = slots_behind count [] names in
      let within : k < length ss = omega (arith, slots_length count [] names) in
      let own = own_slot k lt in
      let size : length (take k ss) ≡ k = length-take-le k ss (omega arith) in
      ap (λ (n : ℕ). set (numbers_at count (take k ss)) (get_or ss k 0) (Some n)) (sym size) ∙ numbers_push count (take k ss) (get_or ss k 0) own.within own.apart ∙ ap (numbers_at count) (sym (take_more ss k 0 within))

-- ---- how many slots there are

pub count_is : (n k : ℕ) → 0 < n → k < 64 → ((j : ℕ) → j < k → leb (4 * n) (3 * 2 ^ j) ≡ false) → leb (4 * n) (3 * 2 ^ k) ≡ true → slot_count n ≡ 2 ^ k
unfolding slot_count
count_is n k some lt before is =
    let not_none : eqb n 0 ≡ false = grind (arith, nat_tests) in
    rw (not_none, find_below (λ s. leb (4 * n) (3 * s)) (λ j. 2 ^ j) 64 k lt before is) refl

-- ---- the empty table

pub no_numbers : (count : ℕ) → replicate count None ≡ numbers_at count []
no_numbers count = fill_by_all (λ (s : ℕ). position (eqb s) []) (replicate count None) count None (length-replicate count None) (λ k lt. get_or-replicate count k None None lt)

-- the first doubled number of slots that is enough
pub count_of : (n doubled slots : ℕ) → 0 < n → doubled < 34 → slots ≡ 2 ^ doubled → ((j : ℕ) → j < doubled → 3 * 2 ^ j < 4 * n) → 4 * n ≤ 3 * slots → slots ≡ slot_count n
count_of n doubled slots some lt is before enough =
    let own : 4 * n ≤ 3 * 2 ^ doubled = omega (arith, ap (λ (s : ℕ). 3 * s) is, enough) in
    let passes : leb (4 * n) (3 * 2 ^ doubled) ≡ true = le-leb (4 * n) (3 * 2 ^ doubled) own in
    is ∙ sym (count_is n doubled some (omega arith) (λ j less. lt-leb (4 * n) (3 * 2 ^ j) (before j less)) passes)

pub no_slots : slot_count 0 ≡ 0
unfolding slot_count
no_slots = refl

-- ---- the slot that the table gives

pub found_in : (names : List (List ℕ)) → length names < 2 ^ 60 → (k hash begin : ℕ) (slots : List (Option ℕ)) → k < length names → hash ≡ gdb_hash (get_or names k []) → begin ≡ hash % slot_count (length names) → slots ≡ numbers_at (slot_count (length names)) (take k (slots_of names))
    → find (is_free slots) (map (slot_on_path (length slots) begin) (below (length slots))) ≡ Some (get_or (slots_of names) k 0)
found_in names small k hash begin slots lt is begins made =
    let count : ℕ = slot_count (length names) in
    let front : List ℕ = take k (slots_of names) in
    let some : 0 < count = omega (arith, slot_within names small k lt) in
    ap (λ (s : List (Option ℕ)). find (is_free s) (map (slot_on_path (length s) begin) (below (length s)))) made
    ∙ ap (λ (n : ℕ). find (is_free (numbers_at count front)) (map (slot_on_path n begin) (below n))) (numbers_length count front)
    ∙ ap (λ (b : ℕ). find (is_free (numbers_at count front)) (map (slot_on_path count b) (below count))) begins
    ∙ found_slot names small k hash lt some is
