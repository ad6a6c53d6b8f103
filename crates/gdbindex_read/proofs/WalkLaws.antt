-- Slots that are found on a walk along their path.
use Rattle.std.proofs.Common.{◌≡◌, ℕ, zero, suc, ◌+◌, ◌*◌, ◌%◌, ◌<◌, ◌≤◌, Bool, true, false, not, eqb, List, [], ◌∷◌, ◌++◌, length, get_or, Option, Some, None, IfSome, inl, inr, ⊎_elim, refl, sym, ap, subst, ◌∙◌, arith}
use mathlib.Core.Logic.{◌⊎◌}
use mathlib.Core.Bool.{true≢false}
use Rattle.std.specs.BTreeSet.{BTreeSet, contains}
use Rattle.std.specs.Ordering.{nat_cmp}
use Rattle.std.specs.Str.{bytes_eq}
use Rattle.std.proofs.lemmas.Bool.{cases_lt, eqb-true}
use Rattle.std.proofs.lemmas.Bool.Decides.{nat_tests}
use Rattle.std.proofs.lemmas.List.{get_or_append_left, get_or_past, get_or_push, length_push}
use Rattle.std.proofs.lemmas.Nat.{mod_below}
use Rattle.std.proofs.lemmas.Slice.Eq.{bytes_eq-Decides}
use Rattle.index_model.specs.Hashes.{gdb_hash, odd, slot_on_path}
use Rattle.index_model.specs.GdbIndexRead.{Slot, is_other, is_table_size, slot_or_none}
use Rattle.index_model.specs.GdbPath.{path_end}
use Rattle.index_model.proofs.PathLaws.{same_path}
use Rattle.gdbindex_read.specs.declared.homes.PathStart.{PathStart}
use Rattle.gdbindex_read.specs.Homes.{AreFound, AreHomes, IsHome, IsPrintAt}
use Rattle.gdbindex_read.specs.Slots.{is_found_from, is_reached}
use Rattle.gdbindex_read.proofs.Loops.{found_from, found_from_all, found_from_here, found_from_more}
use Rattle.gdbindex_read.proofs.Paths.{ends, is_found_there, path_end_is}
use Rattle.string_ends.specs.Tails.{print_of}

-- the slot with this home was passed on the path that begins with a slot, and its print is kept if the path is its own
pub record IsMet (homes : List (Option PathStart)) (begin : ℕ) (prints : BTreeSet ℕ) (k : ℕ) : Type 0 where
  pub home : PathStart
  pub there : get_or homes k None ≡ Some home
  pub kept : home.begin ≡ begin → contains nat_cmp prints home.print ≡ true

-- with more prints
pub met_still : (homes : List (Option PathStart)) (begin : ℕ) (prints more : BTreeSet ℕ) (k : ℕ) → ((n : ℕ) → contains nat_cmp prints n ≡ true → contains nat_cmp more n ≡ true) → IsMet homes begin prints k → IsMet homes begin more k
met_still homes begin prints more k keep m = record { home = m.home; there = m.there; kept = λ own. keep m.home.print (m.kept own) }

-- items that don't pass are left out at the front
skip_to : (p : ℕ → Bool) (g : ℕ → ℕ) (n k : ℕ) → k ≤ n → ((j : ℕ) → j < k → p (g j) ≡ false) → found_from p g 0 n ≡ found_from p g k n
skip_to p g n zero le none = refl
skip_to p g n (suc k) le none =
    let next : k + 1 ≡ suc k = omega arith in
    skip_to p g n k (omega (arith, le)) (λ j lt. none j (omega (arith, lt))) ∙ found_from_more p g k n (omega (arith, le)) (none k (omega arith)) ∙ ap (λ (m : ℕ). found_from p g m n) next

module _ (slots : List (Option Slot)) (homes : List (Option PathStart)) (begin : ℕ) (prints : BTreeSet ℕ) (are : AreHomes slots homes) (size : is_table_size (length slots) ≡ true) where
  abbrev on : ℕ → ℕ
  on j = slot_on_path (length homes) begin j

  module _ (i : ℕ) (within : i < length homes) (met : (j : ℕ) → j < i → IsMet homes begin prints (on j)) (h : PathStart) (there : get_or homes (on i) None ≡ Some h) (own : h.begin ≡ begin) where
    abbrev name : List ℕ
    name = (are.each (on i) h there).slot.name

    path_is : (j : ℕ) → slot_on_path (length homes) (gdb_hash name) j ≡ on j
    path_is j =
        let home = are.each (on i) h there in
        let from : gdb_hash name % length homes ≡ begin = ap (λ (n : ℕ). gdb_hash name % n) are.size ∙ sym home.begin ∙ own in
        sym (same_path (length homes) (gdb_hash name) j) ∙ ap (λ (b : ℕ). slot_on_path (length homes) b j) from

    -- a slot that was passed has another name
    other_name : contains nat_cmp prints h.print ≡ false → (j : ℕ) → j < i → ends slots name (on j) ≡ false
    other_name new j lt =
        let home = are.each (on i) h there in
        let m = met j lt in
        let passed = are.each (on j) m.home m.there in
        ap (λ (x : Option Slot). not (is_other name x)) passed.there ∙ by (bytes_eq passed.slot.name name) refl
      where
        by : (b : Bool) → bytes_eq (are.each (on j) (met j lt).home (met j lt).there).slot.name name ≡ b → not (not (bytes_eq (are.each (on j) (met j lt).home (met j lt).there).slot.name name)) ≡ false
        by false e = ap (λ (b : Bool). not (not b)) e
        by true e =
            let home = are.each (on i) h there in
            let m = met j lt in
            let passed = are.each (on j) m.home m.there in
            let same : passed.slot.name ≡ name = (bytes_eq-Decides passed.slot.name name).0 e in
            let begins = passed.begin ∙ ap (λ (n : List ℕ). gdb_hash n % length slots) same ∙ sym home.begin ∙ own in
            let print = passed.print ∙ ap print_of same ∙ sym home.print in
            absurd (true≢false (sym (m.kept begins) ∙ ap (contains nat_cmp prints) print ∙ new))

    own_name : ends slots name (on i) ≡ true
    own_name =
        let home = are.each (on i) h there in
        ap (λ (x : Option Slot). not (is_other name x)) home.there ∙ ap (λ (b : Bool). not (not b)) ((bytes_eq-Decides name name).1 refl)

    ends_here : contains nat_cmp prints h.print ≡ false → path_end slots name ≡ Some (on i)
    ends_here new =
        let n : ℕ = length homes in
        let g = slot_on_path n (gdb_hash name) in
        path_end_is slots name n (sym are.size)
        ∙ sym (found_from_all (ends slots name) g n)
        ∙ skip_to (ends slots name) g n i (omega (arith, within)) (λ j lt. ap (ends slots name) (path_is j) ∙ other_name new j lt)
        ∙ found_from_here (ends slots name) g i n within (ap (ends slots name) (path_is i) ∙ own_name)
        ∙ ap (λ (k : ℕ). Some k) (path_is i)

    -- the first slot with its print is found by its name
    first_is_found : contains nat_cmp prints h.print ≡ false → is_reached slots (on i) ≡ true
    first_is_found new =
        let home = are.each (on i) h there in
        let some : 0 < length homes = omega (arith, within) in
        let inside : on i < length slots = omega (arith, are.size, mod_below (begin + i * odd (begin * 17 % length homes)) (length homes) some) in
        ap (is_found_from slots (on i)) home.there ∙ is_found_there slots (on i) home.slot size inside home.there (ends_here new)

    -- what was found, and the next slot of the path if it is the first with its print
    pub still_found : (place : ℕ) → place ≡ on i → (old more : List Bool) → AreFound slots old → ((k : ℕ) → get_or more k false ≡ true → (get_or old k false ≡ true) ⊎ (k ≡ place) × (contains nat_cmp prints h.print ≡ false)) → AreFound slots more
    still_found place here old more found marked k is = ⊎_elim
        (λ (was : get_or old k false ≡ true). found k was)
        (λ (next : (k ≡ place) × (contains nat_cmp prints h.print ≡ false)). subst (λ (x : ℕ). is_reached slots x ≡ true) (sym (next.0 ∙ here)) (first_is_found next.1))
        (marked k is)

-- ---- the homes of slots, one after the other

pub homes_more : (slots : List (Option Slot)) (homes : List (Option PathStart)) (new : Option PathStart) (n : ℕ) → length homes ≡ n → ((k : ℕ) (h : PathStart) → get_or homes k None ≡ Some h → IsHome slots k h) → IfSome new (IsHome slots n)
    → (k : ℕ) (h : PathStart) → get_or (homes ++ new ∷ []) k None ≡ Some h → IsHome slots k h
homes_more slots homes new n size each last k h is = elim (cases_lt k n) as (λ _. IsHome slots k h) [
  | inl before ↦ each k h (sym (get_or_append_left homes (new ∷ []) None k (omega (arith, before, size))) ∙ is)
  | inr behind ↦ by (eqb k n) refl behind
]
  where
    by : (b : Bool) → eqb k n ≡ b → n ≤ k → IsHome slots k h
    by true e behind =
        let same = eqb-true k n e in
        let own : new ≡ Some h = sym (get_or_push homes new None k (size ∙ sym same)) ∙ is in
        subst (λ (j : ℕ). IsHome slots j h) (sym same) (subst (λ (o : Option PathStart). IfSome o (IsHome slots n)) own last)
    by false e behind =
        let more : n < k = grind (arith, nat_tests) in
        let clash : None ≡ Some h = sym (get_or_past (homes ++ new ∷ []) k None (omega (arith, length_push homes new, size, more))) ∙ is in
        absurd cc

-- a slot whose print is another than that of a name has another name
pub told_other : (slots : List (Option Slot)) (k print : ℕ) (name : List ℕ) → IsPrintAt slots k print → (print ≡ print_of name → ⊥) → is_other name (slot_or_none slots k) ≡ true
told_other slots k print name (slot, there, is) ne = ap (is_other name) there ∙ by (bytes_eq slot.name name) refl
  where
    by : (b : Bool) → bytes_eq slot.name name ≡ b → not (bytes_eq slot.name name) ≡ true
    by false e = ap not e
    by true e = absurd (ne (is ∙ ap print_of ((bytes_eq-Decides slot.name name).0 e)))

-- the print at the place of a slot is that of its name
pub own_print : (slots : List (Option Slot)) (k : ℕ) (print : Option ℕ) → IfSome print (IsPrintAt slots k) → (slot : Slot) (name : List ℕ) → slot_or_none slots k ≡ Some slot → name ≡ slot.name → IfSome print (λ p. p ≡ print_of name)
own_print slots k None is slot text there named = record {}
own_print slots k (Some p) (other, at, is) slot text there named =
    let both : Some other ≡ Some slot = sym at ∙ there in
    let same : other ≡ slot = cc in
    is ∙ ap (λ (s : Slot). print_of s.name) same ∙ ap print_of (sym named)
