-- Where the path of a name leads.
use Rattle.std.proofs.Common.{◌≡◌, ℕ, ◌+◌, ◌*◌, ◌^◌, ◌%◌, ◌/◌, ◌<◌, ◌≤◌, max, Bool, true, false, not, ◌||◌, cond, eqb, List, [], ◌∷◌, length, map, find, Option, Some, None, refl, arith, ap, sym, subst, ◌∙◌, add_comm}
use Rattle.std.specs.List.{list_any, range_with_len}
use Rattle.std.specs.Option.{option_eq}
use Rattle.std.specs.Str.{bytes_eq}
use Rattle.std.proofs.lemmas.Bool.{eqb-true, eq-eqb}
use Rattle.std.proofs.lemmas.List.Folds.{list_any_at}
use Rattle.std.proofs.Math.Nat.{add-mod-mod}
use Rattle.std.proofs.lemmas.Nat.{mod_below}
use Rattle.std.proofs.lemmas.Slice.Eq.{bytes_eq-Decides}
use lib.Bits.{bit_or, or_step, or_zero_r}
use Rattle.index_model.specs.Layout.{below}
use Rattle.index_model.specs.Hashes.{gdb_hash, odd, path, slot_on_path}
use Rattle.index_model.specs.GdbIndexRead.{Slot, elements_of, is_found, is_other, is_table_size, slot_or_none}
use Rattle.index_model.specs.GdbPath.{elements_at, path_end}
use Rattle.index_model.proofs.PathLaws.{path_has_each_slot}
use Rattle.index_model.proofs.LookupLaws.{found_at}
use Rattle.index_model.proofs.PassedOver.{passed_over}

-- ---- one place after the other

pub next_place : (slots hash i step : ℕ) → step ≡ odd (hash * 17 % slots) → (slot_on_path slots hash i + step) % slots ≡ slot_on_path slots hash (i + 1)
next_place slots hash i step e =
    let turned : (slot_on_path slots hash i + step) % slots ≡ (step + (hash + i * odd (hash * 17 % slots)) % slots) % slots = ap (λ (x : ℕ). x % slots) (add_comm (slot_on_path slots hash i) step) in
    turned ∙ add-mod-mod step (hash + i * odd (hash * 17 % slots)) slots
    ∙ ap (λ (x : ℕ). x % slots) (joined step (odd (hash * 17 % slots)) e)
  where
    joined : (s t : ℕ) → s ≡ t → s + (hash + i * t) ≡ hash + (i + 1) * t
    joined s t e = omega (arith, e)

pub on_table : (slots hash i : ℕ) → 0 < slots → slot_on_path slots hash i < slots
on_table slots hash i lt = mod_below (hash + i * odd (hash * 17 % slots)) slots lt

pub step_fits : (slots n : ℕ) → 0 < slots → odd (n % slots) ≤ slots
step_fits slots n lt = omega (arith, mod_below n slots lt)

pub place_within : (place slots hash i n : ℕ) → place ≡ slot_on_path slots hash i → (slots ≡ 0 → ⊥) → slots ≡ n → place < n
place_within place slots hash i n e some size =
    let pos : 0 < slots = omega (arith, some) in
    let lt : place < slots = subst (λ (x : ℕ). x < slots) (sym e) (on_table slots hash i pos) in
    omega (arith, lt, size)

pub next_on_path : (place step s slots hash i : ℕ) → place ≡ slot_on_path slots hash i → step ≡ odd (hash * 17 % slots) → s ≡ slots → (place + step) % s ≡ slot_on_path slots hash (i + 1)
next_on_path place step s slots hash i here is same =
    ap (λ (x : ℕ). (place + step) % x) same ∙ ap (λ (x : ℕ). (x + step) % slots) here ∙ next_place slots hash i step is

-- ---- where a path ends

module _ (slots : List (Option Slot)) (name : List ℕ) where
  -- the slot at a place is empty or has the name
  abbrev pub ends : ℕ → Bool
  ends k = not (is_other name (slot_or_none slots k))

  pub path_end_is : (n : ℕ) → length slots ≡ n → path_end slots name ≡ find ends (map (slot_on_path n (gdb_hash name)) (range_with_len 0 n))
  unfolding path
  path_end_is n e = ap (λ (m : ℕ). find ends (map (slot_on_path m (gdb_hash name)) (below m))) e

-- what is found passes
pub found_passes : (p : ℕ → Bool) (xs : List ℕ) (k : ℕ) → find p xs ≡ Some k → p k ≡ true
found_passes p [] k e = absurd cc
found_passes p (x ∷ xs) k e = elim (p x) as (λ b. p x ≡ b → cond b (Some x) (find p xs) ≡ Some k → p k ≡ true) [
  | true ↦ λ is h. let same : x ≡ k = cc in ap p (sym same) ∙ is
  | false ↦ λ _ h. found_passes p xs k h
] refl e

-- ---- what is found at the end of a path

module _ (slots : List (Option Slot)) (name : List ℕ) (k : ℕ) (end : path_end slots name ≡ Some k) where
  at_end : (x : Option Slot) → slot_or_none slots k ≡ x → elements_at slots name (path_end slots name) ≡ elements_of name x
  at_end x e = ap (elements_at slots name) end ∙ ap (elements_of name) e

  same_name : (x : Slot) → not (is_other name (Some x)) ≡ true → bytes_eq x.name name ≡ true
  same_name x e = twice (bytes_eq x.name name) e
    where
      twice : (b : Bool) → not (not b) ≡ true → b ≡ true
      twice true e = refl
      twice false e = absurd cc

  pub found_elements : (x : Slot) → slot_or_none slots k ≡ Some x → elements_at slots name (path_end slots name) ≡ x.elements
  found_elements x e =
      let passes : not (is_other name (slot_or_none slots k)) ≡ true = found_passes (ends slots name) (path (length slots) name) k end in
      let same : bytes_eq x.name name ≡ true = same_name x (ap (λ (y : Option Slot). not (is_other name y)) (sym e) ∙ passes) in
      at_end (Some x) e ∙ ap (λ (b : Bool). cond b x.elements []) same

  pub found_nothing : slot_or_none slots k ≡ None → elements_at slots name (path_end slots name) ≡ []
  found_nothing e = at_end None e

-- ---- a slot is found

power_size : (n k : ℕ) → is_table_size n ≡ true → k < n → (j : ℕ) × (n ≡ 2 ^ j)
unfolding is_table_size
power_size n k e lt = elim (eqb n 0) as (λ b. eqb n 0 ≡ b → (b || list_any (λ j. eqb n (2 ^ j)) (below 32)) ≡ true → (j : ℕ) × (n ≡ 2 ^ j)) [
  | true ↦ λ none _. absurd (omega (arith, eqb-true n 0 none, lt))
  | false ↦ λ _ more. some_power (below 32) more
] refl e
  where
    some_power : (js : List ℕ) → list_any (λ j. eqb n (2 ^ j)) js ≡ true → (j : ℕ) × (n ≡ 2 ^ j)
    some_power [] e = absurd cc
    some_power (j ∷ js) e = elim (eqb n (2 ^ j)) as (λ b. eqb n (2 ^ j) ≡ b → (b || list_any (λ j. eqb n (2 ^ j)) js) ≡ true → (j : ℕ) × (n ≡ 2 ^ j)) [
      | true ↦ λ is _. (j, eqb-true n (2 ^ j) is)
      | false ↦ λ _ more. some_power js more
    ] refl e

eqb_self : (n : ℕ) → eqb n n ≡ true
eqb_self n = eq-eqb n n refl

module _ (slots : List (Option Slot)) (k : ℕ) (slot : Slot) (size : is_table_size (length slots) ≡ true) (within : k < length slots) (here : slot_or_none slots k ≡ Some slot) where
  abbrev others : ℕ → Bool
  others o = is_other slot.name (slot_or_none slots o)

  own : is_other slot.name (slot_or_none slots k) ≡ false
  own = ap (is_other slot.name) here ∙ ap not ((bytes_eq-Decides slot.name slot.name).1 refl)

  on_path : list_any (λ o. eqb o k) (path (length slots) slot.name) ≡ true
  on_path =
      let j = power_size (length slots) k size within in
      let on = path_has_each_slot j.0 slot.name k (subst (λ (n : ℕ). k < n) j.1 within) in
      let there : list_any (λ o. eqb o k) (path (2 ^ j.0) slot.name) ≡ true = list_any_at (λ o. eqb o k) (path (2 ^ j.0) slot.name) on.0 k on.1 (ap (λ (o : ℕ). eqb o k) on.2 ∙ eqb_self k) in
      subst (λ (n : ℕ). list_any (λ o. eqb o k) (path n slot.name) ≡ true) (sym j.1) there

  -- the path of its name ends at a slot, where it is found
  pub ends_there : is_found slots k slot ≡ true → path_end slots slot.name ≡ Some k
  unfolding is_found
  ends_there e = found_at others k (path (length slots) slot.name) on_path e own

  pub is_found_there : path_end slots slot.name ≡ Some k → is_found slots k slot ≡ true
  unfolding is_found
  is_found_there e = passed_over others others k (path (length slots) slot.name) e (λ s passed. passed)

  -- a slot is found exactly where the path of its name ends at it
  pub found_is : (end : Option ℕ) → end ≡ path_end slots slot.name → option_eq eqb end (Some k) ≡ is_found slots k slot
  found_is end e = by (is_found slots k slot) refl
    where
      off : (o : Option ℕ) → o ≡ path_end slots slot.name → is_found slots k slot ≡ false → option_eq eqb o (Some k) ≡ false
      off None e lost = refl
      off (Some j) e lost = elim (eqb j k) as (λ b. eqb j k ≡ b → b ≡ false) [
        | true ↦ λ same.
            let there : is_found slots k slot ≡ true = is_found_there (sym e ∙ ap (λ (x : ℕ). Some x) (eqb-true j k same)) in
            sym there ∙ lost
        | false ↦ λ _. refl
      ] refl

      by : (b : Bool) → is_found slots k slot ≡ b → option_eq eqb end (Some k) ≡ b
      by true is = ap (λ (o : Option ℕ). option_eq eqb o (Some k)) (e ∙ ends_there is) ∙ eqb_self k
      by false lost = off end e lost

-- ---- the step of a path

pub odd_or : (n : ℕ) → bit_or n 1 ≡ odd n
odd_or n =
    let e : bit_or n 1 ≡ bit_or (n / 2) 0 * 2 + max (n % 2) 1 = or_step n 1 in
    omega (arith, e, or_zero_r (n / 2))
