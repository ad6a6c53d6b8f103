-- Every name has a slot of its own.
use Rattle.std.proofs.Common.{◌≡◌, ℕ, zero, suc, ◌+◌, ◌*◌, ◌^◌, ◌<◌, Bool, true, false, not, cond, eqb, leb, List, [], ◌∷◌, length, map, find, Some, unwrap_or, IsSome, refl, arith, ap, sym, subst, ◌∙◌}
use Rattle.std.specs.List.{list_any, range_with_len}
use Rattle.std.proofs.lemmas.Bool.{leb-true, not-true}
use Rattle.std.proofs.lemmas.Bool.Decides.{nat_tests}
use Rattle.std.proofs.lemmas.List.Folds.{list_any_at}
use Rattle.std.proofs.lemmas.List.FromFn.{length-map-range_with_len, get_or-map-range_with_len}
use Rattle.std.proofs.lemmas.Nat.{mod_below, pow_pos}
use Rattle.index_model.specs.Hashes.{path, gdb_hash, slot_on_path}
use Rattle.index_model.specs.GdbSlots.{slot_count, slots_of, slots_behind, ArePlaced, AreOwn}
use Rattle.index_model.proofs.PathLaws.{each_is_placed, found_one}

found_passes : (p : ℕ → Bool) (xs : List ℕ) (x : ℕ) → find p xs ≡ Some x → p x ≡ true
found_passes p [] x e = absurd cc
found_passes p (y ∷ ys) x e = elim (p y) as (λ b. p y ≡ b → cond b (Some y) (find p ys) ≡ Some x → p x ≡ true) [
  | true ↦ λ is same. let s : y ≡ x = cc in ap p (sym s) ∙ is
  | false ↦ λ _ more. found_passes p ys x more
] refl e

found_below : (p : ℕ → Bool) (f : ℕ → ℕ) (a n m x : ℕ) → ((k : ℕ) → f k < m) → find p (map f (range_with_len a n)) ≡ Some x → x < m
found_below p f a zero m x low e = absurd cc
found_below p f a (suc n) m x low e = elim (p (f a)) as (λ b. cond b (Some (f a)) (find p (map f (range_with_len (a + 1) n))) ≡ Some x → x < m) [
  | true ↦ λ same. let s : f a ≡ x = cc in omega (arith, low a)
  | false ↦ λ more. found_below p f (a + 1) n m x low more
] e

own_slots : (slots : ℕ) (taken : List ℕ) (names : List (List ℕ)) (ss : List ℕ) → 0 < slots → ArePlaced slots taken names ss → AreOwn slots taken ss
unfolding path
own_slots slots taken [] [] pos p = tt
own_slots slots taken [] (s ∷ ss) pos p = absurd p
own_slots slots taken (n ∷ ns) [] pos p = absurd p
own_slots slots taken (n ∷ ns) (s ∷ ss) pos p =
    let free : not (list_any (eqb s) taken) ≡ true = found_passes (λ s. not (list_any (eqb s) taken)) (path slots n) s p.0 in
    (found_below (λ s. not (list_any (eqb s) taken)) (slot_on_path slots (gdb_hash n)) 0 slots slots s (λ k. mod_below _ slots pos) p.0, not-true _ free, own_slots slots (s ∷ taken) ns ss pos p.1)

record Power (p : ℕ → Bool) (x : ℕ) : Type 0 where
  pub k : ℕ
  pub is : x ≡ 2 ^ k
  pub passes : p (2 ^ k) ≡ true

power_found : (p : ℕ → Bool) (a n : ℕ) → IsSome (find p (map (λ k. 2 ^ k) (range_with_len a n))) → Power p (unwrap_or (find p (map (λ k. 2 ^ k) (range_with_len a n))) 0)
power_found p a zero some = absurd cc
power_found p a (suc n) some = elim (p (2 ^ a)) as (λ b. p (2 ^ a) ≡ b → IsSome (cond b (Some (2 ^ a)) (find p (map (λ k. 2 ^ k) (range_with_len (a + 1) n)))) → Power p (unwrap_or (cond b (Some (2 ^ a)) (find p (map (λ k. 2 ^ k) (range_with_len (a + 1) n)))) 0)) [
  | true ↦ λ is _. record { k = a; is = refl; passes = is }
  | false ↦ λ _ more. power_found p (a + 1) n more
] refl some

-- the slots of fewer than 2 ^ 60 names are a power of two, more than the names
record Slots (n : ℕ) : Type 0 where
  pub k : ℕ
  pub is : slot_count n ≡ 2 ^ k
  pub enough : n < 2 ^ k

slots_are : (n : ℕ) → 0 < n → n < 2 ^ 60 → Slots n
unfolding slot_count
slots_are n pos small =
    let p : ℕ → Bool = λ s. leb (4 * n) (3 * s) in
    let last : p (2 ^ 63) ≡ true = grind (arith, nat_tests) in
    let some = found_one p (map (λ k. 2 ^ k) (range_with_len 0 64)) (list_any_at p (map (λ k. 2 ^ k) (range_with_len 0 64)) 63 0 (omega (arith, length-map-range_with_len (λ (k : ℕ). 2 ^ k) 0 64)) (ap p (get_or-map-range_with_len (λ (k : ℕ). 2 ^ k) 0 64 63 63 0 (omega arith) refl) ∙ last)) in
    let f = power_found p 0 64 some in
    let not_none : eqb n 0 ≡ false = grind (arith, nat_tests) in
    record { k = f.k; is = rw not_none f.is; enough = omega (arith, leb-true _ _ f.passes) }

abbrev EachHasItsSlot : List (List ℕ) → ℕ → Type 0
EachHasItsSlot names slots = ArePlaced slots [] names (slots_behind slots [] names) × AreOwn slots [] (slots_behind slots [] names)

at_power : (names : List (List ℕ)) (k : ℕ) → length names < 2 ^ k → EachHasItsSlot names (2 ^ k)
at_power names k enough =
    let placed = each_is_placed k [] names (omega (arith, enough)) in
    (placed, own_slots (2 ^ k) [] names (slots_behind (2 ^ k) [] names) (pow_pos k) placed)

no_names : (slots : ℕ) → EachHasItsSlot [] slots
unfolding slots_behind
no_names slots = (tt, tt)

-- each name's slot is the first free one on its path, within the table, and its own
pub each_name_has_its_slot : (names : List (List ℕ)) → length names < 2 ^ 60 → ArePlaced (slot_count (length names)) [] names (slots_of names) × AreOwn (slot_count (length names)) [] (slots_of names)
unfolding slots_of
each_name_has_its_slot [] small = no_names (slot_count 0)
each_name_has_its_slot (n ∷ ns) small =
    let s = slots_are (length (n ∷ ns)) (omega arith) small in
    subst (EachHasItsSlot (n ∷ ns)) (sym s.is) (at_power (n ∷ ns) s.k s.enough)
