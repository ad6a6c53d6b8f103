-- Each slot of a table of 2 ^ k slots is among the first 2 ^ k places of every path.
use Rattle.std.proofs.Common.{◌≡◌, ◌⊎◌, inl, inr, ℕ, zero, suc, ◌+◌, ◌-◌, ◌*◌, ◌^◌, ◌%◌, ◌/◌, ◌<◌, ◌≤◌, Bool, true, false, not, ◌||◌, cond, eqb, List, [], ◌∷◌, length, filter, find, Option, Some, None, unwrap_or, Contains, IsSome, refl, arith, ap, ◌∙◌}
use Rattle.std.specs.List.{list_any}
use Rattle.std.proofs.lemmas.Bool.{cases_lt}
use Rattle.std.proofs.lemmas.Bool.Decides.{nat_tests}
use Rattle.std.proofs.lemmas.List.FromFn.{length-map-range_with_len, get_or-map-range_with_len}
use Rattle.std.proofs.lemmas.List.Folds.{list_any_at}
use Rattle.std.proofs.Math.Nat.{add-mul-mod_self_right, mod-eq_of_lt, mod-add-mod}
use Rattle.std.proofs.lemmas.Nat.{mul-mod_first}
use Rattle.index_model.specs.Hashes.{odd, gdb_hash, path, slot_on_path}
use Rattle.index_model.specs.GdbSlots.{free_slot, slots_behind, ArePlaced}

-- after i steps of 2 t + 1 from h on, modulo 2 ^ k
record Reached (k h t slot : ℕ) : Type 0 where
  i : ℕ
  q : ℕ
  within : i < 2 ^ k
  there : h + i * (2 * t + 1) ≡ slot + q * 2 ^ k

-- the step is 2 t + 1, and the slots are doubled from S to 2 S
module _ (h t S slot i q r : ℕ) where
  low_even : h + i * (2 * t + 1) ≡ slot + q * S → q ≡ 2 * r → h + i * (2 * t + 1) ≡ slot + r * (2 * S)
  low_even e f = omega (arith, ap (λ (x : ℕ). x * S) f)

  low_odd : h + i * (2 * t + 1) ≡ slot + q * S → q ≡ 2 * r + 1 → h + (i + S) * (2 * t + 1) ≡ slot + (r + 1 + t) * (2 * S)
  low_odd e f = omega (arith, ap (λ (x : ℕ). x * S) f)

  high_odd : h + i * (2 * t + 1) ≡ slot - S + q * S → S ≤ slot → q ≡ 2 * r + 1 → h + i * (2 * t + 1) ≡ slot + r * (2 * S)
  high_odd e le f = omega (arith, ap (λ (x : ℕ). x * S) f)

  high_even : h + i * (2 * t + 1) ≡ slot - S + q * S → S ≤ slot → q ≡ 2 * r → h + (i + S) * (2 * t + 1) ≡ slot + (r + t) * (2 * S)
  high_even e le f = omega (arith, ap (λ (x : ℕ). x * S) f)

parity : (q : ℕ) → (q ≡ 2 * (q / 2)) ⊎ (q ≡ 2 * (q / 2) + 1)
parity q = grind arith

twice : (k : ℕ) → 2 * 2 ^ k ≡ 2 ^ suc k
twice k = omega arith

module _ (k h t slot : ℕ) where
  -- the same with the slots as a power
  as_power : (i n : ℕ) → h + i * (2 * t + 1) ≡ slot + n * (2 * 2 ^ k) → h + i * (2 * t + 1) ≡ slot + n * 2 ^ suc k
  as_power i n e = e ∙ ap (λ (x : ℕ). slot + n * x) (twice k)

  from_low : Reached k h t slot → Reached (suc k) h t slot
  from_low r = elim (parity r.q) as (λ _. Reached (suc k) h t slot) [
    | inl even ↦ record { i = r.i; q = r.q / 2; within = omega (arith, r.within); there = as_power _ _ (low_even h t (2 ^ k) slot r.i r.q (r.q / 2) r.there even) }
    | inr odd ↦ record { i = r.i + 2 ^ k; q = r.q / 2 + 1 + t; within = omega (arith, r.within); there = as_power _ _ (low_odd h t (2 ^ k) slot r.i r.q (r.q / 2) r.there odd) }
  ]

  from_high : 2 ^ k ≤ slot → Reached k h t (slot - 2 ^ k) → Reached (suc k) h t slot
  from_high le r = elim (parity r.q) as (λ _. Reached (suc k) h t slot) [
    | inl even ↦ record { i = r.i + 2 ^ k; q = r.q / 2 + t; within = omega (arith, r.within); there = as_power _ _ (high_even h t (2 ^ k) slot r.i r.q (r.q / 2) r.there le even) }
    | inr odd ↦ record { i = r.i; q = r.q / 2; within = omega (arith, r.within); there = as_power _ _ (high_odd h t (2 ^ k) slot r.i r.q (r.q / 2) r.there le odd) }
  ]

reached : (k h t slot : ℕ) → slot < 2 ^ k → Reached k h t slot
reached zero h t slot lt = record { i = 0; q = h; within = omega arith; there = omega arith }
reached (suc k) h t slot lt = elim (cases_lt slot (2 ^ k)) as (λ _. Reached (suc k) h t slot) [
  | inl low ↦ from_low k h t slot (reached k h t slot low)
  | inr high ↦ from_high k h t slot high (reached k h t (slot - 2 ^ k) (omega (arith, lt)))
]

-- ---- on the path of a name

odd_is : (n : ℕ) → odd n ≡ 2 * (n / 2) + 1
odd_is n = omega arith

-- each slot of 2 ^ k is among the first 2 ^ k places of the path
pub path_has_each_slot : (k : ℕ) (name : List ℕ) (slot : ℕ) → slot < 2 ^ k → Contains (path (2 ^ k) name) slot
unfolding path
path_has_each_slot k name slot lt =
    let hash = gdb_hash name in
    let n = hash * 17 % 2 ^ k in
    let r = reached k hash (n / 2) slot lt in
    let there : slot_on_path (2 ^ k) hash r.i ≡ slot = ap (λ (x : ℕ). (hash + r.i * x) % 2 ^ k) (odd_is n) ∙ ap (λ (x : ℕ). x % 2 ^ k) r.there ∙ add-mul-mod_self_right slot r.q (2 ^ k) ∙ mod-eq_of_lt lt in
    (r.i, omega (arith, length-map-range_with_len (slot_on_path (2 ^ k) hash) 0 (2 ^ k), r.within), get_or-map-range_with_len (slot_on_path (2 ^ k) hash) 0 (2 ^ k) r.i r.i slot r.within (omega arith) ∙ there)

-- ---- a free slot

-- the items but for those equal to n
abbrev without : ℕ → List ℕ → List ℕ
without n xs = filter (λ x. not (eqb n x)) xs

without_shorter : (n : ℕ) (xs : List ℕ) → length (without n xs) ≤ length xs
without_shorter n [] = omega arith
without_shorter n (x ∷ xs) = elim (eqb n x) as (λ b. length (cond (not b) (x ∷ without n xs) (without n xs)) ≤ suc (length xs)) [
  | true ↦ omega (arith, without_shorter n xs)
  | false ↦ omega (arith, without_shorter n xs)
]

without_one : (n : ℕ) (xs : List ℕ) → list_any (eqb n) xs ≡ true → length (without n xs) < length xs
without_one n [] e = absurd cc
without_one n (x ∷ xs) e = elim (eqb n x) as (λ b. (b || list_any (eqb n) xs) ≡ true → length (cond (not b) (x ∷ without n xs) (without n xs)) < suc (length xs)) [
  | true ↦ λ _. omega (arith, without_shorter n xs)
  | false ↦ λ more. omega (arith, without_one n xs more)
] e

other : (n s x : ℕ) → s < n → eqb n x ≡ true → eqb s x ≡ false
other n s x lt e = grind (arith, nat_tests)

either : (b c d : Bool) → (c ≡ false → d ≡ false) → (b || c) ≡ false → (b || d) ≡ false
either true c d follows rest = absurd cc
either false c d follows rest = follows rest

not_in_all : (n s : ℕ) (xs : List ℕ) → s < n → list_any (eqb s) (without n xs) ≡ false → list_any (eqb s) xs ≡ false
not_in_all n s [] lt e = refl
not_in_all n s (x ∷ xs) lt e = elim (eqb n x) as (λ b. eqb n x ≡ b → list_any (eqb s) (cond (not b) (x ∷ without n xs) (without n xs)) ≡ false → (eqb s x || list_any (eqb s) xs) ≡ false) [
  | true ↦ λ is rest. rw (other n s x lt is) (not_in_all n s xs lt rest)
  | false ↦ λ _ rest. either (eqb s x) _ _ (not_in_all n s xs lt) rest
] refl e

record Free (n : ℕ) (xs : List ℕ) : Type 0 where
  slot : ℕ
  within : slot < n
  free : list_any (eqb slot) xs ≡ false

-- of n numbers one at least isn't among fewer than n
free_number : (n : ℕ) (xs : List ℕ) → length xs < n → Free n xs
free_number zero xs lt = absurd (omega (arith, lt))
free_number (suc n) xs lt = elim (list_any (eqb n) xs) as (λ b. list_any (eqb n) xs ≡ b → Free (suc n) xs) [
  | true ↦ λ taken. later (free_number n (without n xs) (omega (arith, without_one n xs taken, lt)))
  | false ↦ λ free. record { slot = n; within = omega arith; free = free }
] refl
  where
    later : Free n (without n xs) → Free (suc n) xs
    later f = record { slot = f.slot; within = omega (arith, f.within); free = not_in_all n f.slot xs f.within f.free }

pub found_one : (p : ℕ → Bool) (xs : List ℕ) → list_any p xs ≡ true → IsSome (find p xs)
found_one p [] e = absurd cc
found_one p (x ∷ xs) e = elim (p x) as (λ b. (b || list_any p xs) ≡ true → IsSome (cond b (Some x) (find p xs))) [
  | true ↦ λ _. refl
  | false ↦ λ more. found_one p xs more
] e

-- where fewer slots are taken than there are, the path has a free one
pub slot_is_free : (k : ℕ) (taken : List ℕ) (name : List ℕ) → length taken < 2 ^ k → IsSome (free_slot (2 ^ k) taken name)
slot_is_free k taken name lt =
    let f = free_number (2 ^ k) taken lt in
    let on = path_has_each_slot k name f.slot f.within in
    found_one (λ s. not (list_any (eqb s) taken)) (path (2 ^ k) name) (list_any_at (λ s. not (list_any (eqb s) taken)) (path (2 ^ k) name) on.0 f.slot on.1 (ap (λ (s : ℕ). not (list_any (eqb s) taken)) on.2 ∙ ap not f.free))

-- ---- the slots of names

some_is : (o : Option ℕ) → IsSome o → o ≡ Some (unwrap_or o 0)
some_is (Some x) e = refl
some_is None e = absurd cc

-- no name is without a slot where there are slots enough
pub each_is_placed : (k : ℕ) (taken : List ℕ) (names : List (List ℕ)) → length taken + length names ≤ 2 ^ k → ArePlaced (2 ^ k) taken names (slots_behind (2 ^ k) taken names)
unfolding slots_behind
each_is_placed k taken [] le = tt
each_is_placed k taken (n ∷ ns) le =
    let slot = unwrap_or (free_slot (2 ^ k) taken n) 0 in
    (some_is (free_slot (2 ^ k) taken n) (slot_is_free k taken n (omega (arith, le))), each_is_placed k (slot ∷ taken) ns (omega (arith, le)))

-- the path of a hash is that of the slot that it begins with
pub same_path : (slots hash i : ℕ) → slot_on_path slots (hash % slots) i ≡ slot_on_path slots hash i
same_path slots hash i = ap (λ (n : ℕ). (hash % slots + i * odd n) % slots) (mul-mod_first hash 17 slots) ∙ mod-add-mod hash slots (i * odd (hash * 17 % slots))
