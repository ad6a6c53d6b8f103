-- Which name a slot has, and that its path leads there.
use Rattle.std.proofs.Common.{◌≡◌, ℕ, zero, suc, ◌^◌, ◌<◌, Bool, true, false, eqb, List, [], ◌∷◌, length, get_or, position, Option, Some, refl, sym, ap, ◌∙◌, arith, ⊎_elim, inl, inr}
use mathlib.Core.Bool.{true≢false}
use mathlib.Core.Logic.{◌⊎◌}
use Rattle.std.specs.Prelude.{slice_get}
use Rattle.std.specs.List.{list_any, list_all}
use Rattle.std.proofs.lemmas.Bool.{or_parts, or_cases, eqb-true, eq-eqb}
use Rattle.std.proofs.lemmas.List.Quantifiers.{position-Some}
use Rattle.std.proofs.lemmas.List.Sums.{position_or_len_is}
use Rattle.std.proofs.lemmas.Option.{slice_get-get_or, slice_get_within, get_or_from_slice_get}
use Rattle.ix_base.specs.Reading.{◌>>=◌ as ◌>>=?◌}
use Rattle.index_model.specs.Hashes.{path}
use Rattle.index_model.specs.GdbSlots.{slot_count, slots_of, free_slot, ArePlaced, AreOwn}
use Rattle.index_model.specs.GdbIndex.{name_in_slot}
use Rattle.index_model.specs.GdbIndexRead.{places_before}
use Rattle.index_model.proofs.Meanings.{bind_some}
use Rattle.index_model.proofs.SlotLaws.{each_name_has_its_slot}
use Rattle.index_model.proofs.PassedOver.{passed_over}
use Rattle.index_alike.proofs.GdbPositions.{position_is}

-- ---- no two names have one slot

own_below : (n : ℕ) (taken ss : List ℕ) (k : ℕ) → AreOwn n taken ss → k < length ss → get_or ss k 0 < n
own_below n taken [] k own lt = absurd (omega (arith, lt))
own_below n taken (s ∷ ss) zero own lt = own.0
own_below n taken (s ∷ ss) (suc k) own lt = own_below n (s ∷ taken) ss k own.2 (omega (arith, lt))

own_free : (n : ℕ) (taken ss : List ℕ) (k : ℕ) → AreOwn n taken ss → k < length ss → list_any (eqb (get_or ss k 0)) taken ≡ false
own_free n taken [] k own lt = absurd (omega (arith, lt))
own_free n taken (s ∷ ss) zero own lt = own.1
own_free n taken (s ∷ ss) (suc k) own lt = (or_parts (eqb (get_or ss k 0) s) (list_any (eqb (get_or ss k 0)) taken) (own_free n (s ∷ taken) ss k own.2 (omega (arith, lt)))).1

own_apart : (n : ℕ) (taken ss : List ℕ) (j k : ℕ) → AreOwn n taken ss → j < k → k < length ss → eqb (get_or ss k 0) (get_or ss j 0) ≡ false
own_apart n taken [] j k own less lt = absurd (omega (arith, lt))
own_apart n taken (s ∷ ss) j zero own less lt = absurd (omega (arith, less))
own_apart n taken (s ∷ ss) zero (suc k) own less lt = (or_parts (eqb (get_or ss k 0) s) (list_any (eqb (get_or ss k 0)) taken) (own_free n (s ∷ taken) ss k own.2 (omega (arith, lt)))).0
own_apart n taken (s ∷ ss) (suc j) (suc k) own less lt = own_apart n (s ∷ taken) ss j k own.2 (omega (arith, less)) (omega (arith, lt))

own_position : (n : ℕ) (ss : List ℕ) (k : ℕ) → AreOwn n [] ss → k < length ss → position (eqb (get_or ss k 0)) ss ≡ Some k
own_position n ss k own lt =
    let is = position_or_len_is (eqb (get_or ss k 0)) ss k 0 (omega (arith, lt)) (λ j less. own_apart n [] ss j k own less lt) (λ _. eq-eqb (get_or ss k 0) (get_or ss k 0) refl) in
    position_is (eqb (get_or ss k 0)) ss (omega (arith, is, lt)) ∙ ap (λ (j : ℕ). Some j) is

-- ---- each name has the first free slot on its path

-- the slot of the name is the first on its path that none of the names before it has
pub record IsFirst (n : ℕ) (before : List ℕ) (names : List (List ℕ)) (ss : List ℕ) (k : ℕ) : Type 0 where
  pub taken : List ℕ
  pub is : free_slot n taken (get_or names k []) ≡ Some (get_or ss k 0)
  pub earlier : (s : ℕ) → list_any (eqb s) taken ≡ true → (list_any (eqb s) before ≡ true) ⊎ ((i : ℕ) × (i < k) × (s ≡ get_or ss i 0))

placed_at : (n : ℕ) (before : List ℕ) (names : List (List ℕ)) (ss : List ℕ) (k : ℕ) → ArePlaced n before names ss → k < length names → IsFirst n before names ss k
placed_at n before [] ss k p lt = absurd (omega (arith, lt))
placed_at n before (m ∷ ms) [] k p lt = absurd p
placed_at n before (m ∷ ms) (s ∷ ss) zero p lt = record { taken = before; is = p.0; earlier = λ s e. inl e }
placed_at n before (m ∷ ms) (s ∷ ss) (suc k) p lt =
    let r = placed_at n (s ∷ before) ms ss k p.1 (omega (arith, lt)) in
    record { taken = r.taken; is = r.is; earlier = λ t e. later t (r.earlier t e) }
  where
    later : (t : ℕ) → (list_any (eqb t) (s ∷ before) ≡ true) ⊎ ((i : ℕ) × (i < k) × (t ≡ get_or ss i 0)) → (list_any (eqb t) before ≡ true) ⊎ ((i : ℕ) × (i < suc k) × (t ≡ get_or (s ∷ ss) i 0))
    later t (inr f) = inr (suc f.0, omega (arith, f.1), f.2)
    later t (inl e) = ⊎_elim (λ (same : eqb t s ≡ true). inr (0, omega arith, eqb-true t s same)) (λ (more : list_any (eqb t) before ≡ true). inl more) (or_cases (eqb t s) (list_any (eqb t) before) e)

placed_size : (n : ℕ) (taken : List ℕ) (names : List (List ℕ)) (ss : List ℕ) → ArePlaced n taken names ss → length ss ≡ length names
placed_size n taken [] [] p = refl
placed_size n taken [] (s ∷ ss) p = absurd p
placed_size n taken (m ∷ ms) [] p = absurd p
placed_size n taken (m ∷ ms) (s ∷ ss) p = ap suc (placed_size n (s ∷ taken) ms ss p.1)

-- ---- the slots of names

module _ (names : List (List ℕ)) (small : length names < 2 ^ 60) where
  abbrev count : ℕ
  count = slot_count (length names)

  abbrev slots : List ℕ
  slots = slots_of names

  slots_size : length slots ≡ length names
  slots_size = placed_size count [] names slots (each_name_has_its_slot names small).0

  pub slot_below : (k : ℕ) → k < length names → get_or slots k 0 < count
  slot_below k lt = own_below count [] slots k (each_name_has_its_slot names small).1 (omega (arith, lt, slots_size))

  -- the slot of a name has the name
  pub name_there : (k : ℕ) → k < length names → name_in_slot names slots (get_or slots k 0) ≡ Some (get_or names k [])
  name_there k lt =
      ap (λ (o : Option ℕ). o >>=? slice_get names) (own_position count slots k (each_name_has_its_slot names small).1 (omega (arith, lt, slots_size))) ∙ slice_get-get_or names k [] lt

  -- a name in a slot, by its number
  pub record InSlot (slot : ℕ) (name : List ℕ) : Type 0 where
    pub number : ℕ
    pub within : number < length names
    pub name_is : get_or names number [] ≡ name
    pub slot_is : slot ≡ get_or slots number 0

  pub in_slot : (slot : ℕ) (name : List ℕ) → name_in_slot names slots slot ≡ Some name → InSlot slot name
  in_slot slot name e =
      let b = bind_some (position (eqb slot) slots) (slice_get names) name e in
      record {
        number = b.0;
        within = slice_get_within names b.0 name b.2;
        name_is = get_or_from_slice_get names b.0 name [] b.2;
        slot_is = eqb-true slot (get_or slots b.0 0) (position-Some (eqb slot) slots b.0 0 b.1).1;
      }

  -- on the path of a name each slot before its own has an earlier name
  pub path_leads : (other : ℕ → Bool) (k : ℕ) → k < length names → ((i : ℕ) → i < k → other (get_or slots i 0) ≡ true) → list_all other (places_before (get_or slots k 0) (path count (get_or names k []))) ≡ true
  path_leads other k lt over =
      let first = placed_at count [] names slots k (each_name_has_its_slot names small).0 lt in
      passed_over (λ s. list_any (eqb s) first.taken) other (get_or slots k 0) (path count (get_or names k [])) first.is (λ s e. by s (first.earlier s e))
    where
      by : (s : ℕ) → (false ≡ true) ⊎ ((i : ℕ) × (i < k) × (s ≡ get_or slots i 0)) → other s ≡ true
      by s (inl none) = absurd (true≢false (sym none))
      by s (inr f) = ap other f.2 ∙ over f.0 f.1
