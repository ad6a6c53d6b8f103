-- Where paths of slots are followed on.
use Rattle.std.proofs.Common.{◌≡◌, ◌≢◌, ℕ, ◌+◌, ◌-◌, ◌*◌, ◌%◌, ◌<◌, ◌≤◌, Bool, true, false, not, eqb, List, length, get_or, set, replicate, map, find, Option, Some, None, is_some, inl, inr, refl, sym, ap, subst, ◌∙◌, arith, below_more}
use mathlib.Core.Bool.{true≢false}
use Rattle.std.proofs.lemmas.Bool.{cases_lt, eqb-true}
use Rattle.std.proofs.lemmas.Bool.Decides.{nat_tests}
use Rattle.std.proofs.lemmas.List.{length-set, length-replicate, get_or-set_same, get_or-set_other}
use Rattle.std.proofs.Math.Nat.{add-mul-mod_self_right, mod-eq_of_lt}
use Rattle.index_model.specs.Layout.{below}
use Rattle.index_model.specs.Hashes.{odd, slot_on_path}
use Rattle.gdbindex_write.specs.Slots.{is_free, AreFronts, IsFront}
use Rattle.gdbindex_write.proofs.PositionLaws.{find_below, none_below}
use Rattle.gdbindex_write.proofs.SlotLaws.{path_next}

-- ---- a walk from a front on

-- after some steps
pub record Walked (slots : List (Option ℕ)) (begin place tried : ℕ) : Type 0 where
  pub front : IsFront slots begin place
  pub most : tried ≤ front.passed

-- a path of n places begins anew
again : (n begin i : ℕ) → n ≤ i → slot_on_path n begin i ≡ slot_on_path n begin (i - n)
again n begin i le = along (odd (begin * 17 % n)) (i - n) (omega arith)
  where
    along : (step k : ℕ) → i ≡ k + n → (begin + i * step) % n ≡ (begin + k * step) % n
    along step k is =
        let more : begin + (k + n) * step ≡ begin + k * step + step * n = omega arith in
        ap (λ (j : ℕ). (begin + j * step) % n) is ∙ ap (λ (x : ℕ). x % n) more ∙ add-mul-mod_self_right (begin + k * step) step n

module _ (slots : List (Option ℕ)) (begin at tried : ℕ) (w : Walked slots begin at tried) where
  pub walk_on : is_free slots at ≡ false → (next : ℕ) → next ≡ (at + odd (begin * 17 % length slots)) % length slots → Walked slots begin next (tried + 1)
  walk_on taken next is = record {
    front = record {
      passed = w.front.passed + 1;
      here = is ∙ ap (λ (s : ℕ). (s + odd (begin * 17 % length slots)) % length slots) w.front.here ∙ path_next (length slots) begin w.front.passed;
      taken = below_more _ _ w.front.taken (subst (λ (s : ℕ). is_free slots s ≡ false) w.front.here taken);
    };
    most = omega (arith, w.most);
  }

  within : at < length slots → is_free slots at ≡ true → w.front.passed < length slots
  within inside free = elim (cases_lt w.front.passed (length slots)) as (λ _. w.front.passed < length slots) [
    | inl lt ↦ lt
    | inr le ↦
        let before = w.front.taken (w.front.passed - length slots) (shorter le) in
        let same = ap (is_free slots) (w.front.here ∙ again (length slots) begin w.front.passed le) in
        absurd (true≢false (sym free ∙ same ∙ before))
  ]
    where
      shorter : length slots ≤ w.front.passed → w.front.passed - length slots < w.front.passed
      shorter le = omega (arith, le, inside)

  pub free_found : at < length slots → is_free slots at ≡ true → (slot : ℕ) → find (is_free slots) (map (slot_on_path (length slots) begin) (below (length slots))) ≡ Some slot → at ≡ slot
  free_found inside free slot is =
      let own : Some (slot_on_path (length slots) begin w.front.passed) ≡ Some slot = sym (find_below (is_free slots) (slot_on_path (length slots) begin) (length slots) w.front.passed (within inside free) w.front.taken (sym (ap (is_free slots) w.front.here) ∙ free)) ∙ is in
      w.front.here ∙ cc

  pub none_found : length slots ≤ tried → (slot : ℕ) → find (is_free slots) (map (slot_on_path (length slots) begin) (below (length slots))) ≡ Some slot → ⊥
  none_found all slot is =
      let none : None ≡ Some slot = sym (none_below (is_free slots) (slot_on_path (length slots) begin) (length slots) (λ j lt. w.front.taken j (omega (arith, w.most, all, lt)))) ∙ is in
      absurd cc

-- ---- a slot that fills

module _ (slots : List (Option ℕ)) (s n : ℕ) (lt : s < length slots) where
  abbrev filled : List (Option ℕ)
  filled = set slots s (Some n)

  size : length filled ≡ length slots
  size = length-set slots s (Some n)

  still_taken : (x : ℕ) → is_free slots x ≡ false → is_free filled x ≡ false
  still_taken x taken = by (eqb x s) refl
    where
      by : (b : Bool) → eqb x s ≡ b → is_free filled x ≡ false
      by true e = ap (is_free filled) (eqb-true x s e) ∙ ap (λ (o : Option ℕ). not (is_some o)) (get_or-set_same slots s (Some n) None lt)
      by false e =
          let other : x ≢ s = λ is. true≢false (sym (let same : eqb x s ≡ true = grind (arith, nat_tests) in same) ∙ e) in
          ap (λ (o : Option ℕ). not (is_some o)) (get_or-set_other slots s x (Some n) None other) ∙ taken

  still_front : (begin place : ℕ) → IsFront slots begin place → IsFront filled begin place
  still_front begin place f = record {
    passed = f.passed;
    here = f.here ∙ ap (λ (m : ℕ). slot_on_path m begin f.passed) (sym size);
    taken = λ j less. ap (λ (m : ℕ). is_free filled (slot_on_path m begin j)) size ∙ still_taken (slot_on_path (length slots) begin j) (f.taken j less);
  }

  -- the slot becomes the front of the path on which it was found
  pub fronts_more : (fronts : List ℕ) (begin : ℕ) → begin < length slots → AreFronts slots fronts → IsFront slots begin s → AreFronts filled (set fronts begin s)
  fronts_more fronts begin less fs front = record {
    size = length-set fronts begin s ∙ fs.size ∙ sym size;
    each = λ b inside. by b inside (eqb b begin) refl;
  }
    where
      by : (b : ℕ) → b < length filled → (t : Bool) → eqb b begin ≡ t → IsFront filled b (get_or (set fronts begin s) b 0)
      by b inside true e =
          let is = eqb-true b begin e in
          let own : s ≡ get_or (set fronts begin s) b 0 = sym (ap (λ (k : ℕ). get_or (set fronts begin s) k 0) is ∙ get_or-set_same fronts begin s 0 (omega (arith, fs.size, less))) in
          subst (IsFront filled b) own (still_front b s (subst (λ (k : ℕ). IsFront slots k s) (sym is) front))
      by b inside false e =
          let other : b ≢ begin = λ is. true≢false (sym (let same : eqb b begin ≡ true = grind (arith, nat_tests) in same) ∙ e) in
          let there : b < length slots = omega (arith, size, inside) in
          subst (IsFront filled b) (sym (get_or-set_other fronts begin b s 0 other)) (still_front b (get_or fronts b 0) (fs.each b there))

-- ---- the empty table

pub fronts_at_first : (count : ℕ) (slots : List (Option ℕ)) (fronts : List ℕ) → slots ≡ replicate count None → length fronts ≡ count → ((begin : ℕ) → begin < count → get_or fronts begin 0 ≡ begin) → AreFronts slots fronts
fronts_at_first count slots fronts empty long each = record {
  size = long ∙ sym size_is;
  each = λ begin lt. record {
    passed = 0;
    here = each begin (omega (arith, size_is, lt)) ∙ sym (first begin lt);
    taken = λ j less. absurd (omega arith);
  };
}
  where
    size_is : length slots ≡ count
    size_is = ap length empty ∙ length-replicate count None

    first : (begin : ℕ) → begin < length slots → slot_on_path (length slots) begin 0 ≡ begin
    first begin lt =
        let step = odd (begin * 17 % length slots) in
        let start : begin + 0 * step ≡ begin = omega arith in
        ap (λ (x : ℕ). x % length slots) start ∙ mod-eq_of_lt lt
