-- The unit that begins at an offset stands where those that begin there or behind it do.
use Rattle.std.proofs.Common.{◌≡◌, ℕ, zero, suc, ◌+◌, ◌<◌, ◌≤◌, Bool, true, false, cond, not, ◌&&◌, eqb, ltb, List, [], ◌∷◌, length, get_or, find, Option, Some, None, refl, sym, ap, ◌∙◌, arith}
use Rattle.std.specs.Prelude.{slice_get, option_map, option_and_then}
use Rattle.std.specs.List.{enumerate_from}
use Rattle.std.specs.List.Sorted.{IsNonDecreasingBy, IsPartitionPoint}
use Rattle.std.proofs.lemmas.Bool.{eq-eqb, ne_eqb, ltb-true, ltb-false}
use Rattle.std.proofs.lemmas.Option.{slice_get_past, slice_get_read}
use Rattle.index_model.specs.declared.unit.Part.TheVariants.{Info, Types}
use Rattle.index_model.specs.declared.unit.Unit.{Unit as UnitHeader}
use Rattle.index_model.specs.Units.{is_types}
use Rattle.reach_model.specs.AddressSets.{unit_from}
use Rattle.aranges_read.specs.Sets.{Rise}

abbrev start_of : UnitHeader → ℕ
start_of u = u.start

rise_low : (us : List UnitHeader) (from k : ℕ) (d : UnitHeader) → Rise from us → k < length us → from ≤ (get_or us k d).start
rise_low [] from k d r lt = absurd (omega (arith, lt))
rise_low (u ∷ us) from zero d r lt = r.0
rise_low (u ∷ us) from (suc k) d r lt = let h = rise_low us (u.start + 1) k d r.1 (omega (arith, lt)) in omega (arith, h, r.0)

pub non_decreasing : (us : List UnitHeader) (from : ℕ) → Rise from us → IsNonDecreasingBy start_of us
non_decreasing [] from r i j d le lt = absurd (omega (arith, lt))
non_decreasing (u ∷ us) from r zero zero d le lt = omega arith
non_decreasing (u ∷ us) from r zero (suc j) d le lt = let h = rise_low us (u.start + 1) j d r.1 (omega (arith, lt)) in omega (arith, h)
non_decreasing (u ∷ us) from r (suc i) zero d le lt = absurd (omega (arith, le))
non_decreasing (u ∷ us) from r (suc i) (suc j) d le lt = non_decreasing us (u.start + 1) r.1 i j d (omega (arith, le)) (omega (arith, lt))

module _ (at : ℕ) where
  -- whether the unit of `.debug_info` begins there
  abbrev is_it : UnitHeader → Bool
  is_it u = not (is_types u.part) && eqb u.start at

  -- the number of such a unit, where the first has the number k
  abbrev number_from : ℕ → List UnitHeader → Option ℕ
  number_from k us = option_map (λ e. e.0) (find (λ e. is_it e.1) (enumerate_from k us))

  -- this number, if the unit is such a one
  abbrev pub number_of : ℕ → UnitHeader → Option ℕ
  number_of k u = cond (is_it u) (Some k) None

  first_or : (k : ℕ) (u : UnitHeader) (us : List UnitHeader) → number_from k (u ∷ us) ≡ cond (is_it u) (Some k) (number_from (k + 1) us)
  first_or k u us = by (is_it u)
    where
      by : (b : Bool) → option_map (λ (e : ℕ × UnitHeader). e.0) (cond b (Some (k, u)) (find (λ (e : ℕ × UnitHeader). is_it e.1) (enumerate_from (k + 1) us))) ≡ cond b (Some k) (number_from (k + 1) us)
      by true = refl
      by false = refl

  and_false : (b c : Bool) → c ≡ false → (b && c) ≡ false
  and_false true c e = e
  and_false false c e = refl

  not_it : (u : UnitHeader) → (u.start ≡ at → ⊥) → is_it u ≡ false
  not_it u other = and_false (not (is_types u.part)) (eqb u.start at) (ne_eqb u.start at other)

  none_behind : (us : List UnitHeader) (k from : ℕ) → Rise from us → at < from → number_from k us ≡ None
  none_behind [] k from r lt = refl
  none_behind (u ∷ us) k from r lt =
      first_or k u us ∙ ap (λ (b : Bool). cond b (Some k) (number_from (k + 1) us)) (not_it u (λ e. omega (arith, e, r.0, lt)))
      ∙ none_behind us (k + 1) (u.start + 1) r.1 (omega (arith, r.0, lt))

  abbrev Smaller : List UnitHeader → ℕ → Type 0
  Smaller us n = (k : ℕ) (d : UnitHeader) → k < n → (get_or us k d).start < at

  abbrev Larger : List UnitHeader → ℕ → Type 0
  Larger us n = (k : ℕ) (d : UnitHeader) → n ≤ k → k < length us → at ≤ (get_or us k d).start

  at_point : (us : List UnitHeader) (k n from : ℕ) → Rise from us → Smaller us n → Larger us n → number_from k us ≡ option_and_then (number_of (k + n)) (slice_get us n)
  at_point [] k n from r smaller larger = refl
  at_point (u ∷ us) k zero from r smaller larger =
      first_or k u us ∙ by (is_it u) (none_behind us (k + 1) (u.start + 1) r.1 (let h = larger 0 u (omega arith) (omega arith) in omega (arith, h)))
    where
      by : (b : Bool) → number_from (k + 1) us ≡ None → cond b (Some k) (number_from (k + 1) us) ≡ cond b (Some (k + 0)) None
      by true none = ap (λ (n : ℕ). Some n) (let e : k ≡ k + 0 = omega arith in e)
      by false none = none
  at_point (u ∷ us) k (suc n) from r smaller larger =
      let next : k + 1 + n ≡ k + suc n = omega arith in
      first_or k u us ∙ ap (λ (b : Bool). cond b (Some k) (number_from (k + 1) us)) (not_it u (λ e. let h = smaller 0 u (omega arith) in omega (arith, e, h)))
      ∙ at_point us (k + 1) n (u.start + 1) r.1 (λ j d lt. smaller (suc j) d (omega (arith, lt))) (λ j d le lt. larger (suc j) d (omega (arith, le)) (omega (arith, lt)))
      ∙ ap (λ (m : ℕ). option_and_then (number_of m) (slice_get us n)) next

  -- ---- the first n begin before the offset, and the others there or behind it

  abbrev pub Cut : List UnitHeader → ℕ → Type 0
  Cut us n = IsPartitionPoint (λ (u : UnitHeader). ltb u.start at ≡ true) (λ (u : UnitHeader). ltb u.start at ≡ false) us n

  module _ (us : List UnitHeader) (n : ℕ) (rise : Rise 0 us) (within : n ≤ length us) (cut : Cut us n) where
    found : unit_from us at ≡ option_and_then (number_of n) (slice_get us n)
    found = at_point us 0 n 0 rise (λ k d lt. ltb-true _ at (cut.0 k d (omega (arith, lt, within)) lt)) (λ k d le lt. ltb-false _ at (cut.1 k d le lt))
        ∙ ap (λ (m : ℕ). option_and_then (number_of m) (slice_get us n)) (let e : 0 + n ≡ n = omega arith in e)

    pub none_left : length us ≤ n → None ≡ unit_from us at
    none_left past = sym (found ∙ ap (λ (o : Option UnitHeader). option_and_then (number_of n) o) (slice_get_past us n past))

    here : (u : UnitHeader) → n < length us → u ≡ get_or us n u → unit_from us at ≡ number_of n u
    here u lt is = found ∙ ap (λ (o : Option UnitHeader). option_and_then (number_of n) o) (slice_get_read us (length us) n u refl lt is)

    pub elsewhere : (u : UnitHeader) → n < length us → u ≡ get_or us n u → (u.start ≡ at → ⊥) → None ≡ unit_from us at
    elsewhere u lt is other = sym (here u lt is ∙ ap (λ (b : Bool). cond b (Some n) None) (not_it u other))

    pub in_info : (u : UnitHeader) → n < length us → u ≡ get_or us n u → u.start ≡ at → u.part ≡ Info → Some n ≡ unit_from us at
    in_info u lt is there info = sym (here u lt is ∙ rw (info, eq-eqb u.start at there) refl)

    pub in_types : (u : UnitHeader) → n < length us → u ≡ get_or us n u → u.part ≡ Types → None ≡ unit_from us at
    in_types u lt is types = sym (here u lt is ∙ rw types refl)
