-- The unit at an address changes only where ranges begin or end.
use Rattle.std.proofs.Common.{◌≡◌, ℕ, zero, suc, ◌<◌, ◌≤◌, min, Bool, true, false, ◌&&◌, ◌||◌, cond, ltb, leb, List, [], ◌∷◌, find, map, filter, flat_map, Option, Some, None, refl, sym, ap, subst, ◌∙◌, arith, inl, inr, ⊎_elim}
use Rattle.std.specs.Prelude.{Contains, option_map}
use Rattle.std.specs.List.{list_any, reduce}
use Rattle.std.proofs.lemmas.Bool.{cases_lt}
use Rattle.std.proofs.lemmas.Bool.Decides.{nat_tests}
use Rattle.std.proofs.lemmas.List.Concat.{flat_map-append}
use Rattle.std.proofs.lemmas.List.Elements.{Contains-append_left, Contains-append_right}
use Rattle.common_laws.proofs.Members.{contains_here, contains_later}
use Rattle.index_model.specs.declared.range.Range.{Range}
use Rattle.index_model.specs.declared.range.UnitRange.{UnitRange}
use Rattle.index_model.specs.Pieces.{edges_of}
use Rattle.index_model.specs.Ranges.{contains, unit_at}
use Rattle.reach_model.specs.AddressSets.{AddressSet, has_address, aranges_unit_at}
use Rattle.reach_model.specs.Differences.{edges}
use mathlib.Core.Logic.{◌⊎◌}

-- ---- any units at addresses

-- the next address has the same, unless it is among these
pub record ChangesOnlyAt (es : List ℕ) (f : ℕ → Option ℕ) : Type 0 where
  pub next : (a : ℕ) → (f a ≡ f (suc a)) ⊎ Contains es (suc a)
  pub first : (f 0 ≡ None) ⊎ Contains es 0

pub wider : (es all : List ℕ) (f : ℕ → Option ℕ) → ((e : ℕ) → Contains es e → Contains all e) → ChangesOnlyAt es f → ChangesOnlyAt all f
wider es all f into c = record {
  next = λ a. ⊎_elim (λ (e : f a ≡ f (suc a)). inl e) (λ (l : Contains es (suc a)). inr (into (suc a) l)) (c.next a);
  first = ⊎_elim (λ (e : f 0 ≡ None). inl e) (λ (l : Contains es 0). inr (into 0 l)) c.first;
}

module _ (es : List ℕ) (f g : ℕ → Option ℕ) (changes_f : ChangesOnlyAt es f) (changes_g : ChangesOnlyAt es g) where
  -- where they agree at all these addresses below n, they agree at all addresses below n
  pub agree_below : (n a : ℕ) → ((e : ℕ) → Contains es e → e < n → f e ≡ g e) → a < n → f a ≡ g a
  agree_below n zero agree lt = by changes_f.first changes_g.first
    where
      by : (f 0 ≡ None) ⊎ Contains es 0 → (g 0 ≡ None) ⊎ Contains es 0 → f 0 ≡ g 0
      by (inr c) h = agree 0 c lt
      by (inl e) (inr c) = agree 0 c lt
      by (inl e) (inl h) = e ∙ sym h
  agree_below n (suc a) agree lt = by (agree_below n a agree (omega (arith, lt))) (changes_f.next a) (changes_g.next a)
    where
      by : f a ≡ g a → (f a ≡ f (suc a)) ⊎ Contains es (suc a) → (g a ≡ g (suc a)) ⊎ Contains es (suc a) → f (suc a) ≡ g (suc a)
      by here (inr c) h = agree (suc a) c lt
      by here (inl e) (inr c) = agree (suc a) c lt
      by here (inl e) (inl h) = sym e ∙ here ∙ h

-- ---- the unit among ranges

as_find : (b : Bool) (p : UnitRange) (o : Option UnitRange) → option_map (λ r. r.unit) (cond b (Some p) o) ≡ cond b (Some p.unit) (option_map (λ r. r.unit) o)
as_find true p o = refl
as_find false p o = refl

first_or : (p : UnitRange) (ps : List UnitRange) (a : ℕ) → unit_at (p ∷ ps) a ≡ cond (contains a p.range) (Some p.unit) (unit_at ps a)
unfolding unit_at
first_or p ps a = as_find (contains a p.range) p (find (λ u. contains a u.range) ps)

-- a range has the next address as it has this one, unless it begins or ends there
same_test : (low end a : ℕ) → ((low ≡ suc a) → ⊥) → ((end ≡ suc a) → ⊥) → (leb low a && ltb a end) ≡ (leb low (suc a) && ltb (suc a) end)
same_test low end a f g = grind (arith, nat_tests)

-- no range that begins behind 0 has it
above : (low end : ℕ) → 0 < low → (leb low 0 && ltb 0 end) ≡ false
above low end lt = grind (arith, nat_tests)

cases_eq : (m n : ℕ) → (m ≡ n) ⊎ (m ≡ n → ⊥)
cases_eq m n = ⊎_elim (λ (l : m < n). inr (λ e. omega arith)) (λ (g : n ≤ m). ⊎_elim (λ (l : n < m). inr (λ e. omega arith)) (λ (h : m ≤ n). inl (omega arith)) (cases_lt n m)) (cases_lt m n)

changes_at : (ps : List UnitRange) (a : ℕ) → (unit_at ps a ≡ unit_at ps (suc a)) ⊎ Contains (edges_of ps) (suc a)
unfolding unit_at
changes_at [] a = inl refl
changes_at (p ∷ ps) a = by (cases_eq p.range.low (suc a)) (cases_eq p.range.end (suc a)) (changes_at ps a)
  where
    by : (p.range.low ≡ suc a) ⊎ (p.range.low ≡ suc a → ⊥) → (p.range.end ≡ suc a) ⊎ (p.range.end ≡ suc a → ⊥) → (unit_at ps a ≡ unit_at ps (suc a)) ⊎ Contains (edges_of ps) (suc a) → (unit_at (p ∷ ps) a ≡ unit_at (p ∷ ps) (suc a)) ⊎ Contains (edges_of (p ∷ ps)) (suc a)
    by (inl e) g h = inr (subst (Contains (edges_of (p ∷ ps))) e (contains_here p.range.low (p.range.end ∷ edges_of ps)))
    by (inr f) (inl e) h = inr (contains_later p.range.low (p.range.end ∷ edges_of ps) (suc a) (subst (Contains (p.range.end ∷ edges_of ps)) e (contains_here p.range.end (edges_of ps))))
    by (inr f) (inr g) (inr later) = inr (contains_later p.range.low (p.range.end ∷ edges_of ps) (suc a) (contains_later p.range.end (edges_of ps) (suc a) later))
    by (inr f) (inr g) (inl same) = inl (first_or p ps a ∙ ap (λ (b : Bool). cond b (Some p.unit) (unit_at ps a)) (same_test p.range.low p.range.end a f g) ∙ ap (λ (o : Option ℕ). cond (contains (suc a) p.range) (Some p.unit) o) same ∙ sym (first_or p ps (suc a)))

-- at address 0
starts_at : (ps : List UnitRange) → (unit_at ps 0 ≡ None) ⊎ Contains (edges_of ps) 0
unfolding unit_at
starts_at [] = inl refl
starts_at (p ∷ ps) = by (cases_lt 0 p.range.low) (starts_at ps)
  where
    by : (0 < p.range.low) ⊎ (p.range.low ≤ 0) → (unit_at ps 0 ≡ None) ⊎ Contains (edges_of ps) 0 → (unit_at (p ∷ ps) 0 ≡ None) ⊎ Contains (edges_of (p ∷ ps)) 0
    by (inr le) h = let e : p.range.low ≡ 0 = omega (arith, le) in inr (subst (Contains (edges_of (p ∷ ps))) e (contains_here p.range.low (p.range.end ∷ edges_of ps)))
    by (inl lt) (inr later) = inr (contains_later p.range.low (p.range.end ∷ edges_of ps) 0 (contains_later p.range.end (edges_of ps) 0 later))
    by (inl lt) (inl none) = inl (first_or p ps 0 ∙ ap (λ (b : Bool). cond b (Some p.unit) (unit_at ps 0)) (above p.range.low p.range.end lt) ∙ none)

pub unit_changes : (ps : List UnitRange) → ChangesOnlyAt (edges_of ps) (unit_at ps)
unit_changes ps = record { next = changes_at ps; first = starts_at ps }

-- ---- the unit among sets

-- where the ranges of sets begin and end
abbrev pub edges_in : List AddressSet → List ℕ
edges_in sets = edges (flat_map (λ s. s.ranges) sets)

any_changes : (rs : List Range) (a : ℕ) → (list_any (contains a) rs ≡ list_any (contains (suc a)) rs) ⊎ Contains (edges rs) (suc a)
any_changes [] a = inl refl
any_changes (r ∷ rs) a = by (cases_eq r.low (suc a)) (cases_eq r.end (suc a)) (any_changes rs a)
  where
    by : (r.low ≡ suc a) ⊎ (r.low ≡ suc a → ⊥) → (r.end ≡ suc a) ⊎ (r.end ≡ suc a → ⊥) → (list_any (contains a) rs ≡ list_any (contains (suc a)) rs) ⊎ Contains (edges rs) (suc a) → (list_any (contains a) (r ∷ rs) ≡ list_any (contains (suc a)) (r ∷ rs)) ⊎ Contains (edges (r ∷ rs)) (suc a)
    by (inl e) g h = inr (subst (Contains (edges (r ∷ rs))) e (contains_here r.low (r.end ∷ edges rs)))
    by (inr f) (inl e) h = inr (contains_later r.low (r.end ∷ edges rs) (suc a) (subst (Contains (r.end ∷ edges rs)) e (contains_here r.end (edges rs))))
    by (inr f) (inr g) (inr later) = inr (contains_later r.low (r.end ∷ edges rs) (suc a) (contains_later r.end (edges rs) (suc a) later))
    by (inr f) (inr g) (inl same) = inl (ap (λ (b : Bool). b || list_any (contains a) rs) (same_test r.low r.end a f g) ∙ ap (λ (b : Bool). contains (suc a) r || b) same)

any_starts : (rs : List Range) → (list_any (contains 0) rs ≡ false) ⊎ Contains (edges rs) 0
any_starts [] = inl refl
any_starts (r ∷ rs) = by (cases_lt 0 r.low) (any_starts rs)
  where
    by : (0 < r.low) ⊎ (r.low ≤ 0) → (list_any (contains 0) rs ≡ false) ⊎ Contains (edges rs) 0 → (list_any (contains 0) (r ∷ rs) ≡ false) ⊎ Contains (edges (r ∷ rs)) 0
    by (inr le) h = let e : r.low ≡ 0 = omega (arith, le) in inr (subst (Contains (edges (r ∷ rs))) e (contains_here r.low (r.end ∷ edges rs)))
    by (inl lt) (inr later) = inr (contains_later r.low (r.end ∷ edges rs) 0 (contains_later r.end (edges rs) 0 later))
    by (inl lt) (inl none) = inl (ap (λ (b : Bool). b || list_any (contains 0) rs) (above r.low r.end lt) ∙ none)

-- the edges of the first set, and those of the others
in_first : (s : AddressSet) (ss : List AddressSet) (e : ℕ) → Contains (edges s.ranges) e → Contains (edges_in (s ∷ ss)) e
in_first s ss e c = subst (λ (es : List ℕ). Contains es e) (sym (flat_map-append (λ (r : Range). r.low ∷ r.end ∷ []) s.ranges (flat_map (λ s. s.ranges) ss))) (Contains-append_left (edges s.ranges) (edges_in ss) e c)

in_others : (s : AddressSet) (ss : List AddressSet) (e : ℕ) → Contains (edges_in ss) e → Contains (edges_in (s ∷ ss)) e
in_others s ss e c = subst (λ (es : List ℕ). Contains es e) (sym (flat_map-append (λ (r : Range). r.low ∷ r.end ∷ []) s.ranges (flat_map (λ s. s.ranges) ss))) (Contains-append_right (edges s.ranges) (edges_in ss) e c)

sets_change : (sets : List AddressSet) (a : ℕ) → (filter (has_address a) sets ≡ filter (has_address (suc a)) sets) ⊎ Contains (edges_in sets) (suc a)
sets_change [] a = inl refl
sets_change (s ∷ ss) a = by (any_changes s.ranges a) (sets_change ss a)
  where
    by : (has_address a s ≡ has_address (suc a) s) ⊎ Contains (edges s.ranges) (suc a) → (filter (has_address a) ss ≡ filter (has_address (suc a)) ss) ⊎ Contains (edges_in ss) (suc a) → (filter (has_address a) (s ∷ ss) ≡ filter (has_address (suc a)) (s ∷ ss)) ⊎ Contains (edges_in (s ∷ ss)) (suc a)
    by (inr c) h = inr (in_first s ss (suc a) c)
    by (inl e) (inr c) = inr (in_others s ss (suc a) c)
    by (inl e) (inl rest) = inl (ap (λ (b : Bool). cond b (s ∷ filter (has_address a) ss) (filter (has_address a) ss)) e ∙ ap (λ (xs : List AddressSet). cond (has_address (suc a) s) (s ∷ xs) xs) rest)

sets_start : (sets : List AddressSet) → (filter (has_address 0) sets ≡ []) ⊎ Contains (edges_in sets) 0
sets_start [] = inl refl
sets_start (s ∷ ss) = by (any_starts s.ranges) (sets_start ss)
  where
    by : (has_address 0 s ≡ false) ⊎ Contains (edges s.ranges) 0 → (filter (has_address 0) ss ≡ []) ⊎ Contains (edges_in ss) 0 → (filter (has_address 0) (s ∷ ss) ≡ []) ⊎ Contains (edges_in (s ∷ ss)) 0
    by (inr c) h = inr (in_first s ss 0 c)
    by (inl e) (inr c) = inr (in_others s ss 0 c)
    by (inl e) (inl rest) = inl (ap (λ (b : Bool). cond b (s ∷ filter (has_address 0) ss) (filter (has_address 0) ss)) e ∙ rest)

pub set_unit_changes : (sets : List AddressSet) → ChangesOnlyAt (edges_in sets) (aranges_unit_at sets)
unfolding aranges_unit_at
set_unit_changes sets = record {
  next = λ a. ⊎_elim (λ (e : filter (has_address a) sets ≡ filter (has_address (suc a)) sets). inl (ap least e)) (λ (c : Contains (edges_in sets) (suc a)). inr c) (sets_change sets a);
  first = ⊎_elim (λ (e : filter (has_address 0) sets ≡ []). inl (ap least e)) (λ (c : Contains (edges_in sets) 0). inr c) (sets_start sets);
}
  where
    least : List AddressSet → Option ℕ
    least ss = reduce min (map (λ s. s.unit) ss)
