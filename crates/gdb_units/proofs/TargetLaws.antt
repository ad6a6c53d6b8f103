-- What units import, one import after the other.
use Rattle.std.proofs.Common.{◌≡◌, ℕ, zero, suc, ◌+◌, ◌<◌, Bool, true, false, cond, eqb, List, [], ◌∷◌, ◌++◌, length, get_or, set, drop, Option, Some, None, Vec, Global, refl, sym, ap, subst, ◌∙◌, arith, ⊎_elim, append_assoc}
use Rattle.std.specs.Prelude.{filter, filter_map}
use Rattle.std.specs.List.{cons_option}
use Rattle.std.specs.List.Sorted.{IsNonDecreasingBy}
use Rattle.std.proofs.Math.Seq.{drop-cons}
use Rattle.std.proofs.lemmas.Bool.{eq-eqb, ne_eqb, cases_eq}
use Rattle.index_model.specs.declared.shard.Import.{Import}
use Rattle.gdb_units.specs.declared.units.UnitRoot.{UnitRoot}
use Rattle.gdb_units.specs.declared.partial_roots.PartialRoot.{PartialRoot}
use Rattle.gdb_units.specs.Imported.{RootsRise, partial_roots, unit_at, targets_of, targets_in, with_target}

module _ (units : List UnitRoot) (u : ℕ) where
  -- what an import of a unit leaves, if it has a target
  abbrev pub with_found : ℕ → Option ℕ → List ℕ → List ℕ
  with_found unit None own = own
  with_found unit (Some t) own = with_target unit t u own

  -- the next import
  pub next_target : (own : List ℕ) (i : Import) (imports : List Import) (all : List ℕ) (o : Option ℕ) → unit_at (partial_roots units) i.target ≡ o → own ++ targets_of units u (i ∷ imports) ≡ all → with_found i.unit o own ++ targets_of units u imports ≡ all
  next_target own i imports all o is h = by (eqb i.unit u) refl o is
    where
      at : Import → Option ℕ
      at x = unit_at (partial_roots units) x.target

      fits : List Import
      fits = filter (λ x. eqb x.unit u) imports

      rest : List ℕ
      rest = targets_of units u imports

      -- by whether the import is the unit's own
      when : Bool → List ℕ
      when b = own ++ filter_map at (cond b (i ∷ fits) fits)

      by : (b : Bool) → eqb i.unit u ≡ b → (o : Option ℕ) → at i ≡ o → with_found i.unit o own ++ rest ≡ all
      by true e None is = ap (λ (x : Option ℕ). own ++ cons_option x rest) (sym is) ∙ ap when (sym e) ∙ h
      by true e (Some t) is =
          ap (λ (b : Bool). cond b (own ++ t ∷ []) own ++ rest) e ∙
          append_assoc own (t ∷ []) rest ∙
          ap (λ (x : Option ℕ). own ++ cons_option x rest) (sym is) ∙
          ap when (sym e) ∙
          h
      by false e None is = ap when (sym e) ∙ h
      by false e (Some t) is = ap (λ (b : Bool). cond b (own ++ t ∷ []) own ++ rest) e ∙ ap when (sym e) ∙ h

-- ---- what is kept of a unit

abbrev Kept : Type 0
Kept = List (Vec ℕ Global)

set_same : (ts : Kept) (k : ℕ) (own new : Vec ℕ Global) (t : ℕ) → k < length ts → own ≡ get_or ts k own → new.items ≡ own.items ++ t ∷ [] → targets_in (set ts k new) k ≡ targets_in ts k ++ t ∷ []
set_same [] k own new t lt is e = absurd (omega arith)
set_same (v ∷ vs) zero own new t lt is e = e ∙ ap (λ (x : Vec ℕ Global). x.items ++ t ∷ []) is
set_same (v ∷ vs) (suc k) own new t lt is e = set_same vs k own new t (omega (arith, lt)) is e

set_other : (ts : Kept) (k : ℕ) (new : Vec ℕ Global) (u : ℕ) → (u ≡ k → ⊥) → targets_in (set ts k new) u ≡ targets_in ts u
set_other [] k new u ne = refl
set_other (v ∷ vs) zero new zero ne = absurd (ne refl)
set_other (v ∷ vs) zero new (suc u) ne = refl
set_other (v ∷ vs) (suc k) new zero ne = refl
set_other (v ∷ vs) (suc k) new (suc u) ne = set_other vs k new u (λ e. ne (omega (arith, e)))

-- one target more of one unit
pub set_target : (ts : Kept) (k : ℕ) (own new : Vec ℕ Global) (t : ℕ) → k < length ts → own ≡ get_or ts k own → new.items ≡ own.items ++ t ∷ [] → (u : ℕ) → targets_in (set ts k new) u ≡ with_target k t u (targets_in ts u)
set_target ts k own new t lt is e u = ⊎_elim
    (λ (same : u ≡ k). ap (targets_in (set ts k new)) same ∙ set_same ts k own new t lt is e ∙ sym (
    ap (λ (x : ℕ). with_target k t x (targets_in ts x)) same ∙ ap (λ (b : Bool). cond b (targets_in ts k ++ t ∷ []) (targets_in ts k)) (eq-eqb k k refl)))
    (λ (ne : u ≡ k → ⊥). set_other ts k new u ne ∙ sym (ap (λ (b : Bool). cond b (targets_in ts u ++ t ∷ []) (targets_in ts u)) (ne_eqb k u (λ c. ne (sym c)))))
    (cases_eq u k)

-- what is kept of the unit that is read
pub kept_of : (ts : Kept) (k : ℕ) (own : Vec ℕ Global) → k < length ts → own ≡ get_or ts k own → own.items ≡ targets_in ts k
kept_of [] k own lt is = absurd (omega arith)
kept_of (v ∷ vs) zero own lt is = ap (λ (x : Vec ℕ Global). x.items) is
kept_of (v ∷ vs) (suc k) own lt is = kept_of vs k own (omega (arith, lt)) is

-- ---- in a loop over the imports

pub found_here : (us : List UnitRoot) (now rs : List PartialRoot) (r : Option ℕ) (o : ℕ) → now ≡ rs → rs ≡ partial_roots us → (IsNonDecreasingBy (λ x. x.offset) now → r ≡ unit_at now o) → RootsRise us → unit_at (partial_roots us) o ≡ r
found_here us now rs r o a b f rise =
    let e : now ≡ partial_roots us = a ∙ b in
    sym (f (subst (λ (xs : List PartialRoot). IsNonDecreasingBy (λ x. x.offset) xs) (sym e) rise) ∙ ap (λ (xs : List PartialRoot). unit_at xs o) e)

pub import_next : (us : List UnitRoot) (is : List Import) (n : ℕ) (d : Import) (u : ℕ) (own : List ℕ) (o : Option ℕ) → n < length is → unit_at (partial_roots us) (get_or is n d).target ≡ o → own ++ targets_of us u (drop n is) ≡ targets_of us u is → with_found us u (get_or is n d).unit o own ++ targets_of us u (drop (n + 1) is) ≡ targets_of us u is
import_next us is n d u own o lt found h =
    let next : suc n ≡ n + 1 = omega arith in
    let cut : drop n is ≡ get_or is n d ∷ drop (n + 1) is = drop-cons is n d lt ∙ ap (λ (k : ℕ). get_or is n d ∷ drop k is) next in
    next_target us u own (get_or is n d) (drop (n + 1) is) (targets_of us u is) o found (ap (λ (xs : List Import). own ++ targets_of us u xs) (sym cut) ∙ h)

pub added_next : (us : List UnitRoot) (is : List Import) (n : ℕ) (d : Import) (u : ℕ) (old now new : Kept) (t : ℕ) → now ≡ old → ((v : ℕ) → v < length now → targets_in new v ≡ with_target (get_or is n d).unit t v (targets_in now v)) → n < length is → unit_at (partial_roots us) (get_or is n d).target ≡ Some t → targets_in old u ++ targets_of us u (drop n is) ≡ targets_of us u is → u < length old → targets_in new u ++ targets_of us u (drop (n + 1) is) ≡ targets_of us u is
added_next us is n d u old now new t same added lt found h within =
    let rest = targets_of us u (drop (n + 1) is) in
    let inside : u < length now = omega (arith, within, ap (λ (ts : Kept). length ts) same) in
    ap (λ (own : List ℕ). own ++ rest) (added u inside) ∙
    ap (λ (ts : Kept). with_target (get_or is n d).unit t u (targets_in ts u) ++ rest) same ∙
    import_next us is n d u (targets_in old u) (Some t) lt found h
