-- There are no more units than can be numbered.
use Rattle.std.proofs.Common.{◌≡◌, ◌<◌, ◌≤◌, ◌+◌, ℕ, zero, suc, Bool, true, false, subst, cond, eqb, ltb, List, [], ◌∷◌, ◌++◌, length, Result, Ok, refl, ap, sym, arith, length-append}
use Rattle.std.specs.Prelude.{codes}
use Rattle.std.proofs.lemmas.Bool.{ltb-true}
use Rattle.ix_base.specs.declared.fault.Fault.{Fault}
use Rattle.ix_base.specs.declared.code.TheConstants.{UNIT_LENGTH, TOO_MANY_UNITS}
use Rattle.ix_base.specs.declared.limits.TheConstants.{MAX_UNITS}
use Rattle.ix_base.specs.Reading.{Input, initial_length, part, input}
use Rattle.index_model.specs.declared.unit.Part.{Part}
use Rattle.index_model.specs.declared.unit.Part.TheVariants.{Info, Types}
use Rattle.index_model.specs.declared.unit.Unit.{Unit as UnitHeader}
use Rattle.index_model.specs.Meaning.{◌>>=◌, fault}
use Rattle.index_model.specs.Sections.{Section, section_bytes}
use Rattle.index_model.specs.Tiling.{up_to}
use Rattle.index_model.specs.Units.{next_unit, head, units_of}
use Rattle.index_model.proofs.Meanings.{bind_ok, some_ok, holds_ok, same_ok}
use Rattle.stage_core.specs.Cut.{units_in, HasUnits}

numbered : (section : Part) (base k : ℕ) (i : Input) (x : UnitHeader × Input) → next_unit section base k i ≡ Ok x → k < MAX_UNITS
unfolding next_unit
numbered section base k i x is =
    let place = base + i.at in
    let l = some_ok (initial_length i) (fault UNIT_LENGTH place) _ x is in
    let o = some_ok (part l.0.0.length l.0.1) (fault UNIT_LENGTH place) _ x l.2 in
    let h = bind_ok (head section place l.0.0.wide o.0.0) _ x o.2 in
    let t = holds_ok (ltb k MAX_UNITS) (fault TOO_MANY_UNITS place) _ x h.2 in
    ltb-true k MAX_UNITS t.0

-- the last of some items has a number that is small enough
data Few (k : ℕ) : List UnitHeader → Type 0 where
  none : Few k []
  some : {xs : List UnitHeader} → k + length xs ≤ MAX_UNITS → Few k xs

few_none : (k : ℕ) (xs : List UnitHeader) → [] ≡ xs → Few k xs
few_none k [] e = none
few_none k (x ∷ xs) e = absurd cc

few_more : (k : ℕ) (x : UnitHeader × Input) (others : List UnitHeader) → k < MAX_UNITS → Few (k + 1) others → Few k (x.0 ∷ others)
few_more k x [] lt few = some (omega (arith, lt))
few_more k x (y ∷ ys) lt (some within) = some (omega (arith, within))

module _ (section : Part) (base : ℕ) where
  abbrev rest_of : ℕ → ℕ → UnitHeader × Input → Result (List UnitHeader) Fault
  rest_of n k first = up_to n (next_unit section base) (k + 1) first.1 >>= λ others. Ok (first.0 ∷ others)

  few_step : (n k : ℕ) (i : Input) (xs : List UnitHeader) (x : UnitHeader × Input) → next_unit section base k i ≡ Ok x → rest_of n k x ≡ Ok xs → ((ys : List UnitHeader) → up_to n (next_unit section base) (k + 1) x.1 ≡ Ok ys → Few (k + 1) ys) → Few k xs
  few_step n k i xs x at rest later =
      let o = bind_ok (up_to n (next_unit section base) (k + 1) x.1) (λ others. Ok (x.0 ∷ others)) xs rest in
      subst (Few k) (same_ok (x.0 ∷ o.0) xs o.2) (few_more k x o.0 (numbered section base k i x at) (later o.0 o.1))

  few_by : (b : Bool) (n k : ℕ) (i : Input) (xs : List UnitHeader) → cond b (Ok []) (next_unit section base k i >>= rest_of n k) ≡ Ok xs → ((j : Input) (ys : List UnitHeader) → up_to n (next_unit section base) (k + 1) j ≡ Ok ys → Few (k + 1) ys) → Few k xs
  few_by true n k i xs is later = few_none k xs (same_ok [] xs is)
  few_by false n k i xs is later =
      let f = bind_ok (next_unit section base k i) (rest_of n k) xs is in
      few_step n k i xs f.0 f.1 f.2 (later f.0.1)

  few_up_to : (n k : ℕ) (i : Input) (xs : List UnitHeader) → up_to n (next_unit section base) k i ≡ Ok xs → Few k xs
  unfolding up_to
  few_up_to zero k i xs is = few_none k xs (same_ok [] xs is)
  few_up_to (suc n) k i xs is = few_by (eqb (length i.rest) 0) n k i xs is (λ j ys e. few_up_to n (k + 1) j ys e)

pub few_units : (ss : List Section) (us : List UnitHeader) → units_of ss ≡ Ok us → length us ≤ MAX_UNITS
unfolding units_of
few_units ss us is =
    let info = section_bytes ss (codes ".debug_info") in
    let types = section_bytes ss (codes ".debug_types") in
    let a = bind_ok (up_to (length (input info 0).rest) (next_unit Info 0) 0 (input info 0)) _ us is in
    let b = bind_ok (up_to (length (input types 0).rest) (next_unit Types (length info)) (length a.0) (input types 0)) _ us a.2 in
    let e : a.0 ++ b.0 ≡ us = same_ok (a.0 ++ b.0) us b.2 in
    by a.0 b.0 e (few_up_to Info 0 _ 0 _ a.0 a.1) (few_up_to Types (length info) _ (length a.0) _ b.0 b.1)
  where
    size : (xs : List UnitHeader) → Few 0 xs → length xs ≤ MAX_UNITS
    size [] none = omega arith
    size xs (some within) = omega (arith, within)

    by : (xs ys : List UnitHeader) → xs ++ ys ≡ us → Few 0 xs → Few (length xs) ys → length us ≤ MAX_UNITS
    by xs [] e few others = omega (arith, ap length (sym e), length-append xs [], size xs few)
    by xs (y ∷ ys) e few (some within) = omega (arith, ap length (sym e), length-append xs (y ∷ ys), within)

-- the units of the file
pub units_are : (file : List ℕ) (units : List UnitHeader) → HasUnits file units → units_in file ≡ units
unfolding units_in
units_are file units has = rw (has.sections_are, has.units_are) refl
