-- The units of a run, one after the other.
use Rattle.std.proofs.Common.{◌≡◌, ◌+◌, ◌-◌, ◌<◌, ℕ, suc, List, ◌∷◌, flat_map, length, drop, Some, Result, Ok, Err, refl, sym, ap, ◌∙◌, arith, add-one, append_assoc, inl, inr}
use Rattle.std.specs.Prelude.{slice_get}
use Rattle.std.proofs.Math.Seq.{drop-cons}
use Rattle.std.proofs.lemmas.Option.{get_or_from_slice_get, slice_get_cases, slice_get_within}
use Rattle.ix_base.specs.declared.fault.Fault.{Fault}
use Rattle.index_model.specs.Gives.{Stop}
use Rattle.ix_base.specs.declared.or_memory.OrMemory.TheVariants as stops
use Rattle.index_model.specs.declared.unit.Unit.{Unit as UnitHeader}
use Rattle.index_model.specs.Gives.{StopsAs}
use Rattle.index_model.specs.Meaning.{◌>>=◌, each}
use Rattle.index_model.specs.Sections.{Section}
use Rattle.file_image.specs.Front.{with_front}
use Rattle.file_image.specs.Images.{Image}
use Rattle.reach_model.specs.LineTables.{FileHit}
use Rattle.line_files.specs.Runs.{all_hits, hits_between, joined, unit_hits_by, units_between}

-- those in front come first
pub with_front-joined : (front : List FileHit) (r s : Result (List FileHit) Fault) → with_front front (joined r s) ≡ joined (with_front front r) s
with_front-joined front (Ok hs) (Ok more) = ap (λ (all : List FileHit). all_of all) (sym (append_assoc front hs more))
  where
    all_of : List FileHit → Result (List FileHit) Fault
    all_of hs = Ok hs
with_front-joined front (Ok hs) (Err f) = refl
with_front-joined front (Err f) s = refl

module _ (ss : List Section) (name : List ℕ) where
  -- the files of the first unit come first
  pub all_hits-cons : (u : ℕ × UnitHeader) (us : List (ℕ × UnitHeader)) → all_hits ss name (u ∷ us) ≡ joined (unit_hits_by ss name u) (all_hits ss name us)
  all_hits-cons u us = by (unit_hits_by ss name u) (each (unit_hits_by ss name) us)
    where
      by : (r : Result (List FileHit) Fault) (rs : Result (List (List FileHit)) Fault) →
          ((r >>= λ y. rs >>= λ ys. Ok (y ∷ ys)) >>= λ hits. Ok (flat_map (λ found. found) hits)) ≡ joined r (rs >>= λ hits. Ok (flat_map (λ found. found) hits))
      by (Ok h) (Ok hs) = refl
      by (Ok h) (Err f) = refl
      by (Err f) rs = refl

-- the unit with a number comes first
units_first : (us : List UnitHeader) (from to : ℕ) (u : UnitHeader) → from < to → slice_get us from ≡ Some u → units_between us from to ≡ (from, u) ∷ units_between us (from + 1) to
units_first us from to u lt is =
    let within = slice_get_within us from u is in
    let left : drop from us ≡ u ∷ drop (from + 1) us = rw (add-one, drop-cons us from u) (ap (λ (v : UnitHeader). v ∷ drop (suc from) us) (get_or_from_slice_get us from u u is)) in
    let count : to - from ≡ suc (to - (from + 1)) = omega arith in
    rw (count, left) refl

module _ (im : Image) (name : List ℕ) (front : List FileHit) (from to : ℕ) (u : UnitHeader) (lt : from < to) (is : slice_get im.units from ≡ Some u) where
  first_unit : with_front front (hits_between im name from to) ≡ joined (with_front front (unit_hits_by im.sections name (from, u))) (hits_between im name (from + 1) to)
  first_unit =
      ap (λ (us : List (ℕ × UnitHeader)). with_front front (all_hits im.sections name us)) (units_first im.units from to u lt is)
      ∙ ap (with_front front) (all_hits-cons im.sections name (from, u) (units_between im.units (from + 1) to))
      ∙ with_front-joined front (unit_hits_by im.sections name (from, u)) (hits_between im name (from + 1) to)

  -- one unit more
  pub unit_added : (new : List FileHit) → with_front front (unit_hits_by im.sections name (from, u)) ≡ Ok new → with_front front (hits_between im name from to) ≡ with_front new (hits_between im name (from + 1) to)
  unit_added new h = first_unit ∙ ap (λ (r : Result (List FileHit) Fault). joined r (hits_between im name (from + 1) to)) h

  -- where the unit stops the run does
  pub unit_stops : (s : Stop) → StopsAs s (with_front front (unit_hits_by im.sections name (from, u))) → StopsAs s (with_front front (hits_between im name from to))
  unit_stops stops.Memory h = tt
  unit_stops (stops.Cause f) h = first_unit ∙ ap (λ (r : Result (List FileHit) Fault). joined r (hits_between im name (from + 1) to)) h

-- there is a unit with each number
pub some_unit : (us : List UnitHeader) (n : ℕ) → n < length us → (u : UnitHeader) × (slice_get us n ≡ Some u)
some_unit us n lt = elim (slice_get_cases us n).1 as (λ _. (u : UnitHeader) × (slice_get us n ≡ Some u)) [
  | inl here ↦ (here.0, here.2)
  | inr past ↦ absurd (omega (arith, lt, past.0))
]
