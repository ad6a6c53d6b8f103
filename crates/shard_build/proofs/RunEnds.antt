-- The units of a run, up to its end or to its first fault.
use Rattle.std.proofs.Common.{◌≡◌, ℕ, ◌+◌, ◌-◌, ◌<◌, ◌≤◌, List, [], ◌∷◌, ◌++◌, length, take, drop, get_or, Some, Result, Ok, Err, refl, sym, ap, subst, ◌∙◌, arith, append_assoc, length-drop, length-take, inl, inr}
use Rattle.std.specs.Prelude.{slice_get, codes, IsOkAnd}
use Rattle.std.specs.List.{enumerate_from}
use Rattle.std.proofs.lemmas.List.{get_or-drop, get_or-take, take_more}
use Rattle.std.proofs.lemmas.List.FromFn.{length-enumerate_from, get_or-enumerate_from}
use Rattle.std.proofs.lemmas.Option.{get_or_from_slice_get, slice_get_cases}
use Rattle.std.proofs.Math.Seq.{take-add}
use Rattle.ix_base.specs.declared.code.TheConstants.{BAD_ABBREVIATION}
use Rattle.ix_base.specs.declared.fault.Fault.{Fault}
use Rattle.index_model.specs.Gives.{Stop}
use Rattle.ix_base.specs.declared.or_memory.OrMemory.TheVariants as stops
use Rattle.index_model.specs.declared.unit.Unit.{Unit as UnitHeader}
use Rattle.index_model.specs.Faults.{scanned}
use Rattle.index_model.specs.Gives.{StopsAs}
use Rattle.index_model.specs.Abbreviations.{table}
use Rattle.index_model.specs.Meaning.{each, fault, some_or}
use Rattle.index_model.specs.Program.{Walked, walked}
use Rattle.index_model.specs.Sections.{Section, section_bytes}
use Rattle.index_model.specs.Strings.{str}
use Rattle.index_model.specs.Shards.{first_number}
use Rattle.shard_build.specs.declared.run.ShardSoFar.{ShardSoFar}
use Rattle.shard_build.specs.Runs.{Holds, HoldsOneMore}
use Rattle.index_model.proofs.Meanings.{bind_ok, same_ok}
use Rattle.index_model.proofs.Scans.{scanned_walked, walked_read}

-- ---- what is given of each

module _ {A B E : Type 0} (f : A → Result B E) where
  each_push : (xs : List A) (ys : List B) (x : A) (y : B) → each f xs ≡ Ok ys → f x ≡ Ok y → each f (xs ++ x ∷ []) ≡ Ok (ys ++ y ∷ [])
  each_push [] ys x y h e = let none : [] ≡ ys = same_ok [] ys h in rw e (ap {B = Result (List B) E} (λ (zs : List B). Ok (zs ++ y ∷ [])) none)
  each_push (a ∷ xs) ys x y h e =
      let p = bind_ok (f a) _ ys h in
      let q = bind_ok (each f xs) _ ys p.2 in
      let later = each_push xs q.0 x y q.1 e in
      let all : p.0 ∷ q.0 ≡ ys = same_ok (p.0 ∷ q.0) ys q.2 in
      rw (p.1, later) (ap {B = Result (List B) E} (λ (zs : List B). Ok (zs ++ y ∷ [])) all)

  each_stop : (xs : List A) (ys : List B) (x : A) (zs : List A) (e : E) → each f xs ≡ Ok ys → f x ≡ Err e → each f (xs ++ x ∷ zs) ≡ Err e
  each_stop [] ys x zs e h stop = rw stop refl
  each_stop (a ∷ xs) ys x zs e h stop =
      let p = bind_ok (f a) _ ys h in
      let q = bind_ok (each f xs) _ ys p.2 in
      rw (p.1, each_stop xs q.0 x zs e q.1 stop) refl

-- ---- the units of a run

abbrev Numbered : Type 0
Numbered = ℕ × UnitHeader

number_is : (ss : List Section) (x : Numbered) (w : Walked) → scanned ss x ≡ Ok w → x.0 ≡ w.number
number_is ss x w is = let r = walked_read ss x w (scanned_walked ss x w is).0 in ap (λ (v : Walked). v.number) r.1

first_of : (ss : List Section) (x : Numbered) (xs : List Numbered) (front : List Walked) → each (scanned ss) (x ∷ xs) ≡ Ok front → first_number front x.0
first_of ss x xs front is =
    let p = bind_ok (scanned ss x) _ front is in
    let q = bind_ok (each (scanned ss) xs) _ front p.2 in
    subst (λ (ws : List Walked). first_number ws x.0) (same_ok (p.0 ∷ q.0) front q.2) (number_is ss x p.0 p.1)

-- the units from the first one on
abbrev pub units_from : List UnitHeader → ℕ → List Numbered
units_from us first = drop first (enumerate_from 0 us)

-- what is kept of the units below a number
pub record SoFar (ss : List Section) (us : List UnitHeader) (first n : ℕ) (r : ShardSoFar) : Type 0 where
  pub front : List Walked
  pub read : each (scanned ss) (take (n - first) (units_from us first)) ≡ Ok front
  pub holds : Holds ss r front

module _ (ss : List Section) (us : List UnitHeader) (first count : ℕ) (fits : first + count ≤ length us) where
  abbrev all : List Numbered
  all = units_from us first

  enough : first + length all ≡ length us
  enough = omega (arith, fits, length-drop first (enumerate_from 0 us), length-enumerate_from 0 us)

  -- a number below the end of the run is that of a unit
  pub in_run : (n : ℕ) → n < first + count → (u : UnitHeader) × (slice_get us n ≡ Some u)
  in_run n high = elim (slice_get_cases us n).1 as (λ _. (u : UnitHeader) × (slice_get us n ≡ Some u)) [
    | inl here ↦ (here.0, here.2)
    | inr past ↦ absurd (omega (arith, fits, high, past.0))
  ]

  -- the unit with a number
  unit_at : (n : ℕ) (u : UnitHeader) (d : Numbered) → first ≤ n → n < first + count → slice_get us n ≡ Some u → get_or all (n - first) d ≡ (n, u)
  unit_at n u d low high is =
      let place : first + (n - first) ≡ n = omega (arith, low) in
      let within : n < length us = omega (arith, high, fits) in
      let number : 0 + n ≡ n = omega arith in
      get_or-drop first (enumerate_from 0 us) (n - first) d ∙
      ap (λ (k : ℕ). get_or (enumerate_from 0 us) k d) place ∙
      get_or-enumerate_from 0 us n d within ∙
      ap (λ (k : ℕ). let made : Numbered = (k, get_or us n d.1) in made) number ∙
      ap (λ (v : UnitHeader). let made : Numbered = (n, v) in made) (get_or_from_slice_get us n u d.1 is)

  module _ (n : ℕ) (u : UnitHeader) (low : first ≤ n) (high : n < first + count) (is : slice_get us n ≡ Some u) where
    -- the units up to this one
    take_unit : take (n + 1 - first) all ≡ take (n - first) all ++ (n, u) ∷ []
    take_unit =
        let next : n + 1 - first ≡ n - first + 1 = omega (arith, low) in
        let within : n - first < length all = omega (arith, low, high, fits, enough) in
        ap (λ (k : ℕ). take k all) next ∙ take_more all (n - first) (n, u) within ∙ ap (λ (x : Numbered). take (n - first) all ++ x ∷ []) (unit_at n u (n, u) low high is)

    -- the whole run, with this unit in it
    take_run : take count all ≡ take (n - first) all ++ (n, u) ∷ take (count - (n + 1 - first)) (drop (n + 1 - first) all)
    take_run =
        let rest : List Numbered = take (count - (n + 1 - first)) (drop (n + 1 - first) all) in
        let parts : count ≡ (n + 1 - first) + (count - (n + 1 - first)) = omega (arith, low, high) in
        ap (λ (k : ℕ). take k all) parts ∙ take-add (n + 1 - first) (count - (n + 1 - first)) all ∙ ap (λ (xs : List Numbered). xs ++ rest) take_unit ∙ append_assoc (take (n - first) all) ((n, u) ∷ []) rest

    pub read_more : (front : List Walked) (w : Walked) → each (scanned ss) (take (n - first) all) ≡ Ok front → scanned ss (n, u) ≡ Ok w → each (scanned ss) (take (n + 1 - first) all) ≡ Ok (front ++ w ∷ [])
    read_more front w h e = ap (each (scanned ss)) take_unit ∙ each_push (scanned ss) (take (n - first) all) front (n, u) w h e

    stopped : (front : List Walked) (f : Fault) → each (scanned ss) (take (n - first) all) ≡ Ok front → scanned ss (n, u) ≡ Err f → each (scanned ss) (take count all) ≡ Err f
    stopped front f h e = ap (each (scanned ss)) take_run ∙ each_stop (scanned ss) (take (n - first) all) front (n, u) _ f h e

    -- where the unit stops the run does
    pub run_stops : (front : List Walked) (s : Stop) → each (scanned ss) (take (n - first) all) ≡ Ok front → StopsAs s (scanned ss (n, u)) → StopsAs s (each (scanned ss) (take count all))
    run_stops front stops.Memory h e = tt
    run_stops front (stops.Cause f) h e = stopped front f h e

  -- the first walk of the run is that of the first unit
  pub first_is : (front : List Walked) → each (scanned ss) (take count all) ≡ Ok front → first_number front first
  first_is front is = by_units (take count all) refl
    where
      by_units : (xs : List Numbered) → take count all ≡ xs → first_number front first
      by_units [] same = subst (λ (ws : List Walked). first_number ws first) (same_ok [] front (sym (ap (each (scanned ss)) same) ∙ is)) tt
      by_units (x ∷ xs) same =
          let some : 0 < count = omega (arith, ap (λ (ys : List Numbered). length ys) same, length-take count all) in
          let within : first < length us = omega (arith, some, fits) in
          let here : x ≡ get_or all 0 x = ap (λ (ys : List Numbered). get_or ys 0 x) (sym same) ∙ get_or-take count all 0 x some in
          let there : get_or all 0 x ≡ (0 + (first + 0), get_or us (first + 0) x.1) = get_or-drop first (enumerate_from 0 us) 0 x ∙ get_or-enumerate_from 0 us (first + 0) x (omega (arith, within)) in
          let number : x.0 ≡ first = omega (arith, ap (λ (y : Numbered). y.0) (here ∙ there)) in
          subst (λ (n : ℕ). first_number front n) number (first_of ss x xs front (sym (ap (each (scanned ss)) same) ∙ is))

  -- before the first unit nothing is kept
  pub so_far_none : (r : ShardSoFar) → r.roots.items ≡ [] → r.kept.nodes.nodes ≡ [] → r.kept.nodes.strings ≡ str ss → r.kept.spans ≡ [] → r.kept.imports.items ≡ [] → SoFar ss us first first r
  so_far_none r roots nodes strings spans imports =
      let zero_units : first - first ≡ 0 = omega arith in
      record {
        front = [];
        read = ap (λ (n : ℕ). each (scanned ss) (take n all)) zero_units;
        holds = record { roots = roots; nodes = rw nodes tt; strings = strings; spans = spans; imports = imports };
      }

  -- one unit more
  pub so_far_more : (n : ℕ) (u : UnitHeader) (old new : ShardSoFar) → first ≤ n → n < first + count → slice_get us n ≡ Some u → SoFar ss us first n old → IsOkAnd (scanned ss (n, u)) (λ w. HoldsOneMore ss old new w) → SoFar ss us first (n + 1) new
  so_far_more n u old new low high is h more = by_unit (scanned ss (n, u)) refl more
    where
      by_unit : (r : Result Walked Fault) → scanned ss (n, u) ≡ r → IsOkAnd r (λ w. HoldsOneMore ss old new w) → SoFar ss us first (n + 1) new
      by_unit (Ok w) e k = record { front = h.front ++ w ∷ []; read = read_more n u low high is h.front w h.read e; holds = k h.front h.holds }
      by_unit (Err f) e k = absurd k

-- damaged abbreviations are the first fault of their unit
pub table_stops : (ss : List Section) (u : Numbered) (bytes : List ℕ) (s : Stop) → bytes ≡ section_bytes ss (codes ".debug_abbrev") → StopsAs s (some_or (table bytes u.1.«abbrev») (fault BAD_ABBREVIATION u.1.start)) → StopsAs s (scanned ss u)
unfolding walked scanned
table_stops ss u bytes stops.Memory is h = tt
table_stops ss u bytes (stops.Cause f) is h =
    let here : some_or (table (section_bytes ss (codes ".debug_abbrev")) u.1.«abbrev») (fault BAD_ABBREVIATION u.1.start) ≡ Err f = ap (λ (xs : List ℕ). some_or (table xs u.1.«abbrev») (fault BAD_ABBREVIATION u.1.start)) (sym is) ∙ h in
    rw here refl
