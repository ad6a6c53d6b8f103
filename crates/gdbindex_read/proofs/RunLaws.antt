-- Runs of elements of units in the constant pool.
use Rattle.std.proofs.Common.{◌≡◌, ◌≢◌, ℕ, zero, suc, ◌+◌, ◌*◌, ◌<◌, ◌≤◌, Bool, true, false, ◌&&◌, cond, eqb, leb, List, length, get_or, map, set, Some, refl, sym, ap, subst, ◌∙◌, arith}
use mathlib.Core.Bool.{true≢false}
use Rattle.std.specs.Prelude.{nat_lt}
use Rattle.std.specs.List.{list_all, range_with_len}
use Rattle.std.proofs.lemmas.Bool.{eqb-true}
use Rattle.std.proofs.lemmas.Bool.Decides.{nat_tests}
use Rattle.std.proofs.lemmas.List.{get_or-set_same, get_or-set_other}
use Rattle.std.proofs.lemmas.List.FromFn.{length-map-range_with_len}
use Rattle.std.proofs.lemmas.Option.{cond_some}
use Rattle.index_model.specs.GdbIndexRead.{unit_in}
use Rattle.index_model.specs.Layout.{below, field}
use Rattle.gdbindex_read.specs.Pool.{vector_in}
use Rattle.gdbindex_read.specs.Runs.{AreRuns, IsRun}

module _ (pool : List ℕ) (units : ℕ) where
  pub no_run : (place n : ℕ) → n ≡ 0 → IsRun pool units place n
  no_run place n none i lt = absurd (omega (arith, none, lt))

  -- a longer run than is said is a run
  pub shorter : (place m n : ℕ) → n ≤ m → IsRun pool units place m → IsRun pool units place n
  shorter place m n le run i lt = run i (omega (arith, le, lt))

  -- an element of a unit before a run
  pub longer : (place n : ℕ) → nat_lt (unit_in (field 4 place pool)) units ≡ true → IsRun pool units (place + 4) n → IsRun pool units place (n + 1)
  longer place n is run zero lt = let at : place + 4 * 0 ≡ place = omega arith in ap (λ (k : ℕ). nat_lt (unit_in (field 4 k pool)) units) at ∙ is
  longer place n is run (suc i) lt = let at : place + 4 * suc i ≡ (place + 4) + 4 * i = omega arith in ap (λ (k : ℕ). nat_lt (unit_in (field 4 k pool)) units) at ∙ run i (omega (arith, lt))

  pub runs_more : (lengths : List ℕ) (place n : ℕ) → place < length lengths → AreRuns pool units lengths → IsRun pool units place n → AreRuns pool units (set lengths place n)
  runs_more lengths place n inside runs run p = by (eqb p place) refl
    where
      by : (b : Bool) → eqb p place ≡ b → IsRun pool units p (get_or (set lengths place n) p 0)
      by true e =
          let is = eqb-true p place e in
          let own : get_or (set lengths place n) p 0 ≡ n = ap (λ (k : ℕ). get_or (set lengths place n) k 0) is ∙ get_or-set_same lengths place n 0 inside in
          subst (IsRun pool units p) (sym own) (subst (λ (k : ℕ). IsRun pool units k n) (sym is) run)
      by false e =
          let other : p ≢ place = λ is. true≢false (sym (let same : eqb p place ≡ true = grind (arith, nat_tests) in same) ∙ e) in
          subst (IsRun pool units p) (sym (get_or-set_other lengths place p n 0 other)) (runs p)

  all_of : (f : ℕ → ℕ) (a n : ℕ) → ((i : ℕ) → i < n → nat_lt (unit_in (f (a + i))) units ≡ true) → list_all (λ e. nat_lt (unit_in e) units) (map f (range_with_len a n)) ≡ true
  all_of f a zero each = refl
  all_of f a (suc n) each =
      let here : a + 0 ≡ a = omega arith in
      let first = ap (λ (k : ℕ). nat_lt (unit_in (f k)) units) (sym here) ∙ each 0 (omega arith) in
      rw first (all_of f (a + 1) n (λ i lt. let at : (a + 1) + i ≡ a + suc i = omega arith in ap (λ (k : ℕ). nat_lt (unit_in (f k)) units) at ∙ each (suc i) (omega (arith, lt))))

  -- a vector in a run
  pub vector_in_run : (offset : ℕ) (elements : List ℕ) → Some elements ≡ vector_in pool offset → IsRun pool units (offset + 4) (length elements) → list_all (λ e. nat_lt (unit_in e) units) elements ≡ true
  vector_in_run offset elements e run =
      let count : ℕ = cond (leb (4 * field 4 offset pool) (length pool)) (field 4 offset pool) 0 in
      let f = λ (k : ℕ). field 4 (offset + 4 + 4 * k) pool in
      let are : map f (below count) ≡ elements = (cond_some (leb (offset + 4) (length pool) && leb (offset + 4 + 4 * field 4 offset pool) (length pool)) (map f (below count)) elements (sym e)).1 in
      let many : length elements ≡ count = ap length (sym are) ∙ length-map-range_with_len f 0 count in
      ap (list_all (λ (x : ℕ). nat_lt (unit_in x) units)) (sym are) ∙ all_of f 0 count (λ i lt. let at : 0 + i ≡ i = omega arith in ap (λ (k : ℕ). nat_lt (unit_in (f k)) units) at ∙ run i (omega (arith, many, lt)))
