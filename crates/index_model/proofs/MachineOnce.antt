-- Each job is drawn once at most, and one output at most is taken of it.
use Rattle.std.proofs.Common.{◌≡◌, ℕ, zero, suc, ◌+◌, ◌≤◌, Bool, true, false, ◌&&◌, ◌||◌, cond, eqb, ltb, List, [], ◌∷◌, ◌++◌, length, count_by, filter_map, replicate, Option, Some, None, refl, ap, sym, ◌∙◌, arith, length-append, add-one}
use Rattle.std.proofs.lemmas.Bool.Decides.{nat_tests}
use Rattle.std.proofs.lemmas.Bool.{eqb-true, eqb-false, and_parts}
use Rattle.std.proofs.lemmas.List.Sums.{sum_by-append}
use Rattle.std.specs.Prelude.{slice_get, slice_set, is_none, option_to_list}
use Rattle.std.specs.List.{list_any}
use Rattle.ix_base.specs.declared.fault.Fault.{Fault}
use Rattle.index_model.specs.Machine.{Row, JobPlace, place_of_job, State, Output, is_stopped, jobs_at}
use Rattle.index_model.specs.MachineEvents.{Event, Draw, Finish, Look, after_event, all_drawn, all_finished, drawn_by, finished_by, has_next, is_running, is_open, is_memory, settled, decided, closing, least_fault, with_output, made_in}
use Rattle.index_model.specs.LawsMachine.{EachJobOnce, same_job}

-- how often a job can still be drawn
abbrev times_left : ℕ → ℕ → JobPlace → ℕ
times_left closed drawn j = cond (ltb j.kind closed) 0 (cond (eqb j.kind closed && ltb j.number drawn) 0 1)

drawn_more : (closed drawn : ℕ) (j : JobPlace) → cond (eqb j.kind closed && eqb j.number drawn) 1 0 + times_left closed (suc drawn) j ≤ times_left closed drawn j
drawn_more closed drawn j = grind (arith, nat_tests)

next_kind : (closed drawn : ℕ) (j : JobPlace) → times_left (suc closed) 0 j ≤ times_left closed drawn j
next_kind closed drawn j = grind (arith, nat_tests)

at_most_one : (closed drawn : ℕ) (j : JobPlace) → times_left closed drawn j ≤ 1
at_most_one closed drawn j = grind (arith, nat_tests)

module _ {Made : Type 0} (plan : List Row) (j : JobPlace) where
  abbrev draws_left : State Made → ℕ
  draws_left s = times_left (length s.closed) s.drawn j

  closing_draws : (s : State Made) (f : Option Fault) → draws_left (closing plan s f) ≤ draws_left s
  closing_draws s (Some f) = omega arith
  closing_draws s None = rw (length-append s.closed (filter_map made_in s.brought ∷ [])) (rw (add-one (length s.closed)) (next_kind (length s.closed) s.drawn j))

  settled_draws : (s : State Made) (memory : Bool) → draws_left (settled plan s memory) ≤ draws_left s
  settled_draws s true = omega arith
  settled_draws s false = elim (is_stopped s.end) as (λ b. draws_left (cond b s (decided plan s)) ≤ draws_left s) [
    | true ↦ omega arith
    | false ↦ elim (list_any is_none s.brought) as (λ b. draws_left (cond b s (closing plan s (least_fault s.brought))) ≤ draws_left s) [
      | true ↦ omega arith
      | false ↦ closing_draws s (least_fault s.brought)
    ]
  ]

  module _ {Query : Type 0} where
    draw_step : (s : State Made) (e : Event Made Query) → count_by (same_job j) (drawn_by s e) + draws_left (after_event plan s e) ≤ draws_left s
    draw_step s (Draw actor) = elim (has_next s) as (λ b. count_by (same_job j) (option_to_list (cond b (Some (record { kind = length s.closed; number = s.drawn })) None)) + draws_left (cond b (record s { drawn = suc s.drawn }) s) ≤ draws_left s) [
      | true ↦ omega (arith, drawn_more (length s.closed) s.drawn j)
      | false ↦ omega arith
    ]
    draw_step s (Finish actor job output refused) = elim (is_running s (place_of_job job)) as (λ b. 0 + draws_left (cond b (settled plan (with_output s (place_of_job job).number output) (is_memory output || refused)) s) ≤ draws_left s) [
      | true ↦ omega (arith, settled_draws (with_output s (place_of_job job).number output) (is_memory output || refused))
      | false ↦ omega arith
    ]
    draw_step s (Look actor query) = omega arith

    pub draws : (s : State Made) (es : List (Event Made Query)) → count_by (same_job j) (all_drawn plan s es) ≤ draws_left s
    unfolding all_drawn
    draws s [] = omega arith
    draws s (e ∷ es) = omega (arith, sum_by-append (λ (x : JobPlace). cond (same_job j x) 1 0) (drawn_by s e) (all_drawn plan (after_event plan s e) es), draw_step s e, draws (after_event plan s e) es)

-- ---- finished

get_set_same : {A : Type 0} (xs : List A) (i : ℕ) (v y : A) → slice_get xs i ≡ Some y → slice_get (slice_set xs i v) i ≡ Some v
get_set_same [] i v y e = absurd cc
get_set_same (x ∷ xs) zero v y e = refl
get_set_same (x ∷ xs) (suc i) v y e = get_set_same xs i v y e

get_set_other : {A : Type 0} (xs : List A) (i k : ℕ) (v : A) → (i ≡ k → ⊥) → slice_get (slice_set xs i v) k ≡ slice_get xs k
get_set_other [] i k v ne = refl
get_set_other (x ∷ xs) zero zero v ne = absurd (ne refl)
get_set_other (x ∷ xs) zero (suc k) v ne = refl
get_set_other (x ∷ xs) (suc i) zero v ne = refl
get_set_other (x ∷ xs) (suc i) (suc k) v ne = get_set_other xs i k v (λ e. ne (ap (λ (n : ℕ). suc n) e))

abbrev is_done : {Made : Type 0} → Option (Option (Output Made)) → Bool
is_done None = false
is_done (Some None) = false
is_done (Some (Some o)) = true

pub open_not_done : {Made : Type 0} (o : Option (Option (Output Made))) → is_open o ≡ true → (is_done o ≡ false) × (o ≡ Some None)
open_not_done None e = absurd cc
open_not_done (Some None) e = (refl, refl)
open_not_done (Some (Some o)) e = absurd cc

abbrev left_if : ℕ → ℕ → Bool → ℕ
left_if kind closed done = cond (ltb kind closed) 0 (cond (eqb kind closed && done) 0 1)

left_most : (kind closed : ℕ) (done : Bool) → left_if kind closed done ≤ 1
left_most kind closed done = grind (arith, nat_tests)

left_next : (kind closed : ℕ) (done : Bool) → left_if kind (suc closed) false ≤ left_if kind closed done
left_next kind closed done = grind (arith, nat_tests)

one_less : (kind closed : ℕ) → cond (eqb kind closed && true) 1 0 + left_if kind closed true ≤ left_if kind closed false
one_less kind closed = grind (arith, nat_tests)

none_less : (kind other closed : ℕ) (done : Bool) → cond (eqb kind other && false) 1 0 + left_if kind closed done ≤ left_if kind closed done
none_less kind other closed done = grind (arith, nat_tests)

none_done : (Made : Type 0) (n k : ℕ) → is_done {Made = Made} (slice_get (replicate n None) k) ≡ false
none_done Made zero k = refl
none_done Made (suc n) zero = refl
none_done Made (suc n) (suc k) = none_done Made n k

module _ {Made : Type 0} (plan : List Row) (j : JobPlace) where
  -- how often an output of a job can still be taken
  abbrev finishes_left : State Made → ℕ
  finishes_left s = left_if j.kind (length s.closed) (is_done (slice_get s.brought j.number))

  closing_finishes : (s : State Made) (f : Option Fault) → finishes_left (closing plan s f) ≤ finishes_left s
  closing_finishes s (Some f) = omega arith
  closing_finishes s None =
      let closed = s.closed ++ filter_map made_in s.brought ∷ [] in
      rw (none_done Made (jobs_at plan (length closed)) j.number, length-append s.closed (filter_map made_in s.brought ∷ []), add-one (length s.closed)) (left_next j.kind (length s.closed) (is_done (slice_get s.brought j.number)))

  settled_finishes : (s : State Made) (memory : Bool) → finishes_left (settled plan s memory) ≤ finishes_left s
  settled_finishes s true = omega arith
  settled_finishes s false = elim (is_stopped s.end) as (λ b. finishes_left (cond b s (decided plan s)) ≤ finishes_left s) [
    | true ↦ omega arith
    | false ↦ elim (list_any is_none s.brought) as (λ b. finishes_left (cond b s (closing plan s (least_fault s.brought))) ≤ finishes_left s) [
      | true ↦ omega arith
      | false ↦ closing_finishes s (least_fault s.brought)
    ]
  ]

  output_finishes : (s : State Made) (job : JobPlace) (o : Output Made) → is_running s job ≡ true → cond (same_job j job) 1 0 + finishes_left (with_output s job.number o) ≤ finishes_left s
  output_finishes s job o running =
      let parts = and_parts (eqb job.kind (length s.closed) && ltb job.number s.drawn) (is_open (slice_get s.brought job.number)) running in
      let kind = and_parts (eqb job.kind (length s.closed)) (ltb job.number s.drawn) parts.0 in
      let at = open_not_done (slice_get s.brought job.number) parts.1 in
      elim (eqb j.number job.number) as (λ b. eqb j.number job.number ≡ b → cond (eqb j.kind job.kind && b) 1 0 + finishes_left (with_output s job.number o) ≤ finishes_left s) [
        | true ↦ λ same.
            let k : job.number ≡ j.number = sym (eqb-true _ _ same) in
            let before : is_done (slice_get s.brought j.number) ≡ false = ap (λ (n : ℕ). is_done (slice_get s.brought n)) (sym k) ∙ at.0 in
            let behind : is_done (slice_get (slice_set s.brought job.number (Some o)) j.number) ≡ true = ap (λ (n : ℕ). is_done (slice_get (slice_set s.brought job.number (Some o)) n)) (sym k) ∙ ap is_done (get_set_same s.brought job.number (Some o) None at.1) in
            rw (before, behind, eqb-true _ _ kind.0) (one_less j.kind (length s.closed))
        | false ↦ λ other. rw (get_set_other s.brought job.number j.number (Some o) (λ e. eqb-false _ _ other (sym e))) (none_less j.kind job.kind (length s.closed) (is_done (slice_get s.brought j.number)))
      ] refl

  module _ {Query : Type 0} where
    finish_step : (s : State Made) (e : Event Made Query) → count_by (same_job j) (finished_by s e) + finishes_left (after_event plan s e) ≤ finishes_left s
    finish_step s (Draw actor) = elim (has_next s) as (λ b. 0 + finishes_left (cond b (record s { drawn = suc s.drawn }) s) ≤ finishes_left s) [
      | true ↦ omega arith
      | false ↦ omega arith
    ]
    finish_step s (Finish actor job output refused) = elim (is_running s (place_of_job job)) as (λ b. is_running s (place_of_job job) ≡ b → count_by (same_job j) (cond b (place_of_job job ∷ []) []) + finishes_left (cond b (settled plan (with_output s (place_of_job job).number output) (is_memory output || refused)) s) ≤ finishes_left s) [
      | true ↦ λ running. omega (arith, output_finishes s (place_of_job job) output running, settled_finishes (with_output s (place_of_job job).number output) (is_memory output || refused))
      | false ↦ λ _. omega arith
    ] refl
    finish_step s (Look actor query) = omega arith

    pub finishes : (s : State Made) (es : List (Event Made Query)) → count_by (same_job j) (all_finished plan s es) ≤ finishes_left s
    unfolding all_finished
    finishes s [] = omega arith
    finishes s (e ∷ es) = omega (arith, sum_by-append (λ (x : JobPlace). cond (same_job j x) 1 0) (finished_by s e) (all_finished plan (after_event plan s e) es), finish_step s e, finishes (after_event plan s e) es)

-- no job is drawn or finished twice
pub each_job_once : {Made Query : Type 0} → EachJobOnce Made Query
each_job_once plan s es j = (omega (arith, draws plan j s es, at_most_one (length s.closed) s.drawn j), omega (arith, finishes plan j s es, left_most j.kind (length s.closed) (is_done (slice_get s.brought j.number))))
