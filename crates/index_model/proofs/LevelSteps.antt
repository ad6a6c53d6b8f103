-- After each event the level is that which a step into the new stage gives.
use Rattle.std.proofs.Common.{◌≡◌, ℕ, suc, ◌<◌, Bool, true, false, ◌&&◌, ◌||◌, cond, eqb, ltb, leb, List, [], ◌∷◌, ◌++◌, length, filter_map, Option, Some, None, refl, arith, ap}
use Rattle.std.proofs.lemmas.Bool.{and_parts}
use Rattle.std.specs.Prelude.{slice_get, slice_set, is_none}
use Rattle.std.specs.List.{list_any}
use Rattle.ix_base.specs.declared.fault.Fault.{Fault}
use Rattle.index_model.specs.Stages.{level as level_behind}
use Rattle.index_model.specs.Machine.{JobPlace, place_of_job, State, Output, End, Going, Refused, Stopped, jobs_at, plan_for, level, stage}
use Rattle.index_model.specs.MachineEvents.{Event, Draw, Finish, Look, after_event, has_next, is_running, is_open, is_memory, settled, closing, least_fault, with_output, made_in}
use Rattle.index_model.proofs.MachineOnce.{open_not_done}
use Rattle.index_model.proofs.MachineHolds.{Kept, KeptAt, jobs_there}

either : (b : Bool) (n : ℕ) → n ≡ cond b n n
either true n = refl
either false n = refl

module _ {Made : Type 0} (runs : ℕ) where
  -- the level of a state is right behind a state of this level
  abbrev Follows : ℕ → State Made → Type 0
  Follows n t = level (plan_for runs) t ≡ level_behind n (stage (plan_for runs) t)

  abbrev state_with : List (List Made) → ℕ → List (Option (Output Made)) → End → State Made
  state_with closed drawn brought end = record { closed = closed; drawn = drawn; brought = brought; end = end }

  -- no kind closed
  pub still : (closed : List (List Made)) (drawn : ℕ) (brought : List (Option (Output Made))) (end : End) → Follows (level (plan_for runs) (state_with closed drawn brought end)) (state_with closed drawn brought end)
  still closed drawn brought Going = let n = level (plan_for runs) (state_with closed drawn brought Going) in either (leb 1 n && leb n 3) n
  still closed drawn brought (Refused f) = refl
  still closed drawn brought Stopped = refl

  -- the next kind opens
  opens : (closed : List (List Made)) (ms : List Made) (drawn : ℕ) (brought later : List (Option (Output Made))) → 0 < jobs_at (plan_for runs) (length closed) → Follows (level (plan_for runs) (state_with closed drawn brought Going)) (state_with (closed ++ ms ∷ []) 0 later Going)
  opens [] ms drawn brought later some = refl
  opens (a ∷ []) ms drawn brought later some = refl
  opens (a ∷ b ∷ []) ms drawn brought later some = refl
  opens (a ∷ b ∷ c ∷ []) ms drawn brought later some = refl
  opens (a ∷ b ∷ c ∷ d ∷ []) ms drawn brought later some = refl
  opens (a ∷ b ∷ c ∷ d ∷ e ∷ []) ms drawn brought later some = refl
  opens (a ∷ b ∷ c ∷ d ∷ e ∷ g ∷ rest) ms drawn brought later some = absurd (omega (arith, some))

  closes : (closed : List (List Made)) (drawn : ℕ) (brought : List (Option (Output Made))) (least : Option Fault) → 0 < jobs_at (plan_for runs) (length closed) → Follows (level (plan_for runs) (state_with closed drawn brought Going)) (closing (plan_for runs) (state_with closed drawn brought Going) least)
  closes closed drawn brought (Some f) some = refl
  closes closed drawn brought None some = opens closed (filter_map made_in brought) drawn brought [] some

  settles : (closed : List (List Made)) (drawn : ℕ) (brought : List (Option (Output Made))) (memory : Bool) → 0 < jobs_at (plan_for runs) (length closed) → Follows (level (plan_for runs) (state_with closed drawn brought Going)) (settled (plan_for runs) (state_with closed drawn brought Going) memory)
  settles closed drawn brought true some = refl
  settles closed drawn brought false some =
      let t = state_with closed drawn brought Going in
      elim (list_any is_none brought) as (λ b. Follows (level (plan_for runs) t) (cond b t (closing (plan_for runs) t (least_fault brought)))) [
        | true ↦ still closed drawn brought Going
        | false ↦ closes closed drawn brought (least_fault brought) some
      ]

  stops : (closed : List (List Made)) (drawn : ℕ) (brought : List (Option (Output Made))) (memory : Bool) → Follows (level (plan_for runs) (state_with closed drawn brought Stopped)) (settled (plan_for runs) (state_with closed drawn brought Stopped) memory)
  stops closed drawn brought true = refl
  stops closed drawn brought false = refl

module _ {Made : Type 0} (fault_at : JobPlace → Option Fault) (Makes : JobPlace → Made → Type 0) (runs : ℕ) where
  -- a running job brings an output
  output_levels : (closed : List (List Made)) (drawn : ℕ) (brought later : List (Option (Output Made))) (end : End) (number : ℕ) (memory : Bool) → KeptAt fault_at Makes (plan_for runs) closed brought end → slice_get brought number ≡ Some None →
      level (plan_for runs) (settled (plan_for runs) (state_with runs closed drawn later end) memory) ≡ level_behind (level (plan_for runs) (state_with runs closed drawn brought end)) (stage (plan_for runs) (settled (plan_for runs) (state_with runs closed drawn later end) memory))
  output_levels closed drawn brought later Stopped number memory k at = stops runs closed drawn later memory
  output_levels closed drawn brought later (Refused f) number memory k at = let e : is_open (slice_get brought number) ≡ true = ap is_open at in absurd (cc (k.1 number))
  output_levels closed drawn brought later Going number memory k at = settles runs closed drawn later memory (jobs_there fault_at Makes (length closed) 0 (jobs_at (plan_for runs) (length closed)) number brought k at)

  pub event_levels : {Query : Type 0} (t : State Made) (e : Event Made Query) → Kept fault_at Makes (plan_for runs) t → level (plan_for runs) (after_event (plan_for runs) t e) ≡ level_behind (level (plan_for runs) t) (stage (plan_for runs) (after_event (plan_for runs) t e))
  event_levels t (Draw actor) k = elim (has_next t) as (λ b. Follows runs (level (plan_for runs) t) (cond b (record t { drawn = suc t.drawn }) t)) [
    | true ↦ still runs t.closed (suc t.drawn) t.brought t.end
    | false ↦ still runs t.closed t.drawn t.brought t.end
  ]
  event_levels t (Finish actor job output refused) k =
      let place = place_of_job job in
      elim (is_running t place) as (λ b. is_running t place ≡ b → Follows runs (level (plan_for runs) t) (cond b (settled (plan_for runs) (with_output t place.number output) (is_memory output || refused)) t)) [
        | true ↦ λ running.
            let parts = and_parts (eqb place.kind (length t.closed) && ltb place.number t.drawn) (is_open (slice_get t.brought place.number)) running in
            let at = open_not_done (slice_get t.brought place.number) parts.1 in
            output_levels t.closed t.drawn t.brought (slice_set t.brought place.number (Some output)) t.end place.number (is_memory output || refused) k.open_ at.1
        | false ↦ λ _. still runs t.closed t.drawn t.brought t.end
      ] refl
  event_levels t (Look actor query) k = still runs t.closed t.drawn t.brought t.end
