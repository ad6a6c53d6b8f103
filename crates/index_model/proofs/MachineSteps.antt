-- Each event leads to a stage that is reachable.
use Rattle.std.proofs.Common.{◌≡◌, ℕ, suc, ◌<◌, ◌≤◌, Bool, true, false, ◌&&◌, ◌||◌, cond, eqb, ltb, List, [], ◌∷◌, ◌++◌, length, filter_map, Option, Some, None, refl, ap, subst, arith}
use Rattle.std.specs.Prelude.{slice_get, slice_set, is_none}
use Rattle.std.specs.List.{list_any}
use Rattle.std.proofs.lemmas.Bool.{eqb-true, and_parts}
use Rattle.ix_base.specs.declared.fault.Fault.{Fault}
use Rattle.index_model.specs.LawsStages.{Leads}
use Rattle.index_model.specs.Machine.{JobPlace, place_of_job, Row, State, Output, Memory, Faulty, Gave, End, Going, Refused, Stopped, jobs_at, plan_for, level, stage}
use Rattle.index_model.specs.MachineEvents.{Event, Draw, Finish, Look, after_event, has_next, is_running, is_open, is_memory, settled, closing, least_fault, with_output, made_in}
use Rattle.index_model.proofs.MachineParts.{IsOutputAt, fault_of_kind, AllMeetAt}
use Rattle.index_model.proofs.MachineOnce.{open_not_done}
use Rattle.index_model.proofs.MachineHolds.{job_at, Kept, KeptAt, Brought, late, least_is_first, one_more, jobs_there}

stays : (n : ℕ) → Leads n n
stays n = (omega arith, λ lt. absurd (omega (arith, lt)))

module _ {Made : Type 0} (fault_at : JobPlace → Option Fault) (Makes : JobPlace → Made → Type 0) (runs : ℕ) (none : (job : JobPlace) → 2 < job.kind → fault_at job ≡ None) where
  abbrev plan : List Row
  plan = plan_for runs

  abbrev going : List (List Made) → ℕ → List (Option (Output Made)) → State Made
  going closed drawn brought = record { closed = closed; drawn = drawn; brought = brought; end = Going }

  -- while a kind is open the stage is 2 at most
  open_low : (closed : List (List Made)) (drawn : ℕ) (brought : List (Option (Output Made))) → 0 < jobs_at plan (length closed) → level plan (going closed drawn brought) ≤ 2
  open_low [] drawn brought some = omega arith
  open_low (a ∷ []) drawn brought some = omega arith
  open_low (a ∷ b ∷ []) drawn brought some = omega arith
  open_low (a ∷ b ∷ c ∷ []) drawn brought some = omega arith
  open_low (a ∷ b ∷ c ∷ d ∷ []) drawn brought some = omega arith
  open_low (a ∷ b ∷ c ∷ d ∷ e ∷ []) drawn brought some = omega arith
  open_low (a ∷ b ∷ c ∷ d ∷ e ∷ g ∷ rest) drawn brought some = absurd (omega (arith, some))

  to_stopped : (n : ℕ) → n ≤ 2 → Leads n 5
  to_stopped n low = (omega (arith, low), λ lt. (omega arith, low, λ is. absurd (omega (arith, is))))

  -- the next kind opens
  to_next : (closed : List (List Made)) (ms : List Made) (drawn : ℕ) (brought later : List (Option (Output Made))) → 0 < jobs_at plan (length closed) → Leads (level plan (going closed drawn brought)) (level plan (going (closed ++ ms ∷ []) 0 later))
  to_next [] ms drawn brought later some = stays 0
  to_next (a ∷ []) ms drawn brought later some = stays 0
  to_next (a ∷ b ∷ []) ms drawn brought later some = (omega arith, λ lt. (omega arith, omega arith, λ is. absurd (omega (arith, is))))
  to_next (a ∷ b ∷ c ∷ []) ms drawn brought later some = stays 1
  to_next (a ∷ b ∷ c ∷ d ∷ []) ms drawn brought later some = (omega arith, λ lt. (omega arith, omega arith, λ is. absurd (omega (arith, is))))
  to_next (a ∷ b ∷ c ∷ d ∷ e ∷ []) ms drawn brought later some = (omega arith, λ lt. (omega arith, omega arith, λ is. absurd (omega (arith, is))))
  to_next (a ∷ b ∷ c ∷ d ∷ e ∷ g ∷ rest) ms drawn brought later some = absurd (omega (arith, some))

  -- a kind behind Main has no fault
  to_refused : (closed : List (List Made)) (drawn : ℕ) (brought : List (Option (Output Made))) (f : Fault) → fault_of_kind fault_at (length closed) 0 (jobs_at plan (length closed)) ≡ Some f → Leads (level plan (going closed drawn brought)) 4
  to_refused [] drawn brought f is = (omega arith, λ lt. (omega arith, omega arith, λ _. refl))
  to_refused (a ∷ []) drawn brought f is = (omega arith, λ lt. (omega arith, omega arith, λ _. refl))
  to_refused (a ∷ b ∷ []) drawn brought f is = (omega arith, λ lt. (omega arith, omega arith, λ _. refl))
  to_refused (a ∷ b ∷ c ∷ rest) drawn brought f is = let e = late fault_at Makes (length (a ∷ b ∷ c ∷ rest)) 0 (jobs_at plan (length (a ∷ b ∷ c ∷ rest))) none (omega arith) in absurd (cc (e, is))

  closing_leads : (s : State Made) (least : Option Fault) → Brought fault_at Makes (length s.closed) 0 (jobs_at plan (length s.closed)) s.brought → 0 < jobs_at plan (length s.closed) → list_any is_none s.brought ≡ false → least_fault s.brought ≡ least → Leads (level plan s) (stage plan (closing plan s least))
  closing_leads s (Some f) b some whole is = to_refused s.closed s.drawn s.brought f (least_is_first fault_at Makes (length s.closed) 0 (jobs_at plan (length s.closed)) s.brought f b whole is)
  closing_leads s None b some whole is = to_next s.closed (filter_map made_in s.brought) s.drawn s.brought [] some

  settled_leads : (closed : List (List Made)) (drawn : ℕ) (brought : List (Option (Output Made))) (memory : Bool) → Brought fault_at Makes (length closed) 0 (jobs_at plan (length closed)) brought → 0 < jobs_at plan (length closed) → Leads (level plan (going closed drawn brought)) (stage plan (settled plan (going closed drawn brought) memory))
  settled_leads closed drawn brought true b some = to_stopped _ (open_low closed drawn brought some)
  settled_leads closed drawn brought false b some =
      elim (list_any is_none brought) as (λ t. list_any is_none brought ≡ t → Leads (level plan (going closed drawn brought)) (stage plan (cond t (going closed drawn brought) (closing plan (going closed drawn brought) (least_fault brought))))) [
        | true ↦ λ _. stays _
        | false ↦ λ whole. closing_leads (going closed drawn brought) (least_fault brought) b some whole refl
      ] refl

  output_leads : (closed : List (List Made)) (drawn : ℕ) (brought : List (Option (Output Made))) (end : End) (job : JobPlace) (output : Output Made) (refused : Bool) → KeptAt fault_at Makes plan closed brought end → job.kind ≡ length closed → slice_get brought job.number ≡ Some None → IsOutputAt fault_at Makes job output →
      Leads (stage plan (record { closed = closed; drawn = drawn; brought = brought; end = end })) (stage plan (settled plan (record { closed = closed; drawn = drawn; brought = slice_set brought job.number (Some output); end = end }) (is_memory output || refused)))
  output_leads closed drawn brought Stopped job output refused k kind at is = stopped (is_memory output || refused)
    where
      stopped : (memory : Bool) → Leads 5 (stage plan (settled plan (record { closed = closed; drawn = drawn; brought = slice_set brought job.number (Some output); end = Stopped }) memory))
      stopped true = stays 5
      stopped false = stays 5
  output_leads closed drawn brought (Refused f) job output refused k kind at is = let e : is_open (slice_get brought job.number) ≡ true = ap is_open at in absurd (cc (k.1 job.number))
  output_leads closed drawn brought Going job Memory refused k kind at is = to_stopped _ (open_low closed drawn brought (jobs_there fault_at Makes (length closed) 0 (jobs_at plan (length closed)) job.number brought k at))
  output_leads closed drawn brought Going job (Faulty f) refused k kind at is =
      let n = jobs_at plan (length closed) in
      settled_leads closed drawn (slice_set brought job.number (Some (Faulty f))) refused (one_more fault_at Makes (length closed) 0 n job.number job.number brought (Faulty f) k at (omega arith) (subst (λ (place : ℕ). fault_at (job_at place job.number) ≡ Some f) kind is)) (jobs_there fault_at Makes (length closed) 0 n job.number brought k at)
  output_leads closed drawn brought Going job (Gave m) refused k kind at is =
      let n = jobs_at plan (length closed) in
      settled_leads closed drawn (slice_set brought job.number (Some (Gave m))) refused (one_more fault_at Makes (length closed) 0 n job.number job.number brought (Gave m) k at (omega arith) (subst (λ (place : ℕ). (fault_at (job_at place job.number) ≡ None) × Makes (job_at place job.number) m) kind is)) (jobs_there fault_at Makes (length closed) 0 n job.number brought k at)

  module _ {Query : Type 0} where
    pub event_leads : (s : State Made) (e : Event Made Query) → Kept fault_at Makes plan s → AllMeetAt fault_at Makes (e ∷ []) → Leads (stage plan s) (stage plan (after_event plan s e))
    event_leads s (Draw actor) k meet = elim (has_next s) as (λ t. Leads (stage plan s) (stage plan (cond t (record s { drawn = suc s.drawn }) s))) [
      | true ↦ stays (stage plan s)
      | false ↦ stays (stage plan s)
    ]
    event_leads s (Finish actor job output refused) k meet = elim (is_running s (place_of_job job)) as (λ t. is_running s (place_of_job job) ≡ t → Leads (stage plan s) (stage plan (cond t (settled plan (with_output s (place_of_job job).number output) (is_memory output || refused)) s))) [
      | true ↦ λ running.
          let place = place_of_job job in
          let parts = and_parts (eqb place.kind (length s.closed) && ltb place.number s.drawn) (is_open (slice_get s.brought place.number)) running in
          let kind = and_parts (eqb place.kind (length s.closed)) (ltb place.number s.drawn) parts.0 in
          let at = open_not_done (slice_get s.brought place.number) parts.1 in
          output_leads s.closed s.drawn s.brought s.end place output refused k.open_ (eqb-true _ _ kind.0) at.1 meet.0
      | false ↦ λ _. stays (stage plan s)
    ] refl
    event_leads s (Look actor query) k meet = stays (stage plan s)
