-- What a core has done before it hands out a job.
use Rattle.std.proofs.Common.{◌≡◌, ℕ, zero, suc, ◌<◌, true, false, cond, List, [], ◌∷◌, length, Option, Some, None, refl, sym, ap, subst, ◌∙◌}
use Rattle.std.specs.Prelude.{option_map}
use Rattle.std.proofs.lemmas.Bool.{ltb-true}
use Rattle.std.proofs.lemmas.Option.{same_Some}
use Rattle.ix_base.specs.declared.fault.Fault.{Fault}
use Rattle.ix_base.specs.Reading.{◌>>=◌ as ◌>>=?◌}
use Rattle.file_image.specs.Images.{Image}
use Rattle.index_model.specs.declared.job.Job.{Job}
use Rattle.index_model.specs.declared.job.Job.TheVariants.{Scan, Link, Main, Name, Merge, Write}
use Rattle.index_model.specs.Machine.{JobPlace, job_at, State, Output, End, Going, Refused, Stopped, jobs_at, plan_for, machine_start}
use Rattle.index_model.specs.MachineEvents.{Event, Run, has_next, next_job}
use Rattle.index_model.specs.Outputs.{Subject, Made, AllMeet}
use Rattle.index_model.specs.LawsCore.{plan_of, HasRuns, BeginsAt, with_jobs, with_fault}
use Rattle.index_model.specs.Queries.{Query}
use Rattle.index_model.proofs.MachineHolds.{Closed, Brought, Kept, kept, kept_start}
use Rattle.index_model.proofs.JobFaults.{FaultAt, MakesAt, all_meet_at}
use Rattle.index_model.proofs.CoreRight.{refused_stays}
use Rattle.stage_core.specs.Inputs.{Handed, handed, input_of}
use Rattle.index_pool.specs.Drawn.{IsDrawn}

-- ---- a machine with a next job

-- the units of the file and what is kept of its state
record Reached (s : Subject) (t : State Made) : Type 0 where
  runs : HasRuns s
  there : Kept (FaultAt s) (MakesAt s) (plan_of s) t

reached : (s : Subject) (start t : State Made) (es : List (Event Made Query)) (j : Job) → BeginsAt s start → AllMeet s es → Run (plan_of s) start es t → next_job (plan_of s) t ≡ Some j → Reached s t
reached s start t es j (with_jobs h) meet run next = record {
  runs = h;
  there = subst (Kept (FaultAt s) (MakesAt s) (plan_of s)) run (kept (FaultAt s) (MakesAt s) (plan_of s) (machine_start (plan_of s)) es (kept_start (FaultAt s) (MakesAt s) (plan_of s)) (all_meet_at s es meet));
}
reached s start t es j (with_fault f early empty) meet run next =
    let none : None ≡ Some j = ap (next_job (plan_of s)) (sym (refused_stays s f es) ∙ run) ∙ next in
    absurd (cc none)

-- the job that is next, by what is closed and how many jobs of the open kind are drawn
pub data AtKind : List (List Made) → ℕ → Job → Type 0 where
  scan : {k : ℕ} → AtKind [] k (Scan k)
  link : {k : ℕ} {a : List Made} → AtKind (a ∷ []) k (Link k)
  main : {k : ℕ} {a b : List Made} → AtKind (a ∷ b ∷ []) k Main
  name : {k : ℕ} {a b c : List Made} → AtKind (a ∷ b ∷ c ∷ []) k (Name k)
  merge : {k : ℕ} {a b c d : List Made} → AtKind (a ∷ b ∷ c ∷ d ∷ []) k Merge
  write : {k : ℕ} {a b c d e : List Made} → AtKind (a ∷ b ∷ c ∷ d ∷ e ∷ []) k Write

at_kind : (runs : ℕ) (closed : List (List Made)) (drawn : ℕ) (j : Job) → job_at (plan_for runs) (record { kind = length closed; number = drawn }) ≡ Some j → AtKind closed drawn j
at_kind runs [] k j is = subst (AtKind [] k) (same_Some (Scan k) j is) scan
at_kind runs (a ∷ []) k j is = subst (AtKind (a ∷ []) k) (same_Some (Link k) j is) link
at_kind runs (a ∷ b ∷ []) k j is = subst (AtKind (a ∷ b ∷ []) k) (same_Some Main j is) main
at_kind runs (a ∷ b ∷ c ∷ []) k j is = subst (AtKind (a ∷ b ∷ c ∷ []) k) (same_Some (Name k) j is) name
at_kind runs (a ∷ b ∷ c ∷ d ∷ []) k j is = subst (AtKind (a ∷ b ∷ c ∷ d ∷ []) k) (same_Some Merge j is) merge
at_kind runs (a ∷ b ∷ c ∷ d ∷ e ∷ []) k j is = subst (AtKind (a ∷ b ∷ c ∷ d ∷ e ∷ []) k) (same_Some Write j is) write
at_kind runs (a ∷ b ∷ c ∷ d ∷ e ∷ g ∷ rest) k j is = absurd (cc is)

brought_length : (fault_at : JobPlace → Option Fault) (Makes : JobPlace → Made → Type 0) (place k n : ℕ) (bs : List (Option (Output Made))) → Brought fault_at Makes place k n bs → length bs ≡ n
brought_length fault_at Makes place k zero [] b = refl
brought_length fault_at Makes place k zero (x ∷ bs) b = absurd b
brought_length fault_at Makes place k (suc n) [] b = absurd b
brought_length fault_at Makes place k (suc n) (None ∷ bs) b = ap suc (brought_length fault_at Makes place (suc k) n bs b)
brought_length fault_at Makes place k (suc n) (Some o ∷ bs) b = ap suc (brought_length fault_at Makes place (suc k) n bs b.1)

-- what holds of a machine whose next job this is
pub record Next (s : Subject) (closed : List (List Made)) (drawn : ℕ) (j : Job) : Type 0 where
  pub runs : HasRuns s
  pub made : Closed (FaultAt s) (MakesAt s) 0 (plan_of s) closed
  pub kind : AtKind closed drawn j
  pub within : drawn < jobs_at (plan_of s) (length closed)

next_parts : (s : Subject) (t : State Made) (j : Job) → next_job (plan_of s) t ≡ Some j → (has_next t ≡ true) × (job_at (plan_of s) (record { kind = length t.closed; number = t.drawn }) ≡ Some j)
next_parts s t j is =
    let place : JobPlace = record { kind = length t.closed; number = t.drawn } in
    elim (has_next t) as (λ b. (cond b (Some place) None >>=? job_at (plan_of s)) ≡ Some j → (b ≡ true) × (job_at (plan_of s) place ≡ Some j)) [
      | true ↦ λ is. (refl, is)
      | false ↦ λ is. absurd (cc is)
    ] is

next_of : (s : Subject) (closed : List (List Made)) (drawn : ℕ) (brought : List (Option (Output Made))) (end : End) (j : Job) → (Reached s (record { closed = closed; drawn = drawn; brought = brought; end = end })) →
    has_next (record { closed = closed; drawn = drawn; brought = brought; end = end }) ≡ true → job_at (plan_of s) (record { kind = length closed; number = drawn }) ≡ Some j → Next s closed drawn j
next_of s closed drawn brought Going j r on at = record {
  runs = r.runs;
  made = r.there.closed;
  kind = at_kind (length s.runs) closed drawn j at;
  within = subst (λ (n : ℕ). drawn < n) (brought_length (FaultAt s) (MakesAt s) (length closed) 0 (jobs_at (plan_of s) (length closed)) brought r.there.open_) (ltb-true drawn (length brought) on);
}
next_of s closed drawn brought (Refused f) j r on at = absurd (cc on)
next_of s closed drawn brought Stopped j r on at = absurd (cc on)

-- a job that is handed out is next, and is given what its machine has for it
pub record HandedOut (s : Subject) (t : State Made) (h : Handed) : Type 0 where
  pub next : Next s t.closed t.drawn h.job
  pub given : input_of s t h.job ≡ h.given

pub handed_out : (image : Image) (h : Handed) (d : IsDrawn image h) → HandedOut d.machine.subject d.machine.state h
handed_out image h d = by (next_job (plan_of s) t) refl d.next
  where
    s : Subject
    s = d.machine.subject

    t : State Made
    t = d.machine.state

    by : (o : Option Job) → next_job (plan_of s) t ≡ o → option_map (handed s t) o ≡ Some h → HandedOut s t h
    by None is e = absurd (cc e)
    by (Some j) is e =
        let same : handed s t j ≡ h = same_Some (handed s t j) h e in
        let parts = next_parts s t j is in
        let r = reached s d.reached.start t d.reached.events j d.reached.begins d.reached.meet d.reached.run is in
        subst (HandedOut s t) same (record { next = next_of s t.closed t.drawn t.brought t.end j r parts.0 parts.1; given = refl })
