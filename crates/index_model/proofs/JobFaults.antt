-- The first fault of all jobs is the first fault of the file, whatever the cut.
use Rattle.std.proofs.Common.{◌≡◌, ℕ, zero, suc, ◌+◌, ◌<◌, List, [], ◌∷◌, ◌++◌, length, flat_map, map, Option, Some, None, unwrap_or, Result, Ok, Err, refl, ap, sym, ◌∙◌, arith}
use Rattle.std.specs.Prelude.{slice_get}
use Rattle.std.specs.List.{enumerate_from}
use Rattle.std.specs.Option.{option_or}
use Rattle.std.proofs.lemmas.List.Concat.{flat_map-append}
use Rattle.ix_base.specs.declared.fault.Fault.{Fault}
use Rattle.index_model.specs.declared.job.Job.{Job}
use Rattle.index_model.specs.declared.job.Job.TheVariants.{Scan, Link, Main, Name, Merge, Write}
use Rattle.index_model.specs.declared.range.UnitRange.{UnitRange}
use Rattle.index_model.specs.declared.unit.Unit.{Unit as UnitHeader}
use Rattle.index_model.specs.Meaning.{◌>>=◌, each, wrong_in, at_place}
use Rattle.index_model.specs.Program.{Walked, Program, Located}
use Rattle.index_model.specs.Links.{Link as LinkOf, links_in, link_of, followed}
use Rattle.index_model.specs.Faults.{scanned, scan_of, links_of, all_ranges, program_of, built_of, Built, first_fault}
use Rattle.index_model.specs.Machine.{Row, JobPlace, place_of_job, Output, Memory, Faulty, Gave}
use Rattle.index_model.specs.MachineEvents.{Event, Draw, Finish, Look}
use Rattle.index_model.proofs.MachineParts.{fault_of_kind, fault_from, IsOutputAt, AllMeetAt}
use Rattle.index_model.specs.Outputs.{Subject, Made, run_of, scan_of_run, link_of_run, fault_of_job, Makes, IsOutputOf, AllMeet}
use Rattle.index_model.specs.LawsCore.{plan_of, HasRuns}
use Rattle.index_model.proofs.MachineHolds.{job_at, late}
use Rattle.index_model.proofs.EachLaws.{first_in, option_or-none, wrong_in-append, wrong_in-parts, in_two}

-- ---- jobs by their places

abbrev fault_of_row : Subject → Option Row → ℕ → Option Fault
fault_of_row s (Some row) k = fault_of_job s (row.job k)
fault_of_row s None k = None

abbrev makes_of_row : Subject → Option Row → ℕ → Made → Type 0
makes_of_row s (Some row) k made = Makes s (row.job k) made
makes_of_row s None k made = ⊥

module _ (s : Subject) where
  -- the first fault that the job at a place meets
  abbrev pub FaultAt : JobPlace → Option Fault
  FaultAt place = fault_of_row s (slice_get (plan_of s) place.kind) place.number

  -- what the job at a place makes
  abbrev pub MakesAt : JobPlace → Made → Type 0
  MakesAt place made = makes_of_row s (slice_get (plan_of s) place.kind) place.number made

  same_output : (job : Job) (place : JobPlace) → FaultAt place ≡ fault_of_job s job → ((made : Made) → Makes s job made → MakesAt place made) → (o : Output Made) → IsOutputOf s job o → IsOutputAt FaultAt MakesAt place o
  same_output job place fault makes Memory is = tt
  same_output job place fault makes (Faulty f) is = fault ∙ is
  same_output job place fault makes (Gave made) is = (fault ∙ is.0, makes made is.1)

  meets_at : (job : Job) (o : Output Made) → IsOutputOf s job o → IsOutputAt FaultAt MakesAt (place_of_job job) o
  meets_at (Scan k) = same_output (Scan k) (place_of_job (Scan k)) refl (λ made is. is)
  meets_at (Link k) = same_output (Link k) (place_of_job (Link k)) refl (λ made is. is)
  meets_at Main = same_output Main (place_of_job Main) refl (λ made is. is)
  meets_at (Name k) = same_output (Name k) (place_of_job (Name k)) refl (λ made is. is)
  meets_at Merge = same_output Merge (place_of_job Merge) refl (λ made is. is)
  meets_at Write = same_output Write (place_of_job Write) refl (λ made is. is)

  pub all_meet_at : {Query : Type 0} (es : List (Event Made Query)) → AllMeet s es → AllMeetAt FaultAt MakesAt es
  all_meet_at [] meet = tt
  all_meet_at (Draw actor ∷ es) meet = all_meet_at es meet
  all_meet_at (Finish actor job output refused ∷ es) meet = (meets_at job output meet.0, all_meet_at es meet.1)
  all_meet_at (Look actor query ∷ es) meet = all_meet_at es meet

  -- a job behind Main meets no fault
  pub late_none : (place : JobPlace) → 2 < place.kind → FaultAt place ≡ None
  late_none place lt = by place.kind lt
    where
      by : (kind : ℕ) → 2 < kind → fault_of_row s (slice_get (plan_of s) kind) place.number ≡ None
      by zero lt = absurd (omega (arith, lt))
      by (suc zero) lt = absurd (omega (arith, lt))
      by (suc (suc zero)) lt = absurd (omega (arith, lt))
      by (suc (suc (suc zero))) lt = refl
      by (suc (suc (suc (suc zero)))) lt = refl
      by (suc (suc (suc (suc (suc zero))))) lt = refl
      by (suc (suc (suc (suc (suc (suc kind)))))) lt = refl

-- the faults of the jobs of a kind that has one for each run
kind_of_runs : {A : Type 0} (fault_at : JobPlace → Option Fault) (place : ℕ) (fault : List A → Option Fault) (k : ℕ) (rest : List (List A)) → ((i : ℕ) → fault_at (job_at place (k + i)) ≡ fault (unwrap_or (slice_get rest i) [])) → fault_of_kind fault_at place k (length rest) ≡ first_in (map fault rest)
unfolding fault_of_kind
kind_of_runs fault_at place fault k [] at = refl
kind_of_runs fault_at place fault k (r ∷ rs) at =
    let k_is : k + 0 ≡ k = omega arith in
    let here : fault_at (job_at place k) ≡ fault r = ap (λ (n : ℕ). fault_at (job_at place n)) (sym k_is) ∙ at 0 in
    rw (here, kind_of_runs fault_at place fault (suc k) rs (λ i. ap (λ (n : ℕ). fault_at (job_at place n)) (shift i) ∙ at (suc i))) refl
  where
    shift : (i : ℕ) → suc k + i ≡ k + suc i
    shift i = omega arith

-- ---- references, run by run

abbrev built : Program → List LinkOf → List UnitRange → Built
built p ks rs = record { program = p; links = ks; ranges = rs }

module _ (p : Program) where
  links-append : (xs ys : List Walked) → wrong_in (links_in p (xs ++ ys)) ≡ option_or (wrong_in (links_in p xs)) (wrong_in (links_in p ys))
  unfolding links_in
  links-append xs ys =
      ap (λ (ds : List Located). wrong_in (each (λ d. at_place d.item.at (link_of p d)) ds)) (flat_map-append (followed p) xs ys) ∙ wrong_in-append (λ d. at_place d.item.at (link_of p d)) (flat_map (followed p) xs) (flat_map (followed p) ys)

  no_links : wrong_in (links_in p []) ≡ None
  unfolding links_in
  no_links = refl

  -- the fault of a run: of its units, or else of their references
  abbrev of_run : {A : Type 0} → (A → Result Walked Fault) → List A → Option Fault
  of_run g run = wrong_in (each g run >>= λ ws. links_in p ws)

  links_of_runs : {A : Type 0} (g : A → Result Walked Fault) (runs : List (List A)) (ws : List Walked) → each g (flat_map (λ run. run) runs) ≡ Ok ws → first_in (map (of_run g) runs) ≡ wrong_in (links_in p ws)
  links_of_runs g [] ws e = let same : [] ≡ ws = cc in sym no_links ∙ ap (λ (ws : List Walked). wrong_in (links_in p ws)) same
  links_of_runs g (r ∷ rs) ws e =
      let t = in_two g r (flat_map (λ run. run) rs) ws e in
      let here : of_run g r ≡ wrong_in (links_in p t.front) = ap (λ (o : Result (List Walked) Fault). wrong_in (o >>= λ ws. links_in p ws)) t.front_is in
      rw (here, links_of_runs g rs t.back t.back_is) (sym (links-append t.front t.back) ∙ ap (λ (ws : List Walked). wrong_in (links_in p ws)) t.whole)

-- ---- the file

module _ (s : Subject) (h : HasRuns s) where
  abbrev reading : ℕ × UnitHeader → Result Walked Fault
  reading = scanned h.sections

  abbrev program_with : List Walked → Program
  program_with ws = record { sections = h.sections; walks = ws }

  program_is : program_of s.file ≡ (each reading (enumerate_from 0 h.units) >>= λ ws. Ok (program_with ws))
  unfolding program_of scan_of
  program_is = rw (h.sections_are, h.units_are) refl

  scan_is : (k : ℕ) → scan_of_run s k ≡ each reading (run_of s k)
  unfolding scan_of_run
  scan_is k = rw h.sections_are refl

  scans : fault_of_kind (FaultAt s) 0 0 (length s.runs) ≡ wrong_in (each reading (enumerate_from 0 h.units))
  scans =
      kind_of_runs (FaultAt s) 0 (λ run. wrong_in (each reading run)) 0 s.runs (λ i. ap wrong_in (scan_is (0 + i)) ∙ ap (λ (n : ℕ). wrong_in (each reading (run_of s n))) (zero_plus i))
      ∙ sym (wrong_in-parts reading s.runs) ∙ ap (λ (us : List (ℕ × UnitHeader)). wrong_in (each reading us)) h.all
    where
      zero_plus : (i : ℕ) → 0 + i ≡ i
      zero_plus i = omega arith

  abbrev fault_of_links : List (ℕ × UnitHeader) → Option Fault
  fault_of_links run = wrong_in (program_of s.file >>= λ p. each reading run >>= λ ws. links_in p ws)

  links : fault_of_kind (FaultAt s) 1 0 (length s.runs) ≡ first_in (map fault_of_links s.runs)
  unfolding link_of_run
  links =
      kind_of_runs (FaultAt s) 1 fault_of_links 0 s.runs (λ i. ap (λ (r : Result (List Walked) Fault). wrong_in (program_of s.file >>= λ p. r >>= λ ws. links_in p ws)) (scan_is (0 + i)) ∙ ap (λ (n : ℕ). fault_of_links (run_of s n)) (zero_plus i))
    where
      zero_plus : (i : ℕ) → 0 + i ≡ i
      zero_plus i = omega arith

  -- what all phases read, from what the first three read
  abbrev built_from : Result Program Fault → Result Built Fault
  built_from r = r >>= λ p. links_of p >>= λ ks. all_ranges p ks >>= λ rs. Ok (built p ks rs)

  built_is : built_of s.file ≡ built_from (program_of s.file)
  unfolding built_of
  built_is = refl

  all_links : (ws : List Walked) → links_in (program_with ws) ws ≡ links_of (program_with ws)
  unfolding links_of
  all_links ws = refl

  first_of_links : (p : Program) (r : Result (List LinkOf) Fault) → links_of p ≡ r → option_or (wrong_in r) (wrong_in (built_from (Ok p))) ≡ wrong_in (built_from (Ok p))
  first_of_links p (Err e) is = sym (ap (λ (r : Result (List LinkOf) Fault). wrong_in (r >>= λ ks. all_ranges p ks >>= λ rs. Ok (built p ks rs))) is)
  first_of_links p (Ok ks) is = refl

  abbrev with_walks : Result (List Walked) Fault → Result Program Fault
  with_walks r = r >>= λ ws. Ok (program_with ws)

  -- the fault of the units, or else of the references, or else that of the file
  first_of_scans : (r : Result (List Walked) Fault) → each reading (enumerate_from 0 h.units) ≡ r → option_or (wrong_in r) (option_or (first_in (map fault_of_links s.runs)) (first_fault s.file)) ≡ first_fault s.file
  first_of_scans (Err e) is = sym (ap wrong_in (built_is ∙ ap built_from (program_is ∙ ap with_walks is)))
  first_of_scans (Ok ws) is =
      let p = program_with ws in
      let program : program_of s.file ≡ Ok p = program_is ∙ ap with_walks is in
      let file : first_fault s.file ≡ wrong_in (built_from (Ok p)) = ap wrong_in (built_is ∙ ap built_from program) in
      let links_are : first_in (map fault_of_links s.runs) ≡ wrong_in (links_of p) =
      ap (λ (r : Result Program Fault). first_in (map (λ run. wrong_in (r >>= λ p. each reading run >>= λ ws. links_in p ws)) s.runs)) program
      ∙ links_of_runs p reading s.runs ws (ap (λ (us : List (ℕ × UnitHeader)). each reading us) h.all ∙ is) ∙ ap wrong_in (all_links ws) in
      ap (λ (o : Option Fault). option_or o (first_fault s.file)) links_are ∙ ap (option_or (wrong_in (links_of p))) file ∙ first_of_links p (links_of p) refl ∙ sym file

  -- the first fault of all jobs is that of the file
  pub jobs_have_first : fault_from (FaultAt s) 0 (plan_of s) ≡ first_fault s.file
  unfolding fault_from fault_of_kind
  jobs_have_first =
      let none = late_none s in
      rw (scans, links, late (FaultAt s) (MakesAt s) 3 0 (length s.runs) none (omega arith), late (FaultAt s) (MakesAt s) 4 0 1 none (omega arith), late (FaultAt s) (MakesAt s) 5 0 1 none (omega arith), option_or-none (first_fault s.file), option_or-none (first_fault s.file)) (first_of_scans (each reading (enumerate_from 0 h.units)) refl)
