-- The core is right over every cut and every list of events.
use Rattle.std.proofs.Common.{◌≡◌, ℕ, ◌≤◌, true, false, ltb, List, [], ◌∷◌, ◌++◌, length, Option, Some, None, Result, Ok, Err, IsSome, refl, ap, sym, subst, ◌∙◌, arith}
use Rattle.std.specs.Prelude.{option_map, IsSomeAnd, IsOkAnd}
use Rattle.std.proofs.lemmas.Bool.{ltb-false, le-ltb, le-leb}
use Rattle.std.proofs.lemmas.Bool.Decides.{nat_tests}
use Rattle.ix_base.specs.declared.fault.Fault.{Fault}
use Rattle.index_model.specs.declared.answer.Main.{Main as MainOf}
use Rattle.index_model.specs.declared.entry.Entry.{Entry}
use Rattle.index_model.specs.declared.job.Job.TheVariants.{Main, Merge, Write}
use Rattle.index_model.specs.declared.unit.Unit.{Unit as UnitHeader}
use Rattle.index_model.specs.Meaning.{◌>>=◌, wrong_in}
use Rattle.index_model.specs.Program.{Program}
use Rattle.index_model.specs.Sections.{Section, sections_of}
use Rattle.index_model.specs.Units.{units_of}
use Rattle.index_model.specs.Ranges.{unit_at}
use Rattle.index_model.specs.MainProgram.{main_of}
use Rattle.index_model.specs.Pieces.{IsPieces}
use Rattle.index_model.specs.Faults.{Built, built_of, first_fault, program_of}
use Rattle.index_model.specs.Queries.{Query, AskName, AskSimple, AskAddress, AskMain, AskCache, need_of}
use Rattle.index_model.specs.Answers.{Answer, Entries, InUnit, MainIs, CacheIs, Reply, Answered, Refused, places, is_named, is_simply_named, entries_in, answer_to, reply_of, reply_at}
use Rattle.index_model.specs.Cache.{Cache, cache_in, size_of, size_in}
use Rattle.index_model.specs.Machine.{JobPlace, place_of_job, State, Output, End, Going, Refused as EndRefused, Stopped as EndStopped, level, stage, machine_start, refused_start, made_by}
use Rattle.index_model.specs.MachineEvents.{Event, Draw, Finish, Look, after_event, after_events, Run, is_running}
use Rattle.index_model.proofs.MachineParts.{Holds, fault_from}
use Rattle.index_model.specs.Outputs.{Subject, Summary, Made, ShardOf, LinkedOf, SummaryOf, RunOf, TableOf, CacheOf, IsSummary, Makes, AllMeet}
use Rattle.index_model.specs.Parts.{Parts, summary_in, table_in, index_in, parts, answer_by, reply_by}
use Rattle.index_model.specs.LawsCore.{PartsAreRight, early_fault, plan_of, StateIsRight, HasRuns, BeginsAt, with_jobs, with_fault, IsState, CoreIsRight, StatesGoOn, StagesFollow, LevelsFollow}
use Rattle.index_model.specs.Stages.{IsReachable, same as same_stage, level as level_behind}
use Rattle.index_model.proofs.MachineHolds.{Kept, kept, kept_start, holds, from_closed}
use Rattle.index_model.proofs.StageLaws.{order}
use Rattle.index_model.proofs.MachineSteps.{event_leads}
use Rattle.index_model.proofs.LevelSteps.{event_levels}
use Rattle.index_model.proofs.JobFaults.{FaultAt, MakesAt, all_meet_at, late_none, jobs_have_first}
use Rattle.index_model.proofs.LevelLaws.{closed_at_1, closed_at_2, closed_at_3, open_below_1, open_below_2, open_below_3, level_high, not_made}

-- ---- a file with or without a fault

module _ {A : Type 0} where
  pub no_fault : (r : Result A Fault) → wrong_in r ≡ None → (x : A) × (r ≡ Ok x)
  no_fault (Ok x) e = (x, refl)
  no_fault (Err f) e = absurd cc

  pub fault_is : (r : Result A Fault) (f : Fault) → wrong_in r ≡ Some f → r ≡ Err f
  fault_is (Ok x) f e = absurd cc
  fault_is (Err g) f e = let same : g ≡ f = cc in ap (λ (f : Fault). Err f) same

-- ---- the published parts

module _ (s : Subject) where
  summary_is : (o : Option Made) → IsSome o → ((m : Made) → o ≡ Some m → Makes s Main m) → IsSomeAnd (summary_in o) (λ m. IsSummary s m)
  summary_is None some means = absurd cc
  summary_is (Some (SummaryOf x)) some means = means (SummaryOf x) refl
  summary_is (Some (ShardOf x)) some means = absurd (means (ShardOf x) refl)
  summary_is (Some (LinkedOf x)) some means = absurd (means (LinkedOf x) refl)
  summary_is (Some (RunOf x)) some means = absurd (means (RunOf x) refl)
  summary_is (Some (TableOf x)) some means = absurd (means (TableOf x) refl)
  summary_is (Some (CacheOf x)) some means = absurd (means (CacheOf x) refl)

  table_is : (o : Option Made) → IsSome o → ((m : Made) → o ≡ Some m → Makes s Merge m) → IsSomeAnd (table_in o) (λ es. Makes s Merge (TableOf es))
  table_is None some means = absurd cc
  table_is (Some (TableOf x)) some means = means (TableOf x) refl
  table_is (Some (ShardOf x)) some means = absurd (means (ShardOf x) refl)
  table_is (Some (LinkedOf x)) some means = absurd (means (LinkedOf x) refl)
  table_is (Some (RunOf x)) some means = absurd (means (RunOf x) refl)
  table_is (Some (SummaryOf x)) some means = absurd (means (SummaryOf x) refl)
  table_is (Some (CacheOf x)) some means = absurd (means (CacheOf x) refl)

  index_is : (o : Option Made) → IsSome o → ((m : Made) → o ≡ Some m → Makes s Write m) → IsSomeAnd (index_in o) (λ c. Makes s Write (CacheOf c))
  index_is None some means = absurd cc
  index_is (Some (CacheOf x)) some means = means (CacheOf x) refl
  index_is (Some (ShardOf x)) some means = absurd (means (ShardOf x) refl)
  index_is (Some (LinkedOf x)) some means = absurd (means (LinkedOf x) refl)
  index_is (Some (RunOf x)) some means = absurd (means (RunOf x) refl)
  index_is (Some (SummaryOf x)) some means = absurd (means (SummaryOf x) refl)
  index_is (Some (TableOf x)) some means = absurd (means (TableOf x) refl)

  module _ (closed : List (List Made)) (drawn : ℕ) (brought : List (Option (Output Made))) (end : End) where
    abbrev state : State Made
    state = record { closed = closed; drawn = drawn; brought = brought; end = end }

    abbrev runs : ℕ
    runs = length s.runs

    parts_are_right : Holds (FaultAt s) (MakesAt s) (plan_of s) state → PartsAreRight s (level (plan_of s) state) (parts state)
    parts_are_right h = record {
      summary = λ low. summary_is (made_by state (place_of_job Main)) (h.whole 2 0 (closed_at_1 runs drawn brought end closed low) (omega arith)) (λ m at. (h.made (place_of_job Main) m at).1);
      no_summary = λ low. ap summary_in (not_made runs drawn brought end closed (place_of_job Main) (open_below_1 runs drawn brought end closed low));
      table = λ low. table_is (made_by state (place_of_job Merge)) (h.whole 4 0 (closed_at_2 runs drawn brought end closed low) (omega arith)) (λ m at. (h.made (place_of_job Merge) m at).1);
      no_table = λ low. ap table_in (not_made runs drawn brought end closed (place_of_job Merge) (open_below_2 runs drawn brought end closed low));
      cache = λ low. index_is (made_by state (place_of_job Write)) (h.whole 5 0 (closed_at_3 runs drawn brought end closed low) (omega arith)) (λ m at. (h.made (place_of_job Write) m at).1);
      no_cache = λ low. ap index_in (not_made runs drawn brought end closed (place_of_job Write) (open_below_3 runs drawn brought end closed low));
    }

-- ---- answers

module _ (s : Subject) (b : Built) (is : built_of s.file ≡ Ok b) where
  pub at_built : (P : Built → Type 0) → IsOkAnd (built_of s.file) P → P b
  at_built P h = subst (λ (r : Result Built Fault). IsOkAnd r P) is h

  by_summary : (o : Option Summary) (f : Summary → Answer) (a : Answer) → IsSomeAnd o (λ m. IsSummary s m) → ((m : Summary) → m.main ≡ main_of b.program b.links → IsPieces b.ranges m.map → f m ≡ a) → option_map f o ≡ Some a
  by_summary None f a some gives = absurd some
  by_summary (Some m) f a some gives =
      let h = at_built (λ b. (m.main ≡ main_of b.program b.links) × IsPieces b.ranges m.map) some in
      ap (λ (x : Answer). Some x) (gives m h.0 h.1)

  by_table : (o : Option (List Entry)) (f : List Entry → Answer) → IsSomeAnd o (λ es. Makes s Merge (TableOf es)) → option_map f o ≡ Some (f (entries_in b))
  by_table None f some = absurd some
  by_table (Some es) f some = ap (λ (es : List Entry). Some (f es)) (at_built (λ b. es ≡ entries_in b) some)

  by_cache : (o : Option Cache) (f : Cache → Answer) → IsSomeAnd o (λ c. Makes s Write (CacheOf c)) → option_map f o ≡ Some (f (cache_in s.cache b))
  by_cache None f some = absurd some
  by_cache (Some c) f some = ap (λ (c : Cache). Some (f c)) (at_built (λ b. c ≡ cache_in s.cache b) some)

  -- the parts that a query needs answer as the file does
  answers : (n : ℕ) (p : Parts) (q : Query) → PartsAreRight s n p → need_of q ≤ n → answer_by p q ≡ Some (answer_to b (size_of (cache_in s.cache b)) q)
  unfolding answer_to
  answers n p (AskName name) h need = by_table p.table (λ es. Entries es (places (is_named name) es)) (h.table need)
  answers n p (AskSimple name) h need = by_table p.table (λ es. Entries es (places (is_simply_named name) es)) (h.table need)
  answers n p (AskAddress a) h need = by_summary p.summary (λ m. InUnit (unit_at m.map a)) (InUnit (unit_at b.ranges a)) (h.summary need) (λ m main map. ap (λ (u : Option ℕ). InUnit u) (map.same a))
  answers n p AskMain h need = by_summary p.summary (λ m. MainIs m.main) (MainIs (main_of b.program b.links)) (h.summary need) (λ m main map. ap (λ (m : Option MainOf). MainIs m) main)
  answers n p AskCache h need = by_cache p.cache (λ c. CacheIs (size_of c)) (h.cache need)

-- ---- replies

pub need_low : (q : Query) → 1 ≤ need_of q
need_low (AskName name) = omega arith
need_low (AskSimple name) = omega arith
need_low (AskAddress a) = omega arith
need_low AskMain = omega arith
need_low AskCache = omega arith

pub need_high : (q : Query) → need_of q ≤ 3
need_high (AskName name) = omega arith
need_high (AskSimple name) = omega arith
need_high (AskAddress a) = omega arith
need_high AskMain = omega arith
need_high AskCache = omega arith

-- what the file replies at a stage
abbrev Replies : Subject → Query → ℕ → Reply
Replies s q n = reply_at (built_of s.file) (size_in s.cache (built_of s.file)) q n

module _ (s : Subject) (p : Parts) (q : Query) where
  answered : (b : Built) → built_of s.file ≡ Ok b → (n : ℕ) → n ≤ 3 → PartsAreRight s n p → need_of q ≤ n → reply_by p q n ≡ Some (Replies s q n)
  unfolding reply_by reply_at size_in
  answered b is n high h need =
      rw (le-ltb n (need_of q) need, le-leb n 3 high, le-leb n 4 (omega (arith, high)))
      (ap (option_map Answered) (answers s b is n p q h need) ∙ ap (λ (r : Result Built Fault). Some (reply_of r (size_in s.cache r) q)) (sym is))

  pending : (n : ℕ) → ltb n (need_of q) ≡ true → reply_by p q n ≡ Some (Replies s q n)
  unfolding reply_by reply_at
  pending n is = rw is refl

  -- while jobs go on
  replies_going : (n : ℕ) → n ≤ 3 → PartsAreRight s n p → (1 ≤ n → first_fault s.file ≡ None) → reply_by p q n ≡ Some (Replies s q n)
  replies_going n high h accepted = elim (ltb n (need_of q)) as (λ t. ltb n (need_of q) ≡ t → reply_by p q n ≡ Some (Replies s q n)) [
    | true ↦ λ is. pending n is
    | false ↦ λ is.
        let need : need_of q ≤ n = ltb-false n (need_of q) is in
        let b = no_fault (built_of s.file) (accepted (omega (arith, need_low q, need))) in
        answered b.0 b.1 n high h need
  ] refl

  replies_refused : (f : Fault) → p.fault ≡ Some f → first_fault s.file ≡ Some f → reply_by p q 4 ≡ Some (Replies s q 4)
  unfolding reply_by reply_at
  replies_refused f at first =
      rw (le-ltb 4 (need_of q) (omega (arith, need_high q)))
      (ap (option_map Refused) at ∙ ap (λ (r : Result Built Fault). Some (reply_of r (size_in s.cache r) q)) (sym (fault_is (built_of s.file) f first)))

  replies_stopped : reply_by p q 5 ≡ Some (Replies s q 5)
  unfolding reply_by reply_at
  replies_stopped = rw (le-ltb 5 (need_of q) (omega (arith, need_high q))) refl

-- ---- states

module _ (s : Subject) (closed : List (List Made)) (drawn : ℕ) (brought : List (Option (Output Made))) where
  abbrev with_end : End → State Made
  with_end end = record { closed = closed; drawn = drawn; brought = brought; end = end }

  is_right : (end : End) → Kept (FaultAt s) (MakesAt s) (plan_of s) (with_end end) → fault_from (FaultAt s) 0 (plan_of s) ≡ first_fault s.file → StateIsRight s (with_end end)
  is_right (EndRefused g) k first =
      let fault : first_fault s.file ≡ Some g = sym first ∙ k.open_.0 in
      record {
        accepted = λ low high. absurd (omega (arith, high));
        refused = λ _. fault;
        no_fault = λ other. absurd (other refl);
        parts = parts_are_right s closed drawn brought (EndRefused g) (holds (FaultAt s) (MakesAt s) (plan_of s) (with_end (EndRefused g)) k);
        looks = λ q. replies_refused s (parts (with_end (EndRefused g))) q g refl fault;
      }
  is_right EndStopped k first = record {
    accepted = λ low high. absurd (omega (arith, high));
    refused = λ is. absurd (omega (arith, is));
    no_fault = λ _. refl;
    parts = parts_are_right s closed drawn brought EndStopped (holds (FaultAt s) (MakesAt s) (plan_of s) (with_end EndStopped) k);
    looks = λ q. replies_stopped s (parts (with_end EndStopped)) q;
  }
  is_right Going k first =
      let n = level (plan_of s) (with_end Going) in
      let high : n ≤ 3 = level_high (length s.runs) drawn brought Going closed in
      let accepted : 1 ≤ n → first_fault s.file ≡ None = λ low. sym first ∙ from_closed (FaultAt s) (MakesAt s) (length s.runs) closed drawn brought Going k.closed (late_none s) low high in
      let are : PartsAreRight s n (parts (with_end Going)) = parts_are_right s closed drawn brought Going (holds (FaultAt s) (MakesAt s) (plan_of s) (with_end Going) k) in
      record {
        accepted = λ low _. accepted low;
        refused = λ is. absurd (omega (arith, is, high));
        no_fault = λ _. refl;
        parts = are;
        looks = λ q. replies_going s (parts (with_end Going)) q n high are accepted;
      }

-- ---- a machine that begins refused

bind_wrong : {A B : Type 0} (r : Result A Fault) (g : A → Result B Fault) (f : Fault) → wrong_in r ≡ Some f → wrong_in (r >>= g) ≡ Some f
bind_wrong (Ok x) g f h = absurd cc
bind_wrong (Err e) g f h = h

of_headers : (g : List Section → List UnitHeader → Result Program Fault) (f : Fault) (r : Result (List Section) Fault) → wrong_in (r >>= units_of) ≡ Some f → wrong_in (r >>= λ ss. units_of ss >>= g ss) ≡ Some f
of_headers g f (Ok own) h = bind_wrong (units_of own) (g own) f h
of_headers g f (Err e) h = h

-- a fault of the sections or headers is the first of the file
pub early_is_first : (file : List ℕ) (f : Fault) → early_fault file ≡ Some f → first_fault file ≡ Some f
unfolding built_of program_of
early_is_first file f early = bind_wrong (program_of file) _ f (of_headers _ f (sections_of file) early)

pub idle : (f : Fault) (place : JobPlace) → is_running {Made = Made} (refused_start f) place ≡ false
idle f place = grind (arith, nat_tests)

pub refused_stays : (s : Subject) (f : Fault) (es : List (Event Made Query)) → after_events (plan_of s) (refused_start f) es ≡ refused_start f
unfolding after_events
refused_stays s f [] = refl
refused_stays s f (Draw actor ∷ es) = refused_stays s f es
refused_stays s f (Finish actor job output refused ∷ es) = rw (idle f (place_of_job job)) (refused_stays s f es)
refused_stays s f (Look actor query ∷ es) = refused_stays s f es

begins_right : (s : Subject) (f : Fault) → first_fault s.file ≡ Some f → StateIsRight s (refused_start f)
begins_right s f first = record {
  accepted = λ low high. absurd (omega (arith, high));
  refused = λ _. first;
  no_fault = λ other. absurd (other refl);
  parts = record {
    summary = λ low. absurd (omega (arith, low));
    no_summary = λ _. refl;
    table = λ low. absurd (omega (arith, low));
    no_table = λ _. refl;
    cache = λ low. absurd (omega (arith, low));
    no_cache = λ _. refl;
  };
  looks = λ q. replies_refused s (parts (refused_start f)) q f refl first;
}

-- ---- all states

-- from either start on
record Reached (s : Subject) (t : State Made) : Type 0 where
  h : HasRuns s
  kept_there : Kept (FaultAt s) (MakesAt s) (plan_of s) t

-- a state with jobs has what is kept, or it is the refused start
data Either (s : Subject) (t : State Made) : Type 0 where
  jobs : Reached s t → Either s t
  fault : (f : Fault) → first_fault s.file ≡ Some f → refused_start f ≡ t → Either s t

state_is : (s : Subject) (start t : State Made) (es : List (Event Made Query)) → BeginsAt s start → AllMeet s es → Run (plan_of s) start es t → Either s t
state_is s start t es (with_jobs h) meet run = jobs (record {
  h = h;
  kept_there = subst (Kept (FaultAt s) (MakesAt s) (plan_of s)) run (kept (FaultAt s) (MakesAt s) (plan_of s) (machine_start (plan_of s)) es (kept_start (FaultAt s) (MakesAt s) (plan_of s)) (all_meet_at s es meet));
})
state_is s start t es (with_fault f early none) meet run = fault f (early_is_first s.file f early) (sym (refused_stays s f es) ∙ run)

either_of : (s : Subject) (t : State Made) → IsState s t → Either s t
either_of s t is = state_is s is.start t is.events is.begins is.meet is.run

pub core_is_right : CoreIsRight
core_is_right s t is = by (either_of s t is)
  where
    by : Either s t → StateIsRight s t
    by (jobs r) = is_right s t.closed t.drawn t.brought t.end r.kept_there (jobs_have_first s r.h)
    by (fault f first same) = subst (λ (t : State Made). StateIsRight s t) same (begins_right s f first)

one_more : (s : Subject) (start t : State Made) (es : List (Event Made Query)) (e : Event Made Query) → Run (plan_of s) start es t → Run (plan_of s) start (es ++ e ∷ []) (after_event (plan_of s) t e)
unfolding after_events
one_more s start t [] e run = ap (λ (t : State Made). after_event (plan_of s) t e) run
one_more s start t (d ∷ ds) e run = one_more s (after_event (plan_of s) start d) t ds e run

meet_more : (s : Subject) (es : List (Event Made Query)) (e : Event Made Query) → AllMeet s es → AllMeet s (e ∷ []) → AllMeet s (es ++ e ∷ [])
meet_more s [] e meet last = last
meet_more s (Draw actor ∷ es) e meet last = meet_more s es e meet last
meet_more s (Finish actor job output refused ∷ es) e meet last = (meet.0, meet_more s es e meet.1 last)
meet_more s (Look actor query ∷ es) e meet last = meet_more s es e meet last

pub states_go_on : StatesGoOn
states_go_on s t e is last = record {
  start = is.start;
  events = is.events ++ e ∷ [];
  begins = is.begins;
  meet = meet_more s is.events e is.meet last;
  run = one_more s is.start t is.events e is.run;
}

-- an event leaves the refused start as it is
still_refused : (s : Subject) (f : Fault) (e : Event Made Query) → after_event (plan_of s) (refused_start f) e ≡ refused_start f
still_refused s f (Draw actor) = refl
still_refused s f (Finish actor job output refused) = rw (idle f (place_of_job job)) refl
still_refused s f (Look actor query) = refl

pub stages_follow : StagesFollow
stages_follow s t e is last = by (either_of s t is)
  where
    by : Either s t → IsReachable (stage (plan_of s) t) (stage (plan_of s) (after_event (plan_of s) t e))
    by (jobs r) =
        let next = after_event (plan_of s) t e in
        (order (stage (plan_of s) t) (stage (plan_of s) next)).1 (event_leads (FaultAt s) (MakesAt s) (length s.runs) (late_none s) t e r.kept_there (all_meet_at s (e ∷ []) last))
    by (fault f first same) =
        subst (λ (t : State Made). IsReachable (stage (plan_of s) t) (stage (plan_of s) (after_event (plan_of s) t e))) same
        (subst (λ (u : State Made). IsReachable 4 (stage (plan_of s) u)) (sym (still_refused s f e)) same_stage)

pub levels_follow : LevelsFollow
levels_follow s t e is last = by (either_of s t is)
  where
    by : Either s t → level (plan_of s) (after_event (plan_of s) t e) ≡ level_behind (level (plan_of s) t) (stage (plan_of s) (after_event (plan_of s) t e))
    by (jobs r) = event_levels (FaultAt s) (MakesAt s) (length s.runs) t e r.kept_there
    by (fault f first same) =
        subst (λ (t : State Made). level (plan_of s) (after_event (plan_of s) t e) ≡ level_behind (level (plan_of s) t) (stage (plan_of s) (after_event (plan_of s) t e))) same
        (subst (λ (u : State Made). level (plan_of s) u ≡ level_behind 0 (stage (plan_of s) u)) (sym (still_refused s f e)) refl)
