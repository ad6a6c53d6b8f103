-- What the events of the machine do.
use Rattle.std.specs.Prelude.{◌≡◌, ℕ, suc, Bool, true, false, ◌&&◌, ◌||◌, nat_lt, nat_eq, if◌then◌else◌, List, [], ◌∷◌, ◌++◌, length, slice_get, slice_set, filter_map, Option, Some, None, is_none, option_to_list}
use Rattle.std.specs.List.{list_any}
use Rattle.std.specs.Option.{option_or}
use Rattle.ix_base.specs.declared.fault.Fault.{Fault}
use Rattle.ix_base.specs.Reading.{◌>>=◌ as ◌>>=?◌}
use Rattle.index_model.specs.declared.job.Job.{Job}
use Rattle.index_model.specs.Machine.{Row, JobPlace, place_of_job, job_at, Output, Memory, Faulty, Gave, State, Refused, Stopped, is_going, is_stopped, opened}

-- an actor draws a job; finishes one with an output, where memory may be refused; or looks, with a query
pub data Event (Made Query : Type 0) : Type 0 where
  Draw : ℕ → Event Made Query
  Finish : ℕ → Job → Output Made → Bool → Event Made Query
  Look : ℕ → Query → Event Made Query

-- ---- outputs

module _ {Made : Type 0} where
  -- whether the output is want of memory
  abbrev pub is_memory : Output Made → Bool
  is_memory Memory = true
  is_memory (Faulty f) = false
  is_memory (Gave made) = false

  -- whether the job is one of the kind and has brought nothing yet
  abbrev pub is_open : Option (Option (Output Made)) → Bool
  is_open (Some None) = true
  is_open (Some (Some o)) = false
  is_open None = false

  -- the fault that a job brought
  abbrev pub fault_in : Option (Output Made) → Option Fault
  fault_in (Some (Faulty f)) = Some f
  fault_in (Some (Gave made)) = None
  fault_in (Some Memory) = None
  fault_in None = None

  -- what a job made
  abbrev pub made_in : Option (Output Made) → Option Made
  made_in (Some (Gave made)) = Some made
  made_in (Some (Faulty f)) = None
  made_in (Some Memory) = None
  made_in None = None

  -- the fault of the least job that brought one
  abbrev pub least_fault : List (Option (Output Made)) → Option Fault
  least_fault [] = None
  least_fault (o ∷ os) = option_or (fault_in o) (least_fault os)

  -- ---- Draw

  -- whether a job of the open kind isn't drawn yet
  abbrev pub has_next : State Made → Bool
  has_next s = is_going s.end && nat_lt s.drawn (length s.brought)

  -- where the least job of the open kind stands that isn't drawn
  abbrev pub next_place : State Made → Option JobPlace
  next_place s = if has_next s then Some (record { kind = length s.closed; number = s.drawn }) else None

  -- the job that is drawn, if there is one
  abbrev pub next_job : List Row → State Made → Option Job
  next_job plan s = next_place s >>=? job_at plan

  -- this job is drawn, if there is one
  abbrev pub after_draw : State Made → State Made
  after_draw s = if has_next s then record s { drawn = suc s.drawn } else s

  -- ---- Finish

  -- whether the job is drawn and isn't finished
  abbrev pub is_running : State Made → JobPlace → Bool
  is_running s job = nat_eq job.kind (length s.closed) && nat_lt job.number s.drawn && is_open (slice_get s.brought job.number)

  -- the job with this number is finished with this output
  abbrev pub with_output : State Made → ℕ → Output Made → State Made
  with_output s number output = record s { brought = slice_set s.brought number (Some output) }

  -- all jobs of the kind are finished: the machine is refused with the least fault, or the next kind opens
  abbrev pub closing : List Row → State Made → Option Fault → State Made
  closing plan s (Some f) = record s { end = Refused f }
  closing plan s None = opened plan (s.closed ++ filter_map made_in s.brought ∷ [])

  -- the kind closes, unless one of its jobs isn't finished
  abbrev pub decided : List Row → State Made → State Made
  decided plan s = if list_any is_none s.brought then s else closing plan s (least_fault s.brought)

  -- after an output: want of memory stops the machine; once stopped it stays so
  abbrev pub settled : List Row → State Made → Bool → State Made
  settled plan s memory = if memory then record s { end = Stopped } else if is_stopped s.end then s else decided plan s

  -- a running job is finished with this output; another job changes nothing
  abbrev pub after_finish : List Row → State Made → JobPlace → Output Made → Bool → State Made
  after_finish plan s job output refused = if is_running s job then settled plan (with_output s job.number output) (is_memory output || refused) else s

  -- ---- lists of events

  module _ {Query : Type 0} where
    -- the state after an event; a look changes nothing
    abbrev pub after_event : List Row → State Made → Event Made Query → State Made
    after_event plan s (Draw actor) = after_draw s
    after_event plan s (Finish actor job output refused) = after_finish plan s (place_of_job job) output refused
    after_event plan s (Look actor query) = s

    -- the state after some events
    unfoldable pub after_events : List Row → State Made → List (Event Made Query) → State Made
    after_events plan s [] = s
    after_events plan s (e ∷ es) = after_events plan (after_event plan s e) es

    -- these events lead from one state to the other
    abbrev pub Run : List Row → State Made → List (Event Made Query) → State Made → Type 0
    Run plan s es t = after_events plan s es ≡ t

    -- the jobs that an event draws
    abbrev pub drawn_by : State Made → Event Made Query → List JobPlace
    drawn_by s (Draw actor) = option_to_list (next_place s)
    drawn_by s (Finish actor job output refused) = []
    drawn_by s (Look actor query) = []

    -- the jobs whose output an event takes
    abbrev pub finished_by : State Made → Event Made Query → List JobPlace
    finished_by s (Draw actor) = []
    finished_by s (Finish actor job output refused) = if is_running s (place_of_job job) then place_of_job job ∷ [] else []
    finished_by s (Look actor query) = []

    -- the jobs that some events draw
    unfoldable pub all_drawn : List Row → State Made → List (Event Made Query) → List JobPlace
    all_drawn plan s [] = []
    all_drawn plan s (e ∷ es) = drawn_by s e ++ all_drawn plan (after_event plan s e) es

    -- the jobs whose output some events take
    unfoldable pub all_finished : List Row → State Made → List (Event Made Query) → List JobPlace
    all_finished plan s [] = []
    all_finished plan s (e ∷ es) = finished_by s e ++ all_finished plan (after_event plan s e) es
