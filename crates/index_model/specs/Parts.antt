-- What the core publishes, and the replies by it.
use Rattle.std.specs.Prelude.{ℕ, nat_lt, nat_le, nat_eq, if◌then◌else◌, List, Option, Some, None, option_map}
use Rattle.ix_base.specs.declared.fault.Fault.{Fault}
use Rattle.index_model.specs.declared.entry.Entry.{Entry}
use Rattle.index_model.specs.declared.job.Job.TheVariants.{Main, Merge, Write}
use Rattle.index_model.specs.Ranges.{unit_at}
use Rattle.index_model.specs.Stages.{cache_written, refused}
use Rattle.index_model.specs.Queries.{Query, AskName, AskSimple, AskAddress, AskMain, AskCache, need_of}
use Rattle.index_model.specs.Answers.{Answer, Entries, InUnit, MainIs, CacheIs, Reply, Answered, Pending, Refused, Stopped, places, is_named, is_simply_named}
use Rattle.index_model.specs.Cache.{Cache, size_of}
use Rattle.index_model.specs.Machine.{place_of_job, End, Refused as EndRefused, Going, Stopped as EndStopped, State, made_by}
use Rattle.index_model.specs.Outputs.{Summary, Made, SummaryOf, TableOf, CacheOf}

-- the summary, the table and the index, each once its job is finished, and the fault of a refused file
pub record Parts : Type 0 where
  pub summary : Option Summary
  pub table : Option (List Entry)
  pub cache : Option Cache
  pub fault : Option Fault

-- a summary, if this was made
abbrev pub summary_in : Option Made → Option Summary
summary_in (Some (SummaryOf m)) = Some m
summary_in other = None

-- a table, if this was made
abbrev pub table_in : Option Made → Option (List Entry)
table_in (Some (TableOf es)) = Some es
table_in other = None

-- an index, if this was made
abbrev pub index_in : Option Made → Option Cache
index_in (Some (CacheOf c)) = Some c
index_in other = None

-- the fault of a refused machine
abbrev pub fault_at_end : End → Option Fault
fault_at_end (EndRefused f) = Some f
fault_at_end Going = None
fault_at_end EndStopped = None

-- what Main, Merge and Write made, once their kinds are closed
abbrev pub parts : State Made → Parts
parts s = record {
  summary = summary_in (made_by s (place_of_job Main));
  table = table_in (made_by s (place_of_job Merge));
  cache = index_in (made_by s (place_of_job Write));
  fault = fault_at_end s.end;
}

-- the answer by the part that a query needs, if it is published
abbrev pub answer_by : Parts → Query → Option Answer
answer_by p (AskName n) = option_map (λ es. Entries es (places (is_named n) es)) p.table
answer_by p (AskSimple n) = option_map (λ es. Entries es (places (is_simply_named n) es)) p.table
answer_by p (AskAddress a) = option_map (λ m. InUnit (unit_at m.map a)) p.summary
answer_by p AskMain = option_map (λ m. MainIs m.main) p.summary
answer_by p AskCache = option_map (λ c. CacheIs (size_of c)) p.cache

-- the reply by the parts at a stage; none where the part that it needs isn't published
unfoldable pub reply_by : Parts → Query → ℕ → Option Reply
reply_by p q stage =
    if nat_lt stage (need_of q) then Some Pending else
    if nat_le stage cache_written then option_map Answered (answer_by p q) else
    if nat_eq stage refused then option_map Refused p.fault else Some Stopped
