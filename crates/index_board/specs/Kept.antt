-- The published parts that a reader keeps.
use Rattle.std.specs.Prelude.{◌≡◌, ◌≤◌, ℕ, Bool, ◌||◌, is_some, Some, None, IfSome, IsSome}
use Rattle.std.specs.Option.{option_or}
use Rattle.index_model.specs.declared.job.Job.TheVariants.{Main, Merge, Write}
use Rattle.index_model.specs.Faults.{first_fault}
use Rattle.index_model.specs.Outputs.{Subject, SummaryOf, TableOf, CacheOf, Makes}
use Rattle.index_model.specs.Parts.{Parts, answer_by}
use Rattle.index_model.specs.Queries.{Query}

-- each part is what the file means
pub record AreOf (s : Subject) (p : Parts) : Type 0 where
  pub summary : IfSome p.summary (λ m. Makes s Main (SummaryOf m))
  pub table : IfSome p.table (λ es. Makes s Merge (TableOf es))
  pub cache : IfSome p.cache (λ c. Makes s Write (CacheOf c))
  pub fault : IfSome p.fault (λ f. first_fault s.file ≡ Some f)

-- all parts that the stages up to this one publish, and at stage 4 the fault
pub record HasPublished (stage : ℕ) (p : Parts) : Type 0 where
  pub summary : 1 ≤ stage → stage ≤ 3 → IsSome p.summary
  pub table : 2 ≤ stage → stage ≤ 3 → IsSome p.table
  pub cache : stage ≡ 3 → IsSome p.cache
  pub fault : stage ≡ 4 → IsSome p.fault

-- none
abbrev pub no_parts : Parts
no_parts = record { summary = None; table = None; cache = None; fault = None }

-- kept parts, and of others those that aren't kept yet
abbrev pub filled : Parts → Parts → Parts
filled p q = record {
  summary = option_or p.summary q.summary;
  table = option_or p.table q.table;
  cache = option_or p.cache q.cache;
  fault = option_or p.fault q.fault;
}

-- no part is taken away: those that the first has stand in the second
abbrev pub Keeps : Parts → Parts → Type 0
Keeps old new = filled old new ≡ new

-- whether a query can be answered by the parts: that which it needs is kept, or the fault
abbrev pub answers : Parts → Query → Bool
answers p q = is_some p.fault || is_some (answer_by p q)
