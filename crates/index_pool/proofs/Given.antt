-- What a job is given, by its kind.
use Rattle.std.proofs.Common.{◌≡◌, ℕ, ◌<◌, List, [], ◌∷◌, length, filter_map, None, refl, subst}
use Rattle.std.specs.Prelude.{IsSomeAnd, slice_get}
use Rattle.file_image.specs.Images.{Image}
use Rattle.index_model.specs.declared.entry.Entry.{Entry}
use Rattle.index_model.specs.declared.job.CacheKind.{CacheKind}
use Rattle.index_model.specs.declared.job.Job.{Job}
use Rattle.index_model.specs.declared.job.Job.TheVariants.{Scan, Link, Main, Name, Merge, Write}
use Rattle.index_model.specs.declared.shard.Shard.{Shard}
use Rattle.index_model.specs.declared.shard.Linked.{Linked}
use Rattle.index_model.specs.Faults.{first_fault}
use Rattle.index_model.specs.Machine.{State, jobs_at}
use Rattle.index_model.specs.Outputs.{Subject, Made, ShardOf, LinkedOf, SummaryOf, RunOf, TableOf, CacheOf, Makes, run_of}
use Rattle.index_model.specs.Parts.{Parts, summary_in, table_in}
use Rattle.index_model.specs.LawsCore.{plan_of, HasRuns}
use Rattle.index_model.proofs.MachineHolds.{Closed, AllMade}
use Rattle.index_model.proofs.JobFaults.{FaultAt, MakesAt}
use Rattle.stage_core.specs.Inputs.{Given, UnitsOf, ScansOf, LinksOf, RunsOf, PublishedOf, Handed, input_of, first_of, shard_in, linked_in, run_in}
use Rattle.index_pool.specs.Drawn.{IsDrawn}
use Rattle.index_pool.proofs.Next.{AtKind, scan, link, main, name, merge, write, handed_out}
use Rattle.index_pool.proofs.Walks.{Scanned, scans, Links, links, from_all}

module _ (s : Subject) (h : HasRuns s) where
  -- ---- what holds of what is given

  pub record IsScan (k first count : ℕ) : Type 0 where
    pub within : k < length s.runs
    pub first_is : first_of s k ≡ first
    pub count_is : length (run_of s k) ≡ count

  pub record IsLink (k : ℕ) (shards : List Shard) : Type 0 where
    pub within : k < length s.runs
    pub scanned : Scanned s h s.runs shards

  -- the shards and the links are those of the file
  pub record HasLinks (shards : List Shard) (linked : List Linked) : Type 0 where
    pub scanned : Scanned s h s.runs shards
    pub links : Links s h shards scanned scanned.walks linked

  pub record IsName (k : ℕ) (shards : List Shard) (linked : List Linked) : Type 0 where
    pub has : HasLinks shards linked
    pub within : k < length s.runs
    pub accepted : first_fault s.file ≡ None

  pub record IsMerge (runs : List (List Entry)) : Type 0 where
    pub shards : List Shard
    pub linked : List Linked
    pub has : HasLinks shards linked
    pub accepted : first_fault s.file ≡ None
    pub made : List Made
    pub all : AllMade (FaultAt s) (MakesAt s) 3 0 (length s.runs) made
    pub runs_are : filter_map run_in made ≡ runs

  pub record IsWrite (parts : Parts) (kind : CacheKind) : Type 0 where
    pub kind_is : s.cache ≡ kind
    pub summary : IsSomeAnd parts.summary (λ m. Makes s Main (SummaryOf m))
    pub table : IsSomeAnd parts.table (λ es. Makes s Merge (TableOf es))

  -- what holds of a job and what it is given
  abbrev pub IsGivenTo : Job → Given → Type 0
  IsGivenTo (Scan k) (UnitsOf first count) = IsScan k first count
  IsGivenTo (Link k) (ScansOf shards) = IsLink k shards
  IsGivenTo Main (LinksOf shards linked) = HasLinks shards linked
  IsGivenTo (Name k) (LinksOf shards linked) = IsName k shards linked
  IsGivenTo Merge (RunsOf runs) = IsMerge runs
  IsGivenTo Write (PublishedOf parts kind) = IsWrite parts kind
  IsGivenTo job given = ⊥

  -- ---- it holds of each job that is next

  has_links : (a b : List Made) → AllMade (FaultAt s) (MakesAt s) 0 0 (length s.runs) a → AllMade (FaultAt s) (MakesAt s) 1 0 (length s.runs) b → HasLinks (filter_map shard_in a) (filter_map linked_in b)
  has_links a b scanned_all linked_all =
      let x = scans s h 0 s.runs a (from_all s) scanned_all in
      record { scanned = x; links = links s h (filter_map shard_in a) x b linked_all }

  -- Main made something, so the file has no fault
  accepted_by : (c : List Made) → AllMade (FaultAt s) (MakesAt s) 2 0 1 c → first_fault s.file ≡ None
  accepted_by [] made = absurd made
  accepted_by (m ∷ ms) made = made.0

  summary_made : (c : List Made) → AllMade (FaultAt s) (MakesAt s) 2 0 1 c → IsSomeAnd (summary_in (slice_get c 0)) (λ m. Makes s Main (SummaryOf m))
  summary_made [] made = absurd made
  summary_made (SummaryOf m ∷ ms) made = made.1
  summary_made (ShardOf x ∷ ms) made = absurd made.1
  summary_made (LinkedOf x ∷ ms) made = absurd made.1
  summary_made (RunOf x ∷ ms) made = absurd made.1
  summary_made (TableOf x ∷ ms) made = absurd made.1
  summary_made (CacheOf x ∷ ms) made = absurd made.1

  table_made : (e : List Made) → AllMade (FaultAt s) (MakesAt s) 4 0 1 e → IsSomeAnd (table_in (slice_get e 0)) (λ es. Makes s Merge (TableOf es))
  table_made [] made = absurd made
  table_made (TableOf es ∷ ms) made = made.1
  table_made (ShardOf x ∷ ms) made = absurd made.1
  table_made (LinkedOf x ∷ ms) made = absurd made.1
  table_made (SummaryOf x ∷ ms) made = absurd made.1
  table_made (RunOf x ∷ ms) made = absurd made.1
  table_made (CacheOf x ∷ ms) made = absurd made.1

  given_to : (t : State Made) (job : Job) → Closed (FaultAt s) (MakesAt s) 0 (plan_of s) t.closed → AtKind t.closed t.drawn job → t.drawn < jobs_at (plan_of s) (length t.closed) → IsGivenTo job (input_of s t job)
  given_to t job made kind lt = by t.closed t.drawn job made kind lt
    where
      by : (closed : List (List Made)) (drawn : ℕ) (job : Job) → Closed (FaultAt s) (MakesAt s) 0 (plan_of s) closed → AtKind closed drawn job → drawn < jobs_at (plan_of s) (length closed) → IsGivenTo job (input_of s (record { closed = closed; drawn = drawn; brought = t.brought; end = t.end }) job)
      by closed drawn job made scan lt = record { within = lt; first_is = refl; count_is = refl }
      by closed drawn job made (link {a = a}) lt = record { within = lt; scanned = scans s h 0 s.runs a (from_all s) made.0 }
      by closed drawn job made (main {a = a} {b = b}) lt = has_links a b made.0 made.1.0
      by closed drawn job made (name {a = a} {b = b} {c = c}) lt = record { has = has_links a b made.0 made.1.0; within = lt; accepted = accepted_by c made.1.1.0 }
      by closed drawn job made (merge {a = a} {b = b} {c = c} {d = d}) lt = record {
        shards = filter_map shard_in a;
        linked = filter_map linked_in b;
        has = has_links a b made.0 made.1.0;
        accepted = accepted_by c made.1.1.0;
        made = d;
        all = made.1.1.1.0;
        runs_are = refl;
      }
      by closed drawn job made (write {a = a} {b = b} {c = c} {d = d} {e = e}) lt = record {
        kind_is = refl;
        summary = summary_made c made.1.1.0;
        table = table_made e made.1.1.1.1.0;
      }

-- a file without a fault before its units, and what a job of it is given
pub record IsOut (s : Subject) (out : Handed) : Type 0 where
  pub runs : HasRuns s
  pub given : IsGivenTo s runs out.job out.given

pub is_out : (image : Image) (out : Handed) (d : IsDrawn image out) → IsOut d.machine.subject out
is_out image out d =
    let s = d.machine.subject in
    let o = handed_out image out d in
    record { runs = o.next.runs; given = subst (IsGivenTo s o.next.runs out.job) o.given (given_to s o.next.runs d.machine.state out.job o.next.made o.next.kind o.next.within) }
