-- What the Scan jobs and the Link jobs made: shards that stand for the walks of the runs, and what their references give.
use Rattle.std.proofs.Common.{◌≡◌, ℕ, suc, ◌+◌, ◌<◌, List, [], ◌∷◌, length, filter_map, Some, Result, Ok, refl, sym, ap, subst, ◌∙◌, arith}
use Rattle.std.specs.Prelude.{IsOkAnd}
use Rattle.std.specs.List.{AllZip, enumerate_from}
use Rattle.ix_base.specs.declared.fault.Fault.{Fault}
use Rattle.index_model.specs.declared.job.Job.TheVariants.{Scan, Link}
use Rattle.index_model.specs.declared.shard.Shard.{Shard}
use Rattle.index_model.specs.declared.shard.Linked.{Linked}
use Rattle.index_model.specs.declared.unit.Unit.{Unit as UnitHeader}
use Rattle.index_model.specs.Meaning.{each}
use Rattle.index_model.specs.Sections.{sections_of}
use Rattle.index_model.specs.Program.{Walked, Program}
use Rattle.index_model.specs.Links.{Link as LinkOf, links_in}
use Rattle.index_model.specs.Faults.{scanned, scan_of, program_of}
use Rattle.index_model.specs.Shards.{StandsFor, IsLinked, AreShardsOf}
use Rattle.index_model.specs.Outputs.{Subject, Made, ShardOf, LinkedOf, SummaryOf, RunOf, TableOf, CacheOf, Makes, run_of, scan_of_run, link_of_run}
use Rattle.index_model.specs.LawsCore.{HasRuns}
use Rattle.index_model.proofs.MachineHolds.{AllMade}
use Rattle.index_model.proofs.JobFaults.{FaultAt, MakesAt}
use Rattle.range_lists.specs.Units.{IsLinkedRun}
use Rattle.stage_core.specs.Inputs.{shard_in, linked_in}
use Rattle.index_pool.proofs.Lists.{joined, part_at, ok_and, at_ok, zip_length, zip_parts, each_joined}

abbrev pub Unit_ : Type 0
Unit_ = ℕ × UnitHeader

-- the runs that are left are those from number k on
abbrev pub From : Subject → ℕ → List (List Unit_) → Type 0
From s k runs = (i : ℕ) → run_of s (k + i) ≡ part_at runs i

pub from_all : (s : Subject) → From s 0 s.runs
from_all s i = ap (run_of s) (zero_plus i)
  where
    zero_plus : (i : ℕ) → 0 + i ≡ i
    zero_plus i = omega arith

pub from_here : (s : Subject) (k : ℕ) (r : List Unit_) (rs : List (List Unit_)) → From s k (r ∷ rs) → run_of s k ≡ r
from_here s k r rs h = ap (run_of s) (sym (plus_zero k)) ∙ h 0
  where
    plus_zero : (k : ℕ) → k + 0 ≡ k
    plus_zero k = omega arith

pub from_later : (s : Subject) (k : ℕ) (r : List Unit_) (rs : List (List Unit_)) → From s k (r ∷ rs) → From s (suc k) rs
from_later s k r rs h i = ap (run_of s) (shift k i) ∙ h (suc i)
  where
    shift : (k i : ℕ) → suc k + i ≡ k + suc i
    shift k i = omega arith

module _ (s : Subject) (h : HasRuns s) where
  -- the walks of a run
  abbrev pub Reads : List Unit_ → List Walked → Type 0
  Reads run ws = each (scanned h.sections) run ≡ Ok ws

  scan_is : (k : ℕ) → scan_of_run s k ≡ each (scanned h.sections) (run_of s k)
  unfolding scan_of_run
  scan_is k = rw h.sections_are refl

  -- the walks of these runs, for which the shards stand
  pub record Scanned (runs : List (List Unit_)) (shards : List Shard) : Type 0 where
    pub walks : List (List Walked)
    pub read : AllZip Reads runs walks
    pub stand : AllZip (StandsFor h.sections) shards walks

  shard_made : (k : ℕ) (r : List Unit_) (m : Made) → run_of s k ≡ r → Makes s (Scan k) m → (shard : Shard) × (shard_in m ≡ Some shard) × IsOkAnd (each (scanned h.sections) r) (StandsFor h.sections shard)
  shard_made k r (ShardOf shard) at makes =
      let stands : IsOkAnd (scan_of_run s k) (StandsFor h.sections shard) = at_ok (sections_of s.file) h.sections (λ ss. IsOkAnd (scan_of_run s k) (StandsFor ss shard)) h.sections_are makes in
      (shard, refl, subst (λ (q : Result (List Walked) Fault). IsOkAnd q (StandsFor h.sections shard)) (scan_is k ∙ ap (each (scanned h.sections)) at) stands)
  shard_made k r (LinkedOf x) at makes = absurd makes
  shard_made k r (SummaryOf x) at makes = absurd makes
  shard_made k r (RunOf x) at makes = absurd makes
  shard_made k r (TableOf x) at makes = absurd makes
  shard_made k r (CacheOf x) at makes = absurd makes

  pub scans : (k : ℕ) (runs : List (List Unit_)) (made : List Made) → From s k runs → AllMade (FaultAt s) (MakesAt s) 0 k (length runs) made → Scanned runs (filter_map shard_in made)
  scans k [] [] at a = record { walks = []; read = tt; stand = tt }
  scans k [] (m ∷ ms) at a = absurd a
  scans k (r ∷ rs) [] at a = absurd a
  scans k (r ∷ rs) (m ∷ ms) at a =
      let here = shard_made k r m (from_here s k r rs at) a.1 in
      let ws = ok_and (each (scanned h.sections) r) (StandsFor h.sections here.0) here.2 in
      let rest = scans (suc k) rs ms (from_later s k r rs at) a.2 in
      rw here.1 (record { walks = ws.0 ∷ rest.walks; read = (ws.1, rest.read); stand = (ws.2, rest.stand) })

  -- ---- the program

  module _ (shards : List Shard) (x : Scanned s.runs shards) where
    abbrev pub program : Program
    program = record { sections = h.sections; walks = joined x.walks }

    all_read : each (scanned h.sections) (enumerate_from 0 h.units) ≡ Ok (joined x.walks)
    all_read = ap (each (scanned h.sections)) (sym h.all) ∙ each_joined (scanned h.sections) s.runs x.walks x.read

    pub program_is : program_of s.file ≡ Ok program
    unfolding program_of scan_of
    program_is = rw (h.sections_are, h.units_are, all_read) refl

    abbrev pub are_shards : AreShardsOf program shards
    are_shards = record { runs = x.walks; all = refl; stand = x.stand }

    pub count : length shards ≡ length s.runs
    count = zip_length (StandsFor h.sections) shards x.walks x.stand ∙ sym (zip_length Reads s.runs x.walks x.read)

    -- ---- references

    pub link_is : (k : ℕ) → k < length s.runs → link_of_run s k ≡ links_in program (part_at x.walks k)
    unfolding link_of_run
    link_is k lt = rw (program_is, scan_is k, zip_parts Reads s.runs x.walks x.read k lt) refl

    -- what the references of these runs give, which the links are
    pub record Links (walks : List (List Walked)) (linked : List Linked) : Type 0 where
      pub links : List (List LinkOf)
      pub read : AllZip (λ ws ks. links_in program ws ≡ Ok ks) walks links
      pub are : AllZip (IsLinkedRun program) linked walks

    linked_made : (k : ℕ) (ws : List Walked) (m : Made) → link_of_run s k ≡ links_in program ws → Makes s (Link k) m → (linked : Linked) × (linked_in m ≡ Some linked) × IsOkAnd (links_in program ws) (IsLinked program linked)
    linked_made k ws (LinkedOf linked) at makes =
        let is : IsOkAnd (link_of_run s k) (IsLinked program linked) = at_ok (program_of s.file) program (λ p. IsOkAnd (link_of_run s k) (IsLinked p linked)) program_is makes in
        (linked, refl, subst (λ (q : Result (List LinkOf) Fault). IsOkAnd q (IsLinked program linked)) at is)
    linked_made k ws (ShardOf x) at makes = absurd makes
    linked_made k ws (SummaryOf x) at makes = absurd makes
    linked_made k ws (RunOf x) at makes = absurd makes
    linked_made k ws (TableOf x) at makes = absurd makes
    linked_made k ws (CacheOf x) at makes = absurd makes

    links_from : (k : ℕ) (walks : List (List Walked)) (made : List Made) → ((i : ℕ) → i < length walks → link_of_run s (k + i) ≡ links_in program (part_at walks i)) → AllMade (FaultAt s) (MakesAt s) 1 k (length walks) made → Links walks (filter_map linked_in made)
    links_from k [] [] at a = record { links = []; read = tt; are = tt }
    links_from k [] (m ∷ ms) at a = absurd a
    links_from k (ws ∷ wss) [] at a = absurd a
    links_from k (ws ∷ wss) (m ∷ ms) at a =
        let first : link_of_run s k ≡ links_in program ws = ap (link_of_run s) (sym (plus_zero k)) ∙ at 0 (omega arith) in
        let here = linked_made k ws m first a.1 in
        let ks = ok_and (links_in program ws) (IsLinked program here.0) here.2 in
        let rest = links_from (suc k) wss ms (λ i lt. ap (link_of_run s) (shift k i) ∙ at (suc i) (omega (arith, lt))) a.2 in
        rw here.1 (record { links = ks.0 ∷ rest.links; read = (ks.1, rest.read); are = (record { links = ks.0; given = ks.1; is = ks.2 }, rest.are) })
      where
        plus_zero : (k : ℕ) → k + 0 ≡ k
        plus_zero k = omega arith

        shift : (k i : ℕ) → suc k + i ≡ k + suc i
        shift k i = omega arith

    walks_count : length x.walks ≡ length s.runs
    walks_count = sym (zip_length Reads s.runs x.walks x.read)

    pub links : (made : List Made) → AllMade (FaultAt s) (MakesAt s) 1 0 (length s.runs) made → Links x.walks (filter_map linked_in made)
    links made a = links_from 0 x.walks made
        (λ i lt. ap (link_of_run s) (zero_plus i) ∙ link_is i (omega (arith, lt, walks_count)))
        (subst (λ (n : ℕ). AllMade (FaultAt s) (MakesAt s) 1 0 n made) (sym walks_count) a)
      where
        zero_plus : (i : ℕ) → 0 + i ≡ i
        zero_plus i = omega arith
