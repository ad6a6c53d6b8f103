-- What opens behind each kind.
use Rattle.std.proofs.Common.{◌≡◌, ℕ, true, List, [], ◌∷◌, ◌++◌, length, filter_map, refl, ap, ◌∙◌, arith}
use Rattle.std.specs.Prelude.{slice_get}
use Rattle.index_model.specs.declared.job.Job.TheVariants.{Scan, Link, Main, Name, Merge, Write}
use Rattle.index_model.specs.declared.shard.Shard.{Shard}
use Rattle.index_model.specs.declared.shard.Linked.{Linked}
use Rattle.index_model.specs.Machine.{plan_for, State, End, Going, is_going}
use Rattle.index_model.specs.Outputs.{Subject, Made}
use Rattle.index_model.specs.Parts.{parts, summary_in, table_in, index_in}
use Rattle.stage_core.specs.declared.build.Build.{Build}
use Rattle.stage_core.specs.Build.{IsStock}
use Rattle.stage_core.specs.Inputs.{LinksOf, RunsOf, PublishedOf, handed, shard_in, linked_in, run_in, made_by_kind}
use Rattle.stage_core.specs.Outputs.{parts_seen}
use Rattle.stage_core.specs.Tasks.{AreTasks}
use Rattle.stage_core.proofs.OpeningLaws.{fresh, going_is, OpensAs, tasks_fit, other_tasks}

-- a state in which jobs go on
abbrev pub going : List (List Made) → State Made
going closed = record { closed = closed; drawn = 0; brought = []; end = Going }

-- what has been published while jobs go on is by the closed kinds alone
pub parts_going : (t : State Made) → is_going t.end ≡ true → parts t ≡ parts (going t.closed)
parts_going t is = ap (λ (e : End). parts (record { closed = t.closed; drawn = t.drawn; brought = t.brought; end = e })) (going_is t.end is)

module _ (s : Subject) (runs : ℕ) (ms : List Made) (b : Build) where
  pub main_opens : (closed : List (List Made)) (shards : List Shard) (linked : List Linked) → length closed ≡ 1 → shards ≡ filter_map shard_in (made_by_kind (going closed) (Scan 0)) → linked ≡ filter_map linked_in ms →
      AreTasks b.tasks.items 1 (λ _. record { job = Main; given = LinksOf shards linked }) → parts_seen b.parts ≡ parts (going closed) → ((scans : List Made) → closed ≡ scans ∷ [] → IsStock (fresh (scans ∷ ms ∷ []) 1) b.stock) → OpensAs s (plan_for runs) (closed ++ ms ∷ []) 1 b
  main_opens [] shards linked one from_scans from_links tasks published stock = absurd (omega (arith, one))
  main_opens (scans ∷ []) shards linked one from_scans from_links tasks published stock = record {
    jobs = refl;
    tasks =
        tasks_fit s (plan_for runs) (scans ∷ ms ∷ []) 1 (λ _. Main) b.tasks.items (λ i lt. refl)
        (other_tasks b.tasks.items 1 _ (λ _. handed s (fresh (scans ∷ ms ∷ []) 1) Main) (λ i. ap (λ xs. record { job = Main; given = LinksOf xs linked }) from_scans ∙ ap (λ ys. record { job = Main; given = LinksOf (filter_map shard_in scans) ys }) from_links) tasks);
    parts = published;
    stock = stock scans refl;
  }
  main_opens (x ∷ y ∷ rest) shards linked one from_scans from_links tasks published stock = absurd (omega (arith, one))

  pub names_open : (closed : List (List Made)) → length closed ≡ 2 →
      AreTasks b.tasks.items runs (λ k. record { job = Name k; given = LinksOf (filter_map shard_in (made_by_kind (going closed) (Scan 0))) (filter_map linked_in (made_by_kind (going closed) (Link 0))) }) →
      parts_seen b.parts ≡ record (parts (going closed)) { summary = summary_in (slice_get ms 0) } → IsStock (fresh (closed ++ ms ∷ []) runs) b.stock → OpensAs s (plan_for runs) (closed ++ ms ∷ []) runs b
  names_open [] two tasks published stock = absurd (omega (arith, two))
  names_open (x ∷ []) two tasks published stock = absurd (omega (arith, two))
  names_open (scans ∷ links ∷ []) two tasks published stock = record {
    jobs = refl;
    tasks = tasks_fit s (plan_for runs) (scans ∷ links ∷ ms ∷ []) runs (λ k. Name k) b.tasks.items (λ i lt. refl) tasks;
    parts = published;
    stock = stock;
  }
  names_open (x ∷ y ∷ z ∷ rest) two tasks published stock = absurd (omega (arith, two))

  pub merge_opens : (closed : List (List Made)) → length closed ≡ 3 → AreTasks b.tasks.items 1 (λ _. record { job = Merge; given = RunsOf (filter_map run_in ms) }) →
      parts_seen b.parts ≡ parts (going closed) → IsStock (fresh (closed ++ ms ∷ []) 1) b.stock → OpensAs s (plan_for runs) (closed ++ ms ∷ []) 1 b
  merge_opens [] three tasks published stock = absurd (omega (arith, three))
  merge_opens (x ∷ []) three tasks published stock = absurd (omega (arith, three))
  merge_opens (x ∷ y ∷ []) three tasks published stock = absurd (omega (arith, three))
  merge_opens (scans ∷ links ∷ main ∷ []) three tasks published stock = record {
    jobs = refl;
    tasks = tasks_fit s (plan_for runs) (scans ∷ links ∷ main ∷ ms ∷ []) 1 (λ _. Merge) b.tasks.items (λ i lt. refl) tasks;
    parts = published;
    stock = stock;
  }
  merge_opens (x ∷ y ∷ z ∷ w ∷ rest) three tasks published stock = absurd (omega (arith, three))

  pub write_opens : (closed : List (List Made)) → length closed ≡ 4 → AreTasks b.tasks.items 1 (λ _. record { job = Write; given = PublishedOf (record (parts (going closed)) { table = table_in (slice_get ms 0) }) s.cache }) →
      parts_seen b.parts ≡ record (parts (going closed)) { table = table_in (slice_get ms 0) } → IsStock (fresh (closed ++ ms ∷ []) 1) b.stock → OpensAs s (plan_for runs) (closed ++ ms ∷ []) 1 b
  write_opens [] four tasks published stock = absurd (omega (arith, four))
  write_opens (x ∷ []) four tasks published stock = absurd (omega (arith, four))
  write_opens (x ∷ y ∷ []) four tasks published stock = absurd (omega (arith, four))
  write_opens (x ∷ y ∷ z ∷ []) four tasks published stock = absurd (omega (arith, four))
  write_opens (scans ∷ links ∷ main ∷ names ∷ []) four tasks published stock = record {
    jobs = refl;
    tasks = tasks_fit s (plan_for runs) (scans ∷ links ∷ main ∷ names ∷ ms ∷ []) 1 (λ _. Write) b.tasks.items (λ i lt. refl) tasks;
    parts = published;
    stock = stock;
  }
  write_opens (x ∷ y ∷ z ∷ w ∷ v ∷ rest) four tasks published stock = absurd (omega (arith, four))

  pub last_closes : (closed : List (List Made)) → length closed ≡ 5 → b.tasks.items ≡ [] → parts_seen b.parts ≡ record (parts (going closed)) { cache = index_in (slice_get ms 0) } → IsStock (fresh (closed ++ ms ∷ []) 0) b.stock →
      OpensAs s (plan_for runs) (closed ++ ms ∷ []) 0 b
  last_closes [] five tasks published stock = absurd (omega (arith, five))
  last_closes (x ∷ []) five tasks published stock = absurd (omega (arith, five))
  last_closes (x ∷ y ∷ []) five tasks published stock = absurd (omega (arith, five))
  last_closes (x ∷ y ∷ z ∷ []) five tasks published stock = absurd (omega (arith, five))
  last_closes (x ∷ y ∷ z ∷ w ∷ []) five tasks published stock = absurd (omega (arith, five))
  last_closes (scans ∷ links ∷ main ∷ names ∷ merged ∷ []) five tasks published stock = record {
    jobs = refl;
    tasks = tasks_fit s (plan_for runs) (scans ∷ links ∷ main ∷ names ∷ merged ∷ ms ∷ []) 0 (λ _. Write) b.tasks.items (λ i lt. absurd (omega (arith, lt))) (record { all = ap length tasks; each = λ i lt. absurd (omega (arith, lt)) });
    parts = published;
    stock = stock;
  }
  last_closes (x ∷ y ∷ z ∷ w ∷ v ∷ u ∷ rest) five tasks published stock = absurd (omega (arith, five))
