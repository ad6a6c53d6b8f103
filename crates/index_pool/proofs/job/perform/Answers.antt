use Rattle.std.proofs.Common.{map, Some, option_map, sym, ap, subst, ◌∙◌, arith}
use Rattle.std.proofs.lemmas.List.{length-map}
use Rattle.std.specs.Arc.{arc_value}
use Rattle.index_model.specs.declared.job.Job.TheVariants.{Scan, Link, Main, Name, Merge}
use Rattle.index_model.specs.Machine.{Output}
use Rattle.index_model.specs.Outputs.{Made, IsOutputOf}
use Rattle.stage_core.specs.Outputs.{output_seen, parts_seen, summary_seen}
use Rattle.stage_core.specs.Tasks.{task_seen}
use Rattle.index_pool.proofs.LinkJob.{link_of_file, link_within, link_brings}
use Rattle.index_pool.proofs.MainJob.{main_of_file, main_brings}
use Rattle.index_pool.proofs.MergeJob.{merge_few, merge_tails, merge_brings}
use Rattle.index_pool.proofs.NameJob.{name_of_file, name_within, name_brings}
use Rattle.index_pool.proofs.Performs.{drawn_as, output_as, brought_as, to_link, to_main, to_name}
use Rattle.index_pool.proofs.ScanJob.{scan_within, scan_brings}
use Rattle.index_pool.proofs.WriteJob.{has_summary, has_table, are_published, write_brings}
use Rattle.index_pool.proofs.job.perform.Goals as goal
use Rattle.index_pool.proofs.job.perform.Goals.{in_default-via-in-Some+in_default, in_default-via-in_default}

-- ---- Scan

pub scan-requires : goal.scan-requires
scan-requires g c = scan_within c.args.image.now c.in-Scan.run' c.in-Scan.first c.in-Scan.count (drawn_as c.args.image.now (task_seen c.args.task) _ (ap task_seen c.in-Scan.is) c.requires)

pub returns-in-Scan : goal.returns-in-Scan
returns-in-Scan g c = output_as c.args.image.now (task_seen c.args.task) _ (ap task_seen c.in-Scan.is) (output_seen c.of_scan.result)
    (λ d. brought_as (λ (o : Output Made). IsOutputOf d.machine.subject (Scan c.in-Scan.run') o) tt _ (output_seen c.of_scan.result) c.of_scan.ensures (scan_brings c.args.image.now c.in-Scan.run' c.in-Scan.first c.in-Scan.count d c.scan.result c.scan.ensures))

-- ---- Link

pub link-requires-clause-of_file : goal.link-requires-clause-of_file
link-requires-clause-of_file g c =
    let slice = c.deref-in-Link.ensures.value ∙ ap (λ v. v.items) c.deref.ensures in
    let is = ap task_seen c.in-Link.is ∙ ap (λ xs. to_link c.in-Link.run' (map arc_value xs)) (sym slice) in
    link_of_file c.args.image.now c.in-Link.run' (map arc_value c.deref-in-Link.result.now) (drawn_as c.args.image.now (task_seen c.args.task) _ is c.requires)

pub link-requires-clause-within : goal.link-requires-clause-within
link-requires-clause-within g c =
    let slice = c.deref-in-Link.ensures.value ∙ ap (λ v. v.items) c.deref.ensures in
    let is = ap task_seen c.in-Link.is ∙ ap (λ xs. to_link c.in-Link.run' (map arc_value xs)) (sym slice) in
    omega (arith, length-map c.deref-in-Link.result.now arc_value, link_within c.args.image.now c.in-Link.run' (map arc_value c.deref-in-Link.result.now) (drawn_as c.args.image.now (task_seen c.args.task) _ is c.requires))

pub returns-in-Link : goal.returns-in-Link
returns-in-Link g c =
    let slice = c.deref-in-Link.ensures.value ∙ ap (λ v. v.items) c.deref.ensures in
    let is = ap task_seen c.in-Link.is ∙ ap (λ xs. to_link c.in-Link.run' (map arc_value xs)) (sym slice) in
    output_as c.args.image.now (task_seen c.args.task) _ is (output_seen c.of_link.result)
    (λ d. brought_as (λ (o : Output Made). IsOutputOf d.machine.subject (Link c.in-Link.run') o) tt _ (output_seen c.of_link.result) c.of_link.ensures (link_brings c.args.image.now c.in-Link.run' (map arc_value c.deref-in-Link.result.now) d c.link.result c.link.ensures))

-- ---- Main

pub summary-requires : goal.summary-requires
summary-requires g c =
    let shards = c.deref-in-Main-2.ensures.value ∙ ap (λ v. v.items) c.deref-in-Main.ensures in
    let linked = c.deref-in-Main-4.ensures.value ∙ ap (λ v. v.items) c.deref-in-Main-3.ensures in
    let is = ap task_seen c.in-Main.is ∙ ap (λ xs. to_main (map arc_value xs) (map arc_value (arc_value c.in-Main.linked).items)) (sym shards) ∙ ap (λ ys. to_main (map arc_value c.deref-in-Main-2.result.now) (map arc_value ys)) (sym linked) in
    main_of_file c.args.image.now (map arc_value c.deref-in-Main-2.result.now) (map arc_value c.deref-in-Main-4.result.now) (drawn_as c.args.image.now (task_seen c.args.task) _ is c.requires)

pub returns-in-Main : goal.returns-in-Main
returns-in-Main g c =
    let shards = c.deref-in-Main-2.ensures.value ∙ ap (λ v. v.items) c.deref-in-Main.ensures in
    let linked = c.deref-in-Main-4.ensures.value ∙ ap (λ v. v.items) c.deref-in-Main-3.ensures in
    let is = ap task_seen c.in-Main.is ∙ ap (λ xs. to_main (map arc_value xs) (map arc_value (arc_value c.in-Main.linked).items)) (sym shards) ∙ ap (λ ys. to_main (map arc_value c.deref-in-Main-2.result.now) (map arc_value ys)) (sym linked) in
    output_as c.args.image.now (task_seen c.args.task) _ is (output_seen c.of_main.result)
    (λ d. brought_as (λ (o : Output Made). IsOutputOf d.machine.subject Main o) tt _ (output_seen c.of_main.result) c.of_main.ensures (main_brings c.args.image.now (map arc_value c.deref-in-Main-2.result.now) (map arc_value c.deref-in-Main-4.result.now) d c.summary.result c.summary.ensures))

-- ---- Name

pub run_of-requires-clause-of_file : goal.run_of-requires-clause-of_file
run_of-requires-clause-of_file g c =
    let shards = c.deref-in-Name-2.ensures.value ∙ ap (λ v. v.items) c.deref-in-Name.ensures in
    let linked = c.deref-in-Name-4.ensures.value ∙ ap (λ v. v.items) c.deref-in-Name-3.ensures in
    let is = ap task_seen c.in-Name.is ∙ ap (λ xs. to_name c.in-Name.run' (map arc_value xs) (map arc_value (arc_value c.in-Name.linked).items)) (sym shards) ∙ ap (λ ys. to_name c.in-Name.run' (map arc_value c.deref-in-Name-2.result.now) (map arc_value ys)) (sym linked) in
    name_of_file c.args.image.now c.in-Name.run' (map arc_value c.deref-in-Name-2.result.now) (map arc_value c.deref-in-Name-4.result.now) (drawn_as c.args.image.now (task_seen c.args.task) _ is c.requires)

pub run_of-requires-clause-within : goal.run_of-requires-clause-within
run_of-requires-clause-within g c =
    let shards = c.deref-in-Name-2.ensures.value ∙ ap (λ v. v.items) c.deref-in-Name.ensures in
    let linked = c.deref-in-Name-4.ensures.value ∙ ap (λ v. v.items) c.deref-in-Name-3.ensures in
    let is = ap task_seen c.in-Name.is ∙ ap (λ xs. to_name c.in-Name.run' (map arc_value xs) (map arc_value (arc_value c.in-Name.linked).items)) (sym shards) ∙ ap (λ ys. to_name c.in-Name.run' (map arc_value c.deref-in-Name-2.result.now) (map arc_value ys)) (sym linked) in
    omega (arith, length-map c.deref-in-Name-2.result.now arc_value, name_within c.args.image.now c.in-Name.run' (map arc_value c.deref-in-Name-2.result.now) (map arc_value c.deref-in-Name-4.result.now) (drawn_as c.args.image.now (task_seen c.args.task) _ is c.requires))

pub returns-in-Name : goal.returns-in-Name
returns-in-Name g c =
    let shards = c.deref-in-Name-2.ensures.value ∙ ap (λ v. v.items) c.deref-in-Name.ensures in
    let linked = c.deref-in-Name-4.ensures.value ∙ ap (λ v. v.items) c.deref-in-Name-3.ensures in
    let is = ap task_seen c.in-Name.is ∙ ap (λ xs. to_name c.in-Name.run' (map arc_value xs) (map arc_value (arc_value c.in-Name.linked).items)) (sym shards) ∙ ap (λ ys. to_name c.in-Name.run' (map arc_value c.deref-in-Name-2.result.now) (map arc_value ys)) (sym linked) in
    output_as c.args.image.now (task_seen c.args.task) _ is (output_seen c.of_name.result)
    (λ d. subst (λ (o : Output Made). IsOutputOf d.machine.subject (Name c.in-Name.run') o) (sym c.of_name.ensures) (name_brings c.args.image.now c.in-Name.run' (map arc_value c.deref-in-Name-2.result.now) (map arc_value c.deref-in-Name-4.result.now) d c.run_of.result c.run_of.ensures))

-- ---- Merge

pub merge-requires-clause-few : goal.merge-requires-clause-few
merge-requires-clause-few g c κs within =
    merge_few c.args.image.now c.in-Merge.runs.items (drawn_as c.args.image.now (task_seen c.args.task) _ (ap task_seen c.in-Merge.is) c.requires) (omega (arith, c.sections_are_small.ensures.info)) (omega (arith, c.sections_are_small.ensures.types))

pub merge-requires-clause-tails : goal.merge-requires-clause-tails
merge-requires-clause-tails g c κs within = merge_tails c.args.image.now c.in-Merge.runs.items (drawn_as c.args.image.now (task_seen c.args.task) _ (ap task_seen c.in-Merge.is) c.requires)

pub returns-in-Merge : goal.returns-in-Merge
returns-in-Merge g c = output_as c.args.image.now (task_seen c.args.task) _ (ap task_seen c.in-Merge.is) (output_seen c.of_merge.result)
    (λ d. brought_as (λ (o : Output Made). IsOutputOf d.machine.subject Merge o) tt _ (output_seen c.of_merge.result) c.of_merge.ensures (merge_brings c.args.image.now c.in-Merge.runs.items d c.merge.result c.merge.ensures))

-- ---- Write

pub unreachable-requires : goal.unreachable-requires
unreachable-requires g c =
    let d = drawn_as c.args.image.now (task_seen c.args.task) _ (ap task_seen c.in-Write.is) c.requires in
    elim c.in_default.branch [
      | in_default-via-in-Some+in_default w ↦ has_table c.args.image.now (parts_seen c.in-Write.published) c.in-Write.kind d (ap (option_map arc_value) w.in_default.is-1)
      | in_default-via-in_default w ↦ has_summary c.args.image.now (parts_seen c.in-Write.published) c.in-Write.kind d (ap (option_map (λ m. summary_seen (arc_value m))) w.in_default.is-0)
    ]

pub write_index-requires : goal.write_index-requires
write_index-requires g c =
    let published =
    are_published c.args.image.now (parts_seen c.in-Write.published) c.in-Write.kind (drawn_as c.args.image.now (task_seen c.args.task) _ (ap task_seen c.in-Write.is) c.requires) (summary_seen c.deref-in-Write.result.now) c.deref-in-Write-2.result.now
    (ap (option_map (λ m. summary_seen (arc_value m))) c.in-Some-Some.is-0 ∙ ap (λ m. Some (summary_seen m)) (sym c.deref-in-Write.ensures))
    (ap (option_map arc_value) c.in-Some-Some.is-1 ∙ ap (λ es. Some es) (sym c.deref-in-Write-2.ensures)) in
    (c.type_bounds.sync-R, published)

pub returns-in-Some-Some : goal.returns-in-Some-Some
returns-in-Some-Some g c = output_as c.args.image.now (task_seen c.args.task) _ (ap task_seen c.in-Write.is) (output_seen c.write_index.result)
    (λ d. write_brings c.args.image.now (parts_seen c.in-Write.published) c.in-Write.kind d (output_seen c.write_index.result) c.write_index.ensures)
