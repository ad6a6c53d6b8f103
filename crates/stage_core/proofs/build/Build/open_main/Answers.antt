use Rattle.std.proofs.Common.{◌≡◌, List, [], ◌∷◌, Option, map, filter_map, unwrap_or, refl, ap, ◌∙◌, sym, subst}
use Rattle.std.specs.Prelude.{slice_get}
use Rattle.index_model.specs.Machine.{Output}
use Rattle.index_model.specs.MachineEvents.{made_in}
use Rattle.index_model.specs.Outputs.{Made}
use Rattle.index_model.specs.declared.shard.Linked.{Linked}
use Rattle.index_model.specs.declared.shard.Shard.{Shard}
use Rattle.std.specs.Arc.{arc_value}
use Rattle.stage_core.specs.Inputs.{shard_in, linked_in}
use Rattle.stage_core.specs.declared.build.Build.{Build}
use Rattle.stage_core.specs.declared.stock.Stock.TheVariants as stocks
use Rattle.stage_core.specs.Build.{subject_of, IsStock, OpensNext}
use Rattle.stage_core.specs.Slots.{made_of_slots}
use Rattle.stage_core.proofs.OpeningLaws.{fresh, opens_next}
use Rattle.stage_core.proofs.KindLaws.{parts_going, main_opens}
use Rattle.stage_core.proofs.build.Build.open_main.Goals as goal

pub returns-clause-opens : goal.returns-clause-opens
returns-clause-opens c =
    let a : Build = c.args.self.now in
    let ms : List Made = filter_map made_in a.progress.brought in
    let made : made_of_slots c.brought.result.now ≡ ms = ap (λ (bs : List (Option (Output Made))). filter_map made_in bs) c.brought.ensures in
    let stock = stocks.Main c.args.shards c.in_ok-linked.linked in
    let b : Build = record { file = a.file; runs = a.runs; cache = a.cache; progress = c.shut.new.self; stock = stock; tasks = c.in_ok-tasks.tasks; parts = a.parts } in
    let shards : List Shard = map arc_value (arc_value c.args.shards).items in
    let linked : List Linked = map arc_value (arc_value c.in_ok-linked.linked).items in
    let linked_is : linked ≡ filter_map linked_in ms = ap (λ v. map arc_value v.items) c.in_ok-linked.ensures.ok ∙ (c.in_ok-linked_in.ensures ∙ ap (λ (xs : List Made). filter_map linked_in xs) made) in
    let kept : (scans : List Made) → a.progress.closed ≡ scans ∷ [] → IsStock (fresh (scans ∷ ms ∷ []) 1) stock = λ scans is. (refl, c.requires.shards ∙ ap (λ (closed : List (List Made)). filter_map shard_in (unwrap_or (slice_get closed 0) [])) is, linked_is) in
    subst (OpensNext a) (sym c.begin.ensures) (opens_next a b 1 c.requires.open c.in_ok-shut.ensures.closed (main_opens (subject_of a) a.runs ms b a.progress.closed shards linked c.requires.kind c.requires.shards linked_is c.in_ok-tasks.ensures (c.requires.open.fits.parts ∙ parts_going a.progress c.requires.open.going) kept))
