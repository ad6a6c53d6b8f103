use Rattle.std.proofs.Common.{◌≡◌, List, [], ◌∷◌, Option, filter_map, ap, ◌∙◌, arith, length-append}
use Rattle.std.specs.Prelude.{slice_get}
use Rattle.index_model.specs.Machine.{Output}
use Rattle.index_model.specs.MachineEvents.{made_in}
use Rattle.index_model.specs.Outputs.{Made}
use Rattle.index_model.specs.Parts.{Parts, index_in}
use Rattle.index_model.specs.Cache.{Cache}
use Rattle.stage_core.specs.declared.build.Build.{Build}
use Rattle.stage_core.specs.declared.stock.Stock.TheVariants as stocks
use Rattle.stage_core.specs.Build.{subject_of}
use Rattle.stage_core.specs.Outputs.{parts_seen}
use Rattle.stage_core.specs.Slots.{made_of_slots}
use Rattle.stage_core.proofs.OpeningLaws.{opens_next}
use Rattle.stage_core.proofs.KindLaws.{parts_going, last_closes}
use Rattle.stage_core.proofs.build.Build.close_last.Goals as goal

pub returns-clause-opens : goal.returns-clause-opens
returns-clause-opens c =
    let a : Build = c.args.self.now in
    let ms : List Made = filter_map made_in a.progress.brought in
    let made : made_of_slots c.brought.result.now ≡ ms = ap (λ (bs : List (Option (Output Made))). filter_map made_in bs) c.brought.ensures in
    let b : Build = record { file = a.file; runs = a.runs; cache = a.cache; progress = c.shut.new.self; stock = stocks.Nothing; tasks = c.clear.new.self; parts = record a.parts { cache = c.in_ok-cache.cache } } in
    let published =
    ap (λ (o : Option Cache). record (parts_seen a.parts) { cache = o }) (c.in_ok-cache.ensures ∙ ap (λ (xs : List Made). index_in (slice_get xs 0)) made) ∙
    ap (λ (p : Parts). record p { cache = index_in (slice_get ms 0) }) (c.requires.open.fits.parts ∙ parts_going a.progress c.requires.open.going) in
    opens_next a b 0 c.requires.open c.in_ok-shut.ensures.closed (last_closes (subject_of a) a.runs ms b a.progress.closed c.requires.kind c.clear.ensures.items published (omega (arith, length-append a.progress.closed (ms ∷ []), c.requires.kind)))
