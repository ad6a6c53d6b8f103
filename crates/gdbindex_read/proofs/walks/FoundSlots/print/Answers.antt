use Rattle.std.proofs.Common.{◌≡◌, ◌<◌, List, Option, length, get_or, Some, None, ap, sym, ◌∙◌}
use Rattle.std.proofs.lemmas.Bool.{ltb-true}
use Rattle.std.proofs.lemmas.List.{get_or_default}
use Rattle.gdbindex_read.specs.declared.homes.PathStart.{PathStart}
use Rattle.gdbindex_read.proofs.walks.FoundSlots.print.Goals as goal

pub returns-in-Some-Some : goal.returns-in-Some-Some
returns-in-Some-Some c = λ slots are.
    let xs = c.deref.result.now in
    let k = c.args.place in
    let l = c.in-Some-Some.ensures.lookup in
    let within : k < length xs = ltb-true k (length xs) (sym l.0) in
    let in_slice : get_or xs k None ≡ Some c.in-Some-Some.home = get_or_default xs k None c.in-Some-Some.field-0.now within ∙ sym l.1 ∙ c.in-Some-Some.field-0-is in
    let there : get_or c.args.self.now.homes.items k None ≡ Some c.in-Some-Some.home = ap (λ (ys : List (Option PathStart)). get_or ys k None) (sym c.deref.ensures.value) ∙ in_slice in
    let home = are k c.in-Some-Some.home there in
    (home.slot, home.there, home.print)
