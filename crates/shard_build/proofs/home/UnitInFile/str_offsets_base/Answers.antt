use Rattle.std.proofs.Common.{◌≡◌, ℕ, ◌∷◌, Option, Ok, sym, ap, subst, ◌∙◌}
use Rattle.entry_scan.specs.Ahead.{GivesItem}
use Rattle.entry_scan.specs.declared.item.Item.{Item as Read}
use Rattle.index_model.specs.declared.unit.Unit.{Unit as UnitHeader}
use Rattle.index_model.specs.Walk.{Walk, items}
use Rattle.index_model.specs.Program.{items_of}
use Rattle.index_model.proofs.Scans.{scanned_walked}
use Rattle.shard_build.specs.Again.{walk_by}
use Rattle.shard_build.proofs.AgainLaws.{base_by_root}
use Rattle.shard_build.proofs.home.UnitInFile.str_offsets_base.Goals as goal

pub returns-in-Ok-Some : goal.returns-in-Ok-Some
returns-in-Ok-Some c =
    let home = c.args.self.now in
    let u : ℕ × UnitHeader = (home.number, home.unit) in
    let w = walk_by home c.args.abbrevs.now in
    let walk = (scanned_walked home.sections.now u w c.requires.sound).0 in
    let gives = subst (λ (o : Option Read). GivesItem c.new.result c.next.new.self (Ok o)) c.in-Ok-Some.field-0-is c.in-Ok-Some.ensures.value in
    let all : items_of w ≡ c.in-Ok-Some.root ∷ items c.next.new.self = ap (λ (v : Walk). items v) (sym c.new.ensures) ∙ gives.items in
    c.str_offsets_base.ensures ∙ base_by_root home.sections.now u w walk c.in-Ok-Some.root (items c.next.new.self) all
