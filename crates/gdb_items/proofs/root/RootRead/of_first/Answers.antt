use Rattle.std.proofs.Common.{◌≡◌, ℕ, [], ◌∷◌, Option, Ok, Err, rules, sym, ap, subst, ◌∙◌}
use Rattle.entry_scan.specs.Ahead.{GivesItem}
use Rattle.entry_scan.specs.declared.item.Item.{Item as Read}
use Rattle.index_model.specs.declared.unit.Unit.{Unit as UnitHeader}
use Rattle.index_model.specs.Walk.{Walk, items}
use Rattle.index_model.specs.Program.{items_of}
use Rattle.index_model.proofs.Scans.{scanned_walked}
use Rattle.shard_build.specs.Again.{walk_by}
use Rattle.index_model.proofs.FirstEntry.{first_is_root}
use Rattle.gdb_items.proofs.RootLaws.{root_read, none_read}
use Rattle.gdb_items.proofs.root.RootRead.of_first.Goals as goal
use Rattle.gdb_items.proofs.root.RootRead.of_first.Goals.{in_default-via-in-Ok+in_default, in_default-via-in_default}

pub returns-in-Ok-Some : goal.returns-in-Ok-Some
returns-in-Ok-Some c p sections =
    let home = c.args.home.now in
    let u : ℕ × UnitHeader = (home.number, home.unit) in
    let w = walk_by home c.args.abbrevs.now in
    let walk = (scanned_walked home.sections.now u w c.requires.sound).0 in
    let d = c.in-Ok-Some.root in
    let gives = subst (λ (o : Option Read). GivesItem c.new.result c.next.new.self (Ok o)) c.in-Ok-Some.field-0-is c.in-Ok-Some.ensures.value in
    let all : items_of w ≡ d ∷ items c.next.new.self = ap (λ (v : Walk). items v) (sym c.new.ensures) ∙ gives.items in
    let root = first_is_root home.sections.now u w walk d (items c.next.new.self) all in
    root_read p w c.of.result home.sections.now sections d root c.str_offsets_base.result c.str_offsets_base.ensures c.of.ensures.unit c.of.ensures.class

pub returns-in_default : goal.returns-in_default
returns-in_default c p sections =
    let w = walk_by c.args.home.now c.args.abbrevs.now in
    let all : items_of w ≡ items c.new.result = ap (λ (v : Walk). items v) (sym c.new.ensures) in
    let none : items c.new.result ≡ [] = elim c.in_default.branch [
      | in_default-via-in-Ok+in_default w ↦ search rules
      | in_default-via-in_default w ↦
          let ends : GivesItem c.new.result c.next.new.self (Err w.in_default.field-0) = subst (GivesItem c.new.result c.next.new.self) w.in_default.is c.next.ensures.value in
          ends.items
    ] in
    none_read p w c.none.result (all ∙ none) c.none.ensures.unit c.none.ensures.class
