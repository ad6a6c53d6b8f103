use Rattle.std.proofs.Common.{ℕ, Option, Ok, refl, sym, subst, ◌∙◌}
use Rattle.entry_scan.specs.Ahead.{GivesItem}
use Rattle.entry_scan.specs.declared.item.Item.{Item as Read}
use Rattle.index_model.specs.declared.unit.Unit.{Unit as UnitHeader}
use Rattle.index_model.proofs.Scans.{scanned_walked}
use Rattle.shard_build.specs.Again.{walk_by}
use Rattle.shard_build.proofs.AgainLaws.{holds_texts, texts_read}
use Rattle.gdb_items.proofs.ItemLaws.{item_there}
use Rattle.gdb_items.proofs.ReadLaws.{is_of_unit, read_one, pass_one}
use Rattle.gdb_items.proofs.unit.items_by.Goals as goal

pub of-requires-clause-texts : goal.of-requires-clause-texts
of-requires-clause-texts c =
    let home = c.args.home.now in
    let u : ℕ × UnitHeader = (home.number, home.unit) in
    let w = walk_by home c.args.abbrevs.now in
    let walk = (scanned_walked home.sections.now u w c.requires.sound).0 in
    let d = c.in-Ok-Some.entry in
    let given = subst (λ (o : Option Read). GivesItem c.loop-entry.walk c.next.new.self (Ok o)) c.in-Ok-Some.field-0-is c.in-Ok-Some.ensures.value in
    let member = is_of_unit home.sections.now w c.args.which c.loop-entry.items.items c.loop-entry.walk c.loop-entry.invariant d c.next.new.self given.items in
    holds_texts home.sections.now u w walk home.bytes.now c.requires.within.own d member

pub of-requires-clause-sound : goal.of-requires-clause-sound
of-requires-clause-sound c =
    let home = c.args.home.now in
    let u : ℕ × UnitHeader = (home.number, home.unit) in
    let w = walk_by home c.args.abbrevs.now in
    let d = c.in-Ok-Some.entry in
    let given = subst (λ (o : Option Read). GivesItem c.loop-entry.walk c.next.new.self (Ok o)) c.in-Ok-Some.field-0-is c.in-Ok-Some.ensures.value in
    let member = is_of_unit home.sections.now w c.args.which c.loop-entry.items.items c.loop-entry.walk c.loop-entry.invariant d c.next.new.self given.items in
    let t = texts_read home.sections.now u w c.requires.sound c.str_offsets_base-base.result c.str_offsets_base-base.ensures home.unit.wide refl d member in
    (t.0, t.2)

pub loop-entry-preserved-in_ok-push : goal.loop-entry-preserved-in_ok-push
loop-entry-preserved-in_ok-push c =
    let home = c.args.home.now in
    let ss = home.sections.now in
    let u : ℕ × UnitHeader = (home.number, home.unit) in
    let w = walk_by home c.args.abbrevs.now in
    let which = c.args.which in
    let d = c.in-Ok-Some.entry in
    let given = subst (λ (o : Option Read). GivesItem c.loop-entry.walk c.next.new.self (Ok o)) c.in-Ok-Some.field-0-is c.in-Ok-Some.ensures.value in
    let was = c.loop-entry.items.items in
    let old = c.loop-entry.walk in
    let next = c.next.new.self in
    let r = c.loop-entry.invariant in
    let t = texts_read ss u w c.requires.sound c.str_offsets_base-base.result c.str_offsets_base-base.ensures home.unit.wide refl d (is_of_unit ss w which was old r d next given.items) in
    let o = c.of.ensures in
    let own = item_there ss w d t.0 t.1 c.of.result o.offset o.depth o.facts o.scoped o.origin (o.texts t.0 t.2) in
    read_one ss w which was old r d next given.items (sym c.keeps.ensures ∙ c.if-keeps.true) c.of.result own c.push.new.self.items c.in_ok-push.ensures.items

pub loop-entry-preserved : goal.loop-entry-preserved
loop-entry-preserved c =
    let home = c.args.home.now in
    let d = c.in-Ok-Some.entry in
    let given = subst (λ (o : Option Read). GivesItem c.loop-entry.walk c.next.new.self (Ok o)) c.in-Ok-Some.field-0-is c.in-Ok-Some.ensures.value in
    pass_one home.sections.now (walk_by home c.args.abbrevs.now) c.args.which c.loop-entry.items.items c.loop-entry.walk c.loop-entry.invariant d c.next.new.self given.items (sym c.keeps.ensures ∙ c.if-keeps.false)
