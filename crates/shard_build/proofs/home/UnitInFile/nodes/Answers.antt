use Rattle.std.proofs.Common.{ℕ, Option, Ok, refl, subst, ap}
use Rattle.entry_scan.specs.Ahead.{GivesItem}
use Rattle.entry_scan.specs.declared.item.Item.{Item as Read}
use Rattle.index_model.specs.declared.unit.Unit.{Unit as UnitHeader}
use Rattle.index_model.proofs.Scans.{scanned_walked}
use Rattle.shard_build.specs.Again.{walk_by}
use Rattle.shard_build.proofs.AgainLaws.{holds_texts, texts_read}
use Rattle.shard_build.proofs.UnitRead.{is_of_unit, read_one}
use Rattle.shard_build.proofs.home.UnitInFile.nodes.Goals as goal

pub parent-requires : goal.parent-requires
parent-requires c = c.loop-entry.invariant.above.size

pub pass-requires : goal.pass-requires
pass-requires c = c.loop-entry.invariant.above.size

pub node_of_sound-node-requires-clause-texts : goal.node_of_sound-node-requires-clause-texts
node_of_sound-node-requires-clause-texts c =
    let home = c.args.self.now in
    let u : ℕ × UnitHeader = (home.number, home.unit) in
    let w = walk_by home c.args.abbrevs.now in
    let walk = (scanned_walked home.sections.now u w c.requires.sound).0 in
    let d = c.in-Ok-Some.entry in
    let given = subst (λ (o : Option Read). GivesItem c.loop-entry.walk c.next.new.self (Ok o)) c.in-Ok-Some.field-0-is c.in-Ok-Some.ensures.value in
    holds_texts home.sections.now u w walk home.bytes.now c.requires.own d (is_of_unit home.sections.now w c.loop-entry.nodes.nodes c.loop-entry.above.offsets.items c.loop-entry.walk c.loop-entry.invariant d c.next.new.self given.items)

pub node_of_sound-node-requires-clause-sound : goal.node_of_sound-node-requires-clause-sound
node_of_sound-node-requires-clause-sound c =
    let home = c.args.self.now in
    let u : ℕ × UnitHeader = (home.number, home.unit) in
    let w = walk_by home c.args.abbrevs.now in
    let d = c.in-Ok-Some.entry in
    let given = subst (λ (o : Option Read). GivesItem c.loop-entry.walk c.next.new.self (Ok o)) c.in-Ok-Some.field-0-is c.in-Ok-Some.ensures.value in
    let t = texts_read home.sections.now u w c.requires.sound c.str_offsets_base-base.result c.str_offsets_base-base.ensures home.unit.wide refl d (is_of_unit home.sections.now w c.loop-entry.nodes.nodes c.loop-entry.above.offsets.items c.loop-entry.walk c.loop-entry.invariant d c.next.new.self given.items) in
    (t.0, t.2)

pub loop-entry-preserved : goal.loop-entry-preserved
loop-entry-preserved c =
    let home = c.args.self.now in
    let u : ℕ × UnitHeader = (home.number, home.unit) in
    let w = walk_by home c.args.abbrevs.now in
    let walk = (scanned_walked home.sections.now u w c.requires.sound).0 in
    let d = c.in-Ok-Some.entry in
    let given = subst (λ (o : Option Read). GivesItem c.loop-entry.walk c.next.new.self (Ok o)) c.in-Ok-Some.field-0-is c.in-Ok-Some.ensures.value in
    let r = c.loop-entry.invariant in
    let t = texts_read home.sections.now u w c.requires.sound c.str_offsets_base-base.result c.str_offsets_base-base.ensures home.unit.wide refl d (is_of_unit home.sections.now w c.loop-entry.nodes.nodes c.loop-entry.above.offsets.items c.loop-entry.walk r d c.next.new.self given.items) in
    read_one home.sections.now w c.loop-entry.nodes.nodes c.loop-entry.above.offsets.items c.loop-entry.walk r d c.next.new.self given.items u walk c.parent.result c.parent.ensures t.0 t.1 _ (c.node_of_sound-node.ensures t.0 t.2) c.push.new.self.nodes (ap (λ g. g.nodes) c.in_ok-push.ensures) c.pass.new.self.offsets.items c.pass.ensures
