use Rattle.std.proofs.Common.{◌≡◌, ℕ, Some, refl, sym, ap, subst, ◌∙◌}
use Rattle.std.specs.Option.{option_map}
use Rattle.index_model.specs.declared.unit.Unit.{Unit as UnitHeader}
use Rattle.index_model.specs.ShardParts.{item_in_span}
use Rattle.index_model.proofs.Scans.{scanned_walked}
use Rattle.index_model.proofs.Located.{at_home}
use Rattle.entry_scan.specs.Inside.{walked_of}
use Rattle.shard_build.specs.Again.{walk_by}
use Rattle.shard_build.specs.Entries.{IsNodeIn}
use Rattle.shard_build.proofs.AgainLaws.{holds_texts, texts_read, node_again}
use Rattle.shard_build.proofs.FoundSpans.{in_span}
use Rattle.shard_build.proofs.home.UnitInFile.node_within.Goals as goal

pub node_of_sound-requires-clause-texts : goal.node_of_sound-requires-clause-texts
node_of_sound-requires-clause-texts c =
    let home = c.args.self.now in
    let u : ℕ × UnitHeader = (home.number, home.unit) in
    let w = walk_by home c.args.abbrevs.now in
    let s = c.args.span.now in
    let o = c.args.offset in
    let d = c.in_ok-item.item in
    let was : c.item_at.result ≡ Some d = c.in_ok-item.was in
    let found : item_in_span w s o ≡ Some d = ap (λ (n : ℕ). item_in_span (walked_of home.unit c.args.abbrevs.now home.bytes.now n) s o) (sym c.requires.number) ∙ sym c.item_at.ensures ∙ was in
    let member = (in_span w s o d found).0 in
    let walk = (scanned_walked home.sections.now u w c.requires.sound).0 in
    holds_texts home.sections.now u w walk home.bytes.now c.requires.own d member

pub node_of_sound-requires-clause-sound : goal.node_of_sound-requires-clause-sound
node_of_sound-requires-clause-sound c =
    let home = c.args.self.now in
    let u : ℕ × UnitHeader = (home.number, home.unit) in
    let w = walk_by home c.args.abbrevs.now in
    let s = c.args.span.now in
    let o = c.args.offset in
    let d = c.in_ok-item.item in
    let was : c.item_at.result ≡ Some d = c.in_ok-item.was in
    let found : item_in_span w s o ≡ Some d = ap (λ (n : ℕ). item_in_span (walked_of home.unit c.args.abbrevs.now home.bytes.now n) s o) (sym c.requires.number) ∙ sym c.item_at.ensures ∙ was in
    let t = texts_read home.sections.now u w c.requires.sound c.str_offsets_base-base.result c.str_offsets_base-base.ensures home.unit.wide refl d (in_span w s o d found).0 in
    (t.0, t.2)

pub returns : goal.returns
returns c =
    let home = c.args.self.now in
    let u : ℕ × UnitHeader = (home.number, home.unit) in
    let w = walk_by home c.args.abbrevs.now in
    let s = c.args.span.now in
    let o = c.args.offset in
    let d = c.in_ok-item.item in
    let was : c.item_at.result ≡ Some d = c.in_ok-item.was in
    let found : item_in_span w s o ≡ Some d = ap (λ (n : ℕ). item_in_span (walked_of home.unit c.args.abbrevs.now home.bytes.now n) s o) (sym c.requires.number) ∙ sym c.item_at.ensures ∙ was in
    let t = texts_read home.sections.now u w c.requires.sound c.str_offsets_base-base.result c.str_offsets_base-base.ensures home.unit.wide refl d (in_span w s o d found).0 in
    let seen = c.node_of_sound.ensures t.0 t.2 in
    let there : Some (at_home w d) ≡ option_map (at_home w) (item_in_span w s o) = ap (option_map (at_home w)) (sym found) in
    let parent = c.requires.parent (at_home w d) (sym there) in
    subst (IsNodeIn home.sections.now (Some c.node_of_sound.result)) there (node_again home.sections.now w d t.0 t.1 c.node_of_sound.result s.entry parent seen)
