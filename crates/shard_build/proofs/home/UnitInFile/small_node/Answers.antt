use Rattle.std.proofs.Common.{ℕ, refl}
use Rattle.index_model.specs.declared.unit.Unit.{Unit as UnitHeader}
use Rattle.shard_build.proofs.SmallLaws.{small_is}
use Rattle.shard_build.proofs.home.UnitInFile.small_node.Goals as goal

pub returns-then-has_short_texts : goal.returns-then-has_short_texts
returns-then-has_short_texts c =
    let home = c.args.self.now in
    let u : ℕ × UnitHeader = (home.number, home.unit) in
    small_is home.sections.now u c.args.parent c.args.entry.now c.args.offsets.now _ c.requires (c.is_plain.ensures c.if-is_plain.true) (c.has_short_texts.ensures.name c.if-has_short_texts.true) (c.has_short_texts.ensures.linkage c.if-has_short_texts.true) (rw (c.offset.ensures.value, c.tag.ensures, c.own_facts.ensures, c.next.ensures) refl)
