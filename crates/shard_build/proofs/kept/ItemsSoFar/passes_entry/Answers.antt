use Rattle.std.proofs.Common.{ℕ, sym, ◌∙◌}
use Rattle.index_model.specs.declared.unit.Unit.{Unit as UnitHeader}
use Rattle.shard_build.specs.Kept.{kept_seen}
use Rattle.shard_build.proofs.UnkeptLaws.{unchanged}
use Rattle.shard_build.proofs.kept.ItemsSoFar.passes_entry.Goals as goal

pub returns-then-is_unkept : goal.returns-then-is_unkept
returns-then-is_unkept c e =
    let u : ℕ × UnitHeader = (c.args.home.now.number, c.args.home.now.unit) in
    unchanged c.args.home.now.sections.now u (kept_seen c.args.self.now) c.args.item.now (sym c.is_unkept.ensures ∙ c.if-is_unkept.true) (c.has_sound_texts.ensures e)
