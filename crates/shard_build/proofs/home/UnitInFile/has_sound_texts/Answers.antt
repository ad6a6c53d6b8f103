use Rattle.shard_build.proofs.UnkeptLaws.{texts_ok}
use Rattle.shard_build.proofs.home.UnitInFile.has_sound_texts.Goals as goal

pub returns-then-is_sound_in : goal.returns-then-is_sound_in
returns-then-is_sound_in c e =
    let linkage = c.has_sound_linkage_name.ensures e in
    texts_ok c.args.self.now.sections.now c.args.self.now.unit.wide c.args.item.now (c.is_sound_in.ensures c.if-is_sound_in.true) linkage.0 linkage.1
