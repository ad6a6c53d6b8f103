use Rattle.std.proofs.Common.{◌≡◌, Result, Ok, sym, ap, ◌∙◌}
use Rattle.ix_base.specs.declared.fault.Fault.{Fault}
use Rattle.index_model.specs.Meaning.{at_place}
use Rattle.index_model.specs.Strings.{Texts}
use Rattle.index_model.proofs.Meanings.{same_ok}
use Rattle.shard_build.specs.Texts.{texts_seen}
use Rattle.gdb_items.proofs.text.sound_texts.Goals as goal

pub unreachable-requires : goal.unreachable-requires
unreachable-requires c =
    let d = c.args.entry.now in
    let placed : Result Texts Fault = at_place d.at (Ok c.requires.sound.0) in
    let sound : _ ≡ placed = ap (at_place d.at) c.requires.sound.1 in
    let wrong = c.in-Err.ensures in
    absurd (let stuck = sym sound ∙ wrong in cc)

pub returns : goal.returns
returns c t read =
    let d = c.args.entry.now in
    let sound = ap (at_place d.at) read in
    sym (same_ok t (texts_seen c.in-Ok.texts) (sym sound ∙ c.in-Ok.ensures))
