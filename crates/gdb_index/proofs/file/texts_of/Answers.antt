use Rattle.std.proofs.Common.{◌≡◌, List, ◌∙◌}
use Rattle.std.proofs.lemmas.Result.{IfOk-weaker}
use Rattle.index_model.specs.Sections.{Section}
use Rattle.shard_build.proofs.UnitNumbers.{image_is}
use Rattle.gdb_index.specs.Kept.{AreTextsOf}
use Rattle.gdb_index.proofs.file.texts_of.Goals as goal

pub returns-then-has_cxx : goal.returns-then-has_cxx
returns-then-has_cxx g c =
    let im = c.args.image.now in
    IfOk-weaker c.new.result (λ (ss : List Section). ss ≡ c.sections.result.now) (AreTextsOf im.file)
    (λ ss same p is. same ∙ c.sections.ensures.value ∙ (image_is im.file im p c.sections.ensures.of_file is).sections)
    c.new.ensures

pub returns-else-has_cxx : goal.returns-else-has_cxx
returns-else-has_cxx g c p is =
    let im = c.args.image.now in
    c.none.ensures ∙ c.sections-else-has_cxx.ensures.value ∙ (image_is im.file im p c.sections-else-has_cxx.ensures.of_file is).sections
