use Rattle.std.proofs.Common.{◌≡◌, List, Ok, ap, ◌∙◌}
use Rattle.index_model.specs.Faults.{program_of}
use Rattle.index_model.specs.Sections.{Section}
use Rattle.file_image.specs.Images.{Image}
use Rattle.shard_build.proofs.UnitNumbers.{image_is}
use Rattle.gdb_items.specs.Texts.{text_told}
use Rattle.gdb_items.proofs.file.FileItems.text.Goals as goal

pub returns : goal.returns
returns c p is =
    let im = c.self.inside.image.now in
    let here : program_of im.file ≡ Ok p = ap (λ (e : Image). program_of e.file) c.self.view_is ∙ is in
    c.bytes.ensures ∙ ap (λ (ss : List Section). text_told ss c.args.text) (c.sections.ensures.value ∙ (image_is im.file im p c.sections.ensures.of_file here).sections)
