use Rattle.std.proofs.Common.{◌≡◌, Ok, ap, ◌∙◌}
use Rattle.file_image.specs.Images.{Image}
use Rattle.index_model.specs.Faults.{program_of}
use Rattle.gdb_scopes.proofs.UnitLaws.{reading_told}
use Rattle.gdb_index.proofs.file.ReadFile.reading.Goals as goal

pub returns : goal.returns
returns c p given w wc number =
    let f = c.self.inside.image.now.file in
    let is : program_of f ≡ Ok p = ap (λ (e : Image). program_of e.file) c.self.view_is ∙ given in
    c.reading_at.ensures ∙ reading_told f p is w wc c.args.unit number c.deref.result.now (c.deref.ensures.value ∙ c.self.invariant.1 p is)
