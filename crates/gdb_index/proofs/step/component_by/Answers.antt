use Rattle.std.proofs.Common.{◌≡◌, Ok, ap, ◌∙◌}
use Rattle.file_image.specs.Images.{Image}
use Rattle.index_model.specs.Faults.{program_of}
use Rattle.gdb_scopes.proofs.ScopeLaws.{item_there}
use Rattle.gdb_scopes.proofs.WalkLaws.{told_tag}
use Rattle.gdb_index.proofs.step.component_by.Goals as goal

pub returns-clause-value : goal.returns-clause-value
returns-clause-value c p is d here =
    let item = c.in-Some.item in
    let own = item_there p.sections c.in_ok-item.field-0 item _ d c.in-Some.is here (c.in_ok-item.ensures.value p is) in
    let after : program_of c.at.new.self.file ≡ Ok p = ap (λ (e : Image). program_of e.file) c.at.ensures.kept ∙ is in
    c.component_told.ensures p d (c.requires p is) (told_tag p.sections d item own) (c.in_ok-chain.ensures.value p after d own)
