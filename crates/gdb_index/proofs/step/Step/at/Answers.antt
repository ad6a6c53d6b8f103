use Rattle.std.proofs.Common.{◌≡◌, Ok, ap, ◌∙◌}
use Rattle.file_image.specs.Images.{Image}
use Rattle.index_model.specs.Faults.{program_of}
use Rattle.gdb_index.proofs.step.Step.at.Goals as goal

pub returns-clause-value : goal.returns-clause-value
returns-clause-value c p is d here =
    let after : program_of c.component_at.new.places.file ≡ Ok p = ap (λ (e : Image). program_of e.file) c.component_at.ensures.kept ∙ is in
    record { component = λ release. c.in_ok-component.ensures release ∙ c.in_ok-spelled.ensures.value p is d here release; scope = c.in_ok-scope.ensures.value p after d here }
