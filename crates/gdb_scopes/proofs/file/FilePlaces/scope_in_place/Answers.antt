use Rattle.std.proofs.Common.{◌≡◌, ℕ, Ok, Option, sym, ap, ◌∙◌}
use Rattle.std.specs.Prelude.{option_map}
use Rattle.std.proofs.lemmas.Result.{IfOk-weaker}
use Rattle.file_image.specs.Images.{Image}
use Rattle.index_model.specs.Faults.{program_of}
use Rattle.gdb_entries.specs.Owners.{class_read}
use Rattle.gdb_entries.specs.Scopes.{around_target, scope_in_place}
use Rattle.gdb_scopes.specs.Places.{offset_of}
use Rattle.gdb_scopes.proofs.ScopeLaws.{own_scope, target_scope}
use Rattle.gdb_scopes.proofs.file.FilePlaces.scope_in_place.Goals as goal

pub returns-then-is_some-clause-value : goal.returns-then-is_some-clause-value
returns-then-is_some-clause-value c p is d here own = own_scope p d c.in_ok-around.around (c.in_ok-around.ensures.value p is d here) (sym c.is_some.ensures ∙ c.if-is_some.true)

pub returns-clause-value : goal.returns-clause-value
returns-clause-value c p is d here own =
    let after : program_of c.around.new.self.file ≡ Ok p = ap (λ (e : Image). program_of e.file) c.around.ensures.kept ∙ is in
    IfOk-weaker c.around_target.result (λ (t : Option ℕ). t ≡ option_map offset_of (around_target p (class_read p d.home) d)) (λ (t : Option ℕ). t ≡ option_map offset_of (scope_in_place p d))
    (λ t found. target_scope p d c.in_ok-around.around (c.in_ok-around.ensures.value p is d here) (sym c.is_some.ensures ∙ c.if-is_some.false) t found)
    (c.around_target.ensures.value p after d here own)
