use Rattle.std.proofs.Common.{sym, ◌∙◌}
use Rattle.gdb_entries.specs.Owners.{class_read}
use Rattle.gdb_scopes.proofs.ScopeLaws.{around_told}
use Rattle.gdb_scopes.proofs.file.FilePlaces.around.Goals as goal

pub returns-in-Some-clause-value : goal.returns-in-Some-clause-value
returns-in-Some-clause-value c p is d here = around_told p d (class_read p d.home) _ (sym c.in-Some.is ∙ c.in_ok-place.ensures.value p is d here)

pub returns-in-None-clause-value : goal.returns-in-None-clause-value
returns-in-None-clause-value c p is d here = around_told p d (class_read p d.home) _ (sym c.in-None.is ∙ c.in_ok-place.ensures.value p is d here)
