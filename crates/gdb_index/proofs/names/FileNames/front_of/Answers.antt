use Rattle.std.proofs.Common.{◌≡◌, None, sym, ◌∙◌}
use Rattle.gdb_entries.specs.Scopes.{scope_of}
use Rattle.gdb_index.proofs.NameLaws.{no_front}
use Rattle.gdb_index.proofs.PathLaws.{no_path, none_around}
use Rattle.gdb_index.proofs.names.FileNames.front_of.Goals as goal

pub returns-in-None-clause-value : goal.returns-in-None-clause-value
returns-in-None-clause-value c p is d here own read told release =
    let none : scope_of p d ≡ None = none_around (scope_of p d) (sym c.in-None.is ∙ c.in_ok-scope.ensures.value p is d here own read told) in
    no_front release p c.args.class d (no_path release p d none)
