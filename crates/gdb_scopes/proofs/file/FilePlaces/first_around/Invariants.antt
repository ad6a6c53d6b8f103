use Rattle.std.proofs.Common.{◌≡◌, List, drop}
use Rattle.std.specs.List.{AllZip}
use Rattle.index_model.specs.Program.{Located}
use Rattle.gdb_entries.specs.Files.{ForProgram}
use Rattle.gdb_scopes.specs.Places.{IsAt}
use Rattle.gdb_scopes.proofs.ScopeLaws.{IsSoughtTo}
use Rattle.gdb_scopes.proofs.file.FilePlaces.first_around.Given as goal

-- the file is the same, and none of the items so far has an open item around it
abbrev pub invariant-loop-offset : goal.invariant-loop-offset
invariant-loop-offset l = record {
  same : l.self ≡ l.fn.self;
  sought : ForProgram l.fn.self.file (λ p. (ds : List Located) → AllZip (IsAt p) l.offsets ds → IsSoughtTo p ds (drop l.offset-index l.offsets));
}
