use Rattle.std.proofs.Common.{◌≡◌, ◌<◌, ◌^◌, ℕ, option_map}
use Rattle.index_model.specs.Program.{Located}
use Rattle.gdb_entries.specs.Files.{ForProgram}
use Rattle.gdb_entries.specs.Scopes.{scope_of}
use Rattle.gdb_scopes.specs.Places.{offset_of, IsAt}
use Rattle.gdb_index.proofs.PathLaws.{IsFollowedTo}
use Rattle.gdb_index.proofs.names.FileNames.components.Given as goal

-- the file is the same, and the item's path was followed so far
abbrev pub invariant-loop-next : goal.invariant-loop-next
invariant-loop-next l = record {
  same : l.self ≡ l.fn.self;
  range : l.left < 2 ^ 32;
  followed : ForProgram l.fn.self.file (λ p. (o : ℕ) (d : Located) → IsAt p o d → l.fn.scope ≡ option_map offset_of (scope_of p d) → IsFollowedTo p d l.left l.texts.items l.next);
}

abbrev pub decreases-loop-next : goal.decreases-loop-next
decreases-loop-next l = l.left
