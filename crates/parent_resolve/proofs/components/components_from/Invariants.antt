use Rattle.std.proofs.Common.{◌≡◌, length}
use Rattle.parent_resolve.specs.Paths.{ForAround}
use Rattle.parent_resolve.proofs.ComponentLaws.{Gathered}
use Rattle.parent_resolve.proofs.components.components_from.Given as goal

abbrev pub invariant-members : goal.invariant-members
invariant-members l = record {
  kept : l.references ≡ l.fn.references;
  counted : length l.components.items ≡ l.counter;
  gathered : ForAround l.fn.references l.fn.parent (λ p d. Gathered p d l.components.items l.around);
}
