use Rattle.std.proofs.Common.{◌≡◌}
use Rattle.parent_resolve.specs.Runs.{ForStanding}
use Rattle.parent_resolve.proofs.RunLinks.{IsTaken}
use Rattle.parent_resolve.proofs.links.links_of.Given as goal

abbrev pub invariant-loop-k : goal.invariant-loop-k
invariant-loop-k l = record {
  paths : l.paths ≡ l.initial.paths;
  languages : l.languages ≡ l.initial.languages;
  taken : ForStanding l.initial.paths l.shard (λ p run. IsTaken p run l.k l.entries.items);
}
