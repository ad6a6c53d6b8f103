use Rattle.std.proofs.Common.{◌≡◌, drop}
use Rattle.index_model.specs.Links.{indexed_in}
use Rattle.qualified_names.specs.Indexed.{ForLinksOf}
use Rattle.qualified_names.proofs.RunLaws.{Written}
use Rattle.qualified_names.proofs.run.entries_of.Given as goal

abbrev pub invariant-loop-entry : goal.invariant-loop-entry
invariant-loop-entry l = record {
  names : l.names ≡ l.initial.names;
  written : ForLinksOf l.initial.names l.linked (λ p ks. Written p (indexed_in ks) l.entries.items (drop l.entry-index l.linked));
}
