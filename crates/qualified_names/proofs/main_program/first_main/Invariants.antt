use Rattle.std.proofs.Common.{◌≡◌, map}
use Rattle.std.specs.Arc.{arc_value}
use Rattle.qualified_names.specs.Files.{all_linked}
use Rattle.qualified_names.specs.Sought.{ForAllCounted, is_main_by}
use Rattle.qualified_names.proofs.Mains.{Left, from_run}
use Rattle.qualified_names.proofs.main_program.first_main.Given as goal

abbrev pub invariant-loop-links : goal.invariant-loop-links
invariant-loop-links l = record {
  kept : l.languages ≡ l.fn.languages;
  left : ForAllCounted l.fn.languages (all_linked (map arc_value l.linked)) (λ p ks. Left p (is_main_by p l.sought) ks (from_run l.linked l.links-index));
}
