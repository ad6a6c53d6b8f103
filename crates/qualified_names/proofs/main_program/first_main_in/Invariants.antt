use Rattle.std.proofs.Common.{◌≡◌, drop}
use Rattle.qualified_names.specs.Sought.{ForAllCounted, is_main_by}
use Rattle.qualified_names.proofs.Mains.{Left}
use Rattle.qualified_names.proofs.main_program.first_main_in.Given as goal

abbrev pub invariant-loop-entry : goal.invariant-loop-entry
invariant-loop-entry l = record {
  kept : l.languages ≡ l.fn.languages;
  left : ForAllCounted l.fn.languages l.entries (λ p ks. Left p (is_main_by p l.sought) ks (drop l.entry-index l.entries));
}
