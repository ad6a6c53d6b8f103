use Rattle.std.proofs.Common.{ℕ, [], ◌∷◌, ◌++◌, Vec, Global, sym, ap, ◌∙◌}
use Rattle.gdb_units.proofs.TargetLaws.{set_target}
use Rattle.gdb_units.proofs.imported.add_target.Goals as goal

pub returns-in_ok-push-clause-added : goal.returns-in_ok-push-clause-added
returns-in_ok-push-clause-added c u lt = set_target c.args.targets.now c.args.unit c.index-targets-unit.result c.push.new.self c.args.target c.if-unit-targets.true c.index-targets-unit.is (c.in_ok-push.ensures.items ∙ ap (λ (own : Vec ℕ Global). own.items ++ c.args.target ∷ []) (sym c.index-targets-unit.is)) u
