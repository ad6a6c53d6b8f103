use Rattle.std.proofs.Common.{sym, subst}
use Rattle.shard_build.specs.declared.units_again.UnitsAgain.{UnitsAgain}
use Rattle.shard_build.specs.Again.{AreOfUnit, AreOfUnits}
use Rattle.shard_build.proofs.MapLaws.{one_more}
use Rattle.shard_build.proofs.units_again.UnitsAgain.with.Goals as goal
use Rattle.shard_build.proofs.units_again.UnitsAgain.with.Goals.{in-Some, in-None}

pub returns : goal.returns
returns c file before own =
    let known : AreOfUnits file c.match-units.all.nodes = elim c.match-units.branch [
      | in-Some w ↦ subst (λ (u : UnitsAgain). AreOfUnits file u.nodes) (sym w.all-is) (before _ w.in-Some.is)
      | in-None w ↦ subst (λ (u : UnitsAgain). AreOfUnits file u.nodes) (sym w.all-is) (w.new-all.ensures file)
    ] in
    one_more (AreOfUnit file) c.match-units.all.nodes c.insert.new.self c.args.unit c.args.nodes known own c.in_ok-insert.ensures.updates.0
