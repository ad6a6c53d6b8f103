use Rattle.std.proofs.Common.{◌+◌, subst, sym, refl}
use Rattle.std.proofs.lemmas.Bool.{false≢true}
use Rattle.address_map.proofs.Ascending.{IsTested, untested, one_more, all_tested, not_ascending, two_at_least}
use Rattle.address_map.proofs.UnitAt.{no_range}
use Rattle.address_map.proofs.overlay.is_ascending.Goals as goal

pub pass-init : goal.pass-init
pass-init c = untested c.args.ranges.now

pub pass-preserved : goal.pass-preserved
pass-preserved c = subst (IsTested c.args.ranges.now (c.pass.range-index + 1)) (sym c.max-from.ensures) (one_more _ _ _ no_range c.pass-test.true c.if-range-from.false c.pass.invariant)

pub returns-clause-ascending : goal.returns-clause-ascending
returns-clause-ascending c = (λ _. all_tested _ _ _ c.pass-test.false c.pass.invariant, λ _. refl)

pub returns-then-range-from-clause-ascending : goal.returns-then-range-from-clause-ascending
returns-then-range-from-clause-ascending c = (
  λ claim. absurd (false≢true claim),
  λ ascends. absurd (not_ascending _ _ _ no_range c.pass-test.true c.if-range-from.true c.pass.invariant ascends),
)

pub returns-then-range-from-clause-two : goal.returns-then-range-from-clause-two
returns-then-range-from-clause-two c = two_at_least _ _ _ _ c.pass-test.true c.if-range-from.true c.pass.invariant
