use Rattle.std.proofs.Common.{◌≡◌, ℕ, ◌+◌, List, Option, Vec, Global, length, sym, ap, subst, ◌∙◌, arith}
use Rattle.gdb_units.specs.Imported.{targets_in}
use Rattle.gdb_units.specs.Spread.{OwnedBelow, Spreads}
use Rattle.gdb_units.proofs.FoundLaws.{settled}
use Rattle.gdb_units.proofs.OwnedLaws.{partial_read, owned_first, owned_skip, owned_next}
use Rattle.gdb_units.proofs.owners.owners_of.Goals as goal
use Rattle.gdb_units.proofs.owners.owners_of.Goals.{then-not-unit+in_ok-spread, else-not-unit}

pub loop-number-init : goal.loop-number-init
loop-number-init c =
    let us = c.args.units.now in
    let targets = targets_in c.args.targets.now in
    subst (λ (xs : List (Option ℕ)). OwnedBelow 0 us targets xs) (sym c.in_ok-owners.ensures) (owned_first us targets)

pub loop-number-preserved : goal.loop-number-preserved
loop-number-preserved c =
    let us = c.args.units.now in
    let targets = targets_in c.args.targets.now in
    let n = c.loop-number.number in
    let lt = c.loop-number-test.true in
    let old = c.loop-number.owners.items in
    let inv = c.loop-number.invariant in
    elim c.if-not-unit.branch [
      | then-not-unit+in_ok-spread w ↦
          let new = w.spread.new.owners in
          let value = w.deref_mut.ensures.value in
          let long : length new ≡ length old = omega (arith, w.in_ok-spread.ensures.length, ap (λ (xs : List (Option ℕ)). length xs) value) in
          let same : c.if-not-unit.owners.items ≡ new = ap (λ (v : Vec (Option ℕ) Global). v.items) w.owners-is ∙ settled c.loop-number.owners.len new old long (omega arith) in
          let spreads : Spreads targets n old new = subst (λ (xs : List (Option ℕ)). Spreads targets n xs new) value w.in_ok-spread.ensures.spreads in
          subst (λ (xs : List (Option ℕ)). OwnedBelow (n + 1) us targets xs) (sym same) (owned_next us targets n old inv (partial_read us n _ lt ∙ w.if-not-unit.true) lt new long spreads)
      | else-not-unit w ↦
          subst (λ (v : Vec (Option ℕ) Global). OwnedBelow (n + 1) us targets v.items) (sym w.owners-is) (owned_skip us targets n old inv (partial_read us n _ lt ∙ w.if-not-unit.false))
    ]

pub returns : goal.returns
returns c =
    let end : c.loop-number.number ≡ length c.args.units.now = omega (arith, c.loop-number-test.false, c.loop-number.auto.number-end) in
    subst (λ (n : ℕ). OwnedBelow n c.args.units.now (targets_in c.args.targets.now) c.loop-number.owners.items) end c.loop-number.invariant
