use Rattle.std.proofs.Common.{ℕ, List, Vec, Global, length, subst}
use Rattle.gdb_units.specs.Imported.{targets_in}
use Rattle.gdb_units.specs.Spread.{OwnedBelow}
use Rattle.gdb_units.proofs.OwnerLaws.{owners_right}
use Rattle.gdb_units.proofs.owners.Owners.of.Goals as goal

pub returns : goal.returns
returns c =
    let us = c.args.units.now in
    let targets = c.in_ok-targets.targets.items in
    let owners = c.in_ok-owners.owners.items in
    owners_right us c.args.imports.now (targets_in targets) owners
    (λ rise u lt. c.in_ok-targets.ensures.targets rise u lt)
    (subst (λ (ts : List (Vec ℕ Global)). OwnedBelow (length us) us (targets_in ts) owners) c.as_slice.ensures.value c.in_ok-owners.ensures)
