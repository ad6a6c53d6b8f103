-- A rise of a count stays one when the count goes on or went before.
use Rattle.std.proofs.Common.{ℕ, ◌≤◌, arith}
use Rattle.outside.specs.Counts.{Rose}

-- a count that rose and never fell after has risen
pub rose-then : (a b c : ℕ) → Rose a b → b ≤ c → Rose a c
rose-then a b c rose goes = grind arith

-- a count that never fell and then rose has risen
pub then-rose : (a b c : ℕ) → a ≤ b → Rose b c → Rose a c
then-rose a b c goes rose = grind arith
