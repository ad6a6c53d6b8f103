-- How many steps a search by halving takes.
use Rattle.std.specs.Prelude.{ℕ, ◌+◌, ◌*◌, ◌^◌, ◌≤◌}

-- the steps that were added are at most a number of halvings whose power of two is at most 2n + 2
pub record AddsHalvings (n old new : ℕ) : Type 0 where
  pub halvings : ℕ
  pub few : 2 ^ halvings ≤ 2 * n + 2
  pub added : new ≤ old + halvings
