-- Differences of numbers.
use Rattle.std.proofs.Common.{◌≡◌, ℕ, suc, ◌+◌, ◌-◌, ◌<◌, arith}

-- what is left from k on is one more than what is left behind it
pub one_left : (n k : ℕ) → k < n → n - k ≡ suc (n - (k + 1))
one_left n k lt = omega arith
