use Rattle.std.proofs.Common.{◌≡◌, ◌<◌, ◌≤◌, ℕ, length}
use Rattle.std.specs.Prelude.{slice_index}
use Rattle.string_ends.proofs.texts.last_end.Given as goal

-- no zero stands behind
abbrev pub invariant-loop-end : goal.invariant-loop-end
invariant-loop-end l = record {
  within : l.end ≤ length l.strings;
  none : (k : ℕ) → l.end ≤ k → k < length l.strings → ¬ (slice_index l.strings k ≡ 0);
}

abbrev pub decreases-loop-end : goal.decreases-loop-end
decreases-loop-end l = l.end
