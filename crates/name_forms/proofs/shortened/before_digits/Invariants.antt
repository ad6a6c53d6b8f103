use Rattle.std.proofs.Common.{◌≡◌, ◌≤◌, length, ◌+◌, take}
use Rattle.std.specs.List.{suffix_len}
use Rattle.index_model.specs.AdaNames.{is_digit}
use Rattle.name_forms.proofs.shortened.before_digits.Given as goal

abbrev pub invariant-loop-end : goal.invariant-loop-end
invariant-loop-end l = record { within : l.end ≤ length l.name; digits : suffix_len is_digit l.name + l.end ≡ length l.name + suffix_len is_digit (take l.end l.name) }

-- proposed from the loop's first test
abbrev pub decreases-loop-end : goal.decreases-loop-end
decreases-loop-end l = l.end
