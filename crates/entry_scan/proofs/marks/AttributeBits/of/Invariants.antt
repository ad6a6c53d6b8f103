use Rattle.std.proofs.Common.{ℕ, ◌<◌, get_or}
use Rattle.entry_scan.specs.declared.abbreviation.Spec.{Spec}
use Rattle.entry_scan.specs.Marks.{HasMark}
use Rattle.entry_scan.proofs.marks.AttributeBits.of.Given as goal

-- the bits of the attributes that were passed are set
abbrev pub invariant-loop-spec : goal.invariant-loop-spec
invariant-loop-spec l = (k : ℕ) (d : Spec) → k < l.spec-index → HasMark l.marks (get_or l.specs k d).attribute
