use Rattle.std.proofs.Common.{◌≡◌, ◌==◌, ℕ, drop}
use Rattle.std.specs.List.{find}
use Rattle.index_model.specs.Forms.{Value}
use Rattle.entry_scan.specs.Values.{values_at, value_read, IsRead}
use Rattle.entry_scan.proofs.written.sought.Given as goal

-- the first of those that are left is the first of all
abbrev pub invariant-loop-spec : goal.invariant-loop-spec
invariant-loop-spec l = record {
  left : IsRead (values_at l.format (drop l.spec-index l.specs) l.cursor);
  same : find (λ (v : ℕ × Value). v.0 == l.number) (value_read (values_at l.format (drop l.spec-index l.specs) l.cursor)) ≡ find (λ (v : ℕ × Value). v.0 == l.number) (value_read (values_at l.format l.specs l.fn.cursor));
}
