use Rattle.std.proofs.Common.{◌≡◌, drop}
use Rattle.ix_base.specs.Moves.{MovesOn}
use Rattle.entry_scan.specs.Values.{values_at, place_read}
use Rattle.entry_scan.proofs.values.pass.Given as goal

-- what is left to read ends where all ends
abbrev pub invariant-loop-spec : goal.invariant-loop-spec
invariant-loop-spec l = record {
  same : place_read (values_at l.format (drop l.spec-index l.specs) l.cursor) ≡ place_read (values_at l.format l.specs l.initial.cursor);
  place : MovesOn l.initial.cursor l.cursor;
}
