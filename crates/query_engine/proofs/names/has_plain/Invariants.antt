use Rattle.std.proofs.Common.{◌≡◌, false, take}
use Rattle.std.specs.List.{list_any}
use Rattle.query_engine.specs.Counts.{is_plain}
use Rattle.query_engine.proofs.names.has_plain.Given as goal

abbrev pub invariant-loop-place : goal.invariant-loop-place
invariant-loop-place l = list_any (is_plain l.entries) (take l.place-index l.places) ≡ false
