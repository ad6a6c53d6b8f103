use Rattle.std.proofs.Common.{◌≡◌, drop, map}
use Rattle.ix_base.specs.Moves.{MovesOn}
use Rattle.debugnames_read.specs.Counting.{kept_behind, none_kept}
use Rattle.debugnames_read.specs.Specs.{spec_seen}
use Rattle.debugnames_read.specs.Values.{kept_seen}
use Rattle.debugnames_read.proofs.attributes.IndexAttributes.read_listed.Given as goal

-- the first values are those behind what was kept
abbrev pub invariant-loop-listed : goal.invariant-loop-listed
invariant-loop-listed l = record {
  value : kept_behind l.wide (kept_seen l.found) (map spec_seen (drop l.listed-index l.specs)) l.cursor ≡ kept_behind l.wide none_kept (map spec_seen l.specs) l.fn.cursor;
  place : MovesOn l.fn.cursor l.cursor;
}
