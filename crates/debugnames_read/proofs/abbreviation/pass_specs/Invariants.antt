use Rattle.std.proofs.Common.{◌≡◌, ◌+◌, ◌-◌, length}
use Rattle.ix_base.specs.Moves.{MovesOn}
use Rattle.index_model.specs.NameAbbreviations.{specs_at}
use Rattle.debugnames_read.specs.Specs.{place_behind}
use Rattle.debugnames_read.proofs.abbreviation.pass_specs.Given as goal

-- the attributes that are left end where all do
abbrev pub invariant-attributes : goal.invariant-attributes
invariant-attributes l = record {
  value : place_behind (specs_at l.wrong.at (l.end - l.counter) l.cursor) ≡ place_behind (specs_at l.wrong.at (length l.fn.cursor.rest + 1) l.fn.cursor);
  place : MovesOn l.fn.cursor l.cursor;
}
