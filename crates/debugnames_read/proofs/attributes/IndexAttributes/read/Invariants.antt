use Rattle.std.proofs.Common.{◌≡◌, List, ◌-◌}
use Rattle.std.specs.Prelude.{IsOk}
use Rattle.ix_base.specs.Moves.{MovesOn}
use Rattle.index_model.specs.NameAbbreviations.{Attribute, specs_at, values}
use Rattle.debugnames_read.specs.Specs.{first_in, specs_in}
use Rattle.debugnames_read.specs.Values.{kept_of, kept_seen}
use Rattle.debugnames_read.proofs.ValueLaws.{behind}
use Rattle.debugnames_read.proofs.attributes.IndexAttributes.read.Given as goal

-- what was kept is of the values that were read, and the others are still to come
abbrev pub invariant-attributes : goal.invariant-attributes
invariant-attributes l = record {
  ok : IsOk (specs_at 0 (l.end - l.counter) l.specs);
  so_far : (vs : List Attribute) × (values l.wide (specs_in l.fn.specs) l.fn.cursor ≡ behind vs (values l.wide (first_in (specs_at 0 (l.end - l.counter) l.specs)) l.cursor)) × (kept_seen l.found ≡ kept_of vs);
  place : MovesOn l.fn.cursor l.cursor;
}
