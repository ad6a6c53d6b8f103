use Rattle.std.proofs.Common.{◌≡◌, ◌-◌, length, map, drop}
use Rattle.index_model.specs.Abbreviations.{specs_at}
use Rattle.entry_scan.specs.SeenAbbreviations.{spec_seen}
use Rattle.entry_scan.specs.AbbreviationTables.{Extends}
use Rattle.entry_scan.proofs.AbbreviationFronts.{with_front}
use Rattle.entry_scan.proofs.abbreviation.read_specs.Given as goal

-- the attributes so far, and those that are still to come
abbrev pub invariant-attributes : goal.invariant-attributes
invariant-attributes l = record {
  kept : Extends l.fn.specs.items l.specs.items;
  so_far : with_front (map spec_seen (drop (length l.fn.specs.items) l.specs.items)) (specs_at (l.end - l.counter) l.cursor) ≡ specs_at (length l.fn.cursor.rest) l.fn.cursor;
}
