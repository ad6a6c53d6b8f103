use Rattle.std.proofs.Common.{◌≡◌, ◌-◌, length, All}
use Rattle.ix_base.specs.Reading.{input}
use Rattle.index_model.specs.Abbreviations.{abbrevs_at}
use Rattle.entry_scan.specs.AbbreviationTables.{heads_seen, IsWithin, IsSplit}
use Rattle.entry_scan.proofs.AbbreviationFronts.{with_first}
use Rattle.entry_scan.proofs.abbreviation.read_parts.Given as goal

-- the abbreviations so far, and those that are still to come
abbrev pub invariant-abbreviations : goal.invariant-abbreviations
invariant-abbreviations l = record {
  within : All (IsWithin l.parts.specs.items) l.parts.heads.items;
  split : IsSplit l.parts.heads.items l.parts.others.items;
  so_far : with_first (heads_seen l.parts.specs.items l.parts.heads.items) (abbrevs_at (l.end - l.counter) l.cursor) ≡ abbrevs_at (length l.bytes) (input l.bytes l.at);
}
