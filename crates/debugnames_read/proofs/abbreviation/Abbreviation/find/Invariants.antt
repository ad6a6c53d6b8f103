use Rattle.std.proofs.Common.{◌≡◌, ◌-◌}
use Rattle.std.specs.Prelude.{IsOk, find, ◌==◌}
use Rattle.index_model.specs.NameAbbreviations.{abbreviations_at}
use Rattle.debugnames_read.specs.Abbreviations.{abbreviations_in}
use Rattle.debugnames_read.specs.Results.{list_in}
use Rattle.debugnames_read.proofs.abbreviation.Abbreviation.find.Given as goal

-- the abbreviation is among those that are left
abbrev pub invariant-abbreviations : goal.invariant-abbreviations
invariant-abbreviations l = record {
  ok : IsOk (abbreviations_at (l.end - l.counter) l.cursor);
  left : find (λ a. a.code == l.code) (list_in (abbreviations_at (l.end - l.counter) l.cursor)) ≡ find (λ a. a.code == l.code) (abbreviations_in l.area);
}
