use Rattle.std.proofs.Common.{◌≡◌, ◌-◌}
use Rattle.std.specs.Prelude.{IsOk}
use Rattle.index_model.specs.Meaning.{wrong_in}
use Rattle.index_model.specs.NameAbbreviations.{abbreviations, abbreviations_at}
use Rattle.debugnames_read.specs.Abbreviations.{abbreviations_in}
use Rattle.debugnames_read.specs.Known.{IsKnown}
use Rattle.debugnames_read.specs.Results.{list_in}
use Rattle.debugnames_read.proofs.known.AbbreviationsByCode.read.Given as goal

-- the first fault is that of the abbreviations that are left, and where there is none all others are known
abbrev pub invariant-abbreviations : goal.invariant-abbreviations
invariant-abbreviations l = record {
  left : wrong_in (abbreviations_at (l.end - l.counter) l.cursor) ≡ wrong_in (abbreviations l.area);
  known : IsOk (abbreviations l.area) → IsKnown (list_in (abbreviations_at (l.end - l.counter) l.cursor)) (abbreviations_in l.area) l.known;
}
