-- The abbreviations, one by one.
use Rattle.std.specs.Prelude.{◌+◌, ◌==◌, if◌then◌else◌, List, length, Option, Some, None, Result, Ok}
use Rattle.ix_base.specs.declared.fault.Fault.{Fault}
use Rattle.ix_base.specs.Reading.{Input, uleb}
use Rattle.index_model.specs.declared.index_code.TheConstants.{NAMES_ABBREVIATION}
use Rattle.index_model.specs.Meaning.{◌>>=◌, fault, some_or}
use Rattle.index_model.specs.NameAbbreviations.{Abbreviation as AbbreviationOf, abbreviations, specs_at}
use Rattle.debugnames_read.specs.declared.abbreviation.Abbreviation.{Abbreviation}
use Rattle.debugnames_read.specs.Results.{list_in}
use Rattle.debugnames_read.specs.Specs.{specs_in}

-- an abbreviation
abbrev pub abbreviation_seen : Abbreviation → AbbreviationOf
abbreviation_seen a = record { code = a.code; tag = a.tag; specs = specs_in a.specs }

-- the abbreviation at the front, none at the code 0
unfoldable pub abbreviation_at : Input → Result (Option (AbbreviationOf × Input)) Fault
abbreviation_at i = do
  code ← some_or (uleb i) (fault NAMES_ABBREVIATION i.at)
  let more = some_or (uleb code.1) (fault NAMES_ABBREVIATION i.at) >>= λ tag. specs_at i.at (length tag.1.rest + 1) tag.1 >>= λ specs.
      Ok (Some (record { code = code.0; tag = tag.0; specs = specs.0 }, specs.1))
  if code.0 == 0 then Ok None else more

-- all abbreviations of an area
abbrev pub abbreviations_in : Input → List AbbreviationOf
abbreviations_in area = list_in (abbreviations area)
