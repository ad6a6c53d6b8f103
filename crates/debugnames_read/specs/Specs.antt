-- The attributes of an abbreviation, one by one.
use Rattle.std.specs.Prelude.{IsOk, ◌+◌, Bool, ◌&&◌, ◌==◌, List, [], length, Option, Some, Result, Ok, Err}
use Rattle.ix_base.specs.declared.fault.Fault.{Fault}
use Rattle.ix_base.specs.Reading.{Input, uleb, ◌>>=◌}
use Rattle.index_model.specs.NameAbbreviations.{Spec as SpecOf, specs_at}
use Rattle.debugnames_read.specs.declared.abbreviation.IndexSpec.{IndexSpec}

-- an attribute and its form
abbrev pub spec_seen : IndexSpec → SpecOf
spec_seen s = record { attribute = s.attribute; form = s.form }

-- the attribute and the form at the front
unfoldable pub spec_at : Input → Option (SpecOf × Input)
spec_at i = uleb i >>= λ attribute. uleb attribute.1 >>= λ form. Some (record { attribute = attribute.0; form = form.0 }, form.1)

-- (0, 0) ends the attributes
abbrev pub is_last : SpecOf → Bool
is_last s = s.attribute == 0 && s.form == 0

-- the attributes up to (0, 0), whatever abbreviation they are of
abbrev pub specs_read : Input → Result (List SpecOf × Input) Fault
specs_read i = specs_at 0 (length i.rest + 1) i

-- the attributes are whole
abbrev pub HasSpecs : Input → Type 0
HasSpecs i = IsOk (specs_read i)

-- the first of two
abbrev pub first_in : Result (List SpecOf × Input) Fault → List SpecOf
first_in (Ok x) = x.0
first_in (Err e) = []

-- the attributes
abbrev pub specs_in : Input → List SpecOf
specs_in i = first_in (specs_read i)

-- where the reading ended
abbrev pub place_behind : Result (List SpecOf × Input) Fault → Result Input Fault
place_behind (Ok x) = Ok x.1
place_behind (Err e) = Err e
