-- The values of attributes.
use Rattle.std.specs.Prelude.{ℕ, ◌==◌, Bool, if◌then◌else◌, List, find, Option, Some, None, option_map}
use Rattle.std.specs.Option.{option_or}
use Rattle.ix_base.specs.Reading.{Input, ◌>>=◌}
use Rattle.index_model.specs.NameAbbreviations.{Attribute, Spec as SpecOf, forms, value_of, values}
use Rattle.debugnames_read.specs.declared.form.IndexValue.{IndexValue}
use Rattle.debugnames_read.specs.declared.form.IndexValue.TheVariants as of
use Rattle.debugnames_read.specs.declared.attributes.IndexAttributes.{IndexAttributes}

-- a number, or none
abbrev pub value_seen : IndexValue → Option ℕ
value_seen (of.Number n) = Some n
value_seen of.NotANumber = None

-- the value of a form at the front
abbrev pub value_by : Bool → ℕ → Input → Option (Option ℕ × Input)
value_by wide form i = find (λ row. row.0 == form) (forms wide) >>= λ row. row.1 i

-- the values of compile_unit, type_unit and die_offset, none where there is no such attribute
pub record Kept : Type 0 where
  pub compile_unit : Option (Option ℕ)
  pub type_unit : Option (Option ℕ)
  pub die_offset : Option (Option ℕ)

-- what was found
abbrev pub kept_seen : IndexAttributes → Kept
kept_seen a = record { compile_unit = option_map value_seen a.compile_unit; type_unit = option_map value_seen a.type_unit; die_offset = option_map value_seen a.die_offset }

-- the first values of the attributes that count
abbrev pub kept_of : List Attribute → Kept
kept_of vs = record { compile_unit = value_of 1 vs; type_unit = value_of 2 vs; die_offset = value_of 3 vs }

-- a first value, unless there is one
abbrev pub kept_or : ℕ → ℕ → Option ℕ → Option (Option ℕ) → Option (Option ℕ)
kept_or n attribute v old = option_or old (if attribute == n then Some v else None)

-- one more value
abbrev pub with_value : Kept → ℕ → Option ℕ → Kept
with_value k attribute v = record { compile_unit = kept_or 1 attribute v k.compile_unit; type_unit = kept_or 2 attribute v k.type_unit; die_offset = kept_or 3 attribute v k.die_offset }

-- the first values of the attributes at the front
abbrev pub first_values : Bool → List SpecOf → Input → Option (Kept × Input)
first_values wide specs i = values wide specs i >>= λ vs. Some (kept_of vs.0, vs.1)
