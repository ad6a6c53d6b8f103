-- The attributes of an abbreviation without those that neither count nor have bytes.
use Rattle.std.specs.Prelude.{◌≡◌, ℕ, ◌==◌, Bool, ◌&&◌, ◌||◌, List, [], ◌∷◌, map, Option, Some, None}
use Rattle.std.specs.Option.{is_none}
use Rattle.ix_base.specs.Reading.{Input, ◌>>=◌}
use Rattle.index_model.specs.NameAbbreviations.{Spec as SpecOf}
use Rattle.debugnames_read.specs.declared.abbreviation.IndexSpec.{IndexSpec}
use Rattle.debugnames_read.specs.Specs.{spec_seen}
use Rattle.debugnames_read.specs.Values.{Kept, first_values, value_by, with_value}

-- nothing was kept yet
abbrev pub none_kept : Kept
none_kept = record { compile_unit = None; type_unit = None; die_offset = None }

-- the first values of attributes at the front, behind those that were kept
unfoldable pub kept_behind : Bool → Kept → List SpecOf → Input → Option (Kept × Input)
kept_behind wide k [] i = Some (k, i)
kept_behind wide k (s ∷ ss) i = value_by wide s.form i >>= λ v. kept_behind wide (with_value k s.attribute v.0) ss v.1

-- an attribute counts, and has no value yet
abbrev pub is_wanted : Kept → ℕ → Bool
is_wanted k attribute = attribute == 1 && is_none k.compile_unit || (attribute == 2 && is_none k.type_unit || attribute == 3 && is_none k.die_offset)

-- these attributes have the first values of all
abbrev pub AreCounting : List SpecOf → List IndexSpec → Type 0
AreCounting all counting = (wide : Bool) (i : Input) → first_values wide (map spec_seen counting) i ≡ first_values wide all i
