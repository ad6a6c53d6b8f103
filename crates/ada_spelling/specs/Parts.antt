-- The parts of a name, each of which stands behind a point in its decoded form (gdb/ada-lang.c, ada_decode).
use Rattle.std.specs.Prelude.{◌≤◌, ℕ, zero, suc, ◌+◌, ◌-◌, Bool, not, ◌&&◌, ◌||◌, ◌==◌, nat_lt, if◌then◌else◌, List, [], ◌∷◌, ◌++◌, length, take, drop, codes, slice_index, Option, Some, None, option_map}
use Rattle.std.specs.List.{list_all, prefix_len}
use Rattle.ada_spelling.specs.declared.parts.NamePart.{NamePart}
use Rattle.ada_spelling.specs.declared.parts.NamePart.TheVariants.{Ends, Refused, Gives}
use Rattle.ada_spelling.specs.Bytes.{is_letter, is_alphanumeric, begins_with}
use Rattle.ada_spelling.specs.Marks.{goes_on, behind_marks}

-- whether X stands in front, behind a letter or a digit
abbrev pub is_nested : List ℕ → List ℕ → Bool
is_nested before rest = begins_with (codes "X") rest && nat_lt 0 (length before) && is_alphanumeric (slice_index before (length before - 1))

-- b or n: what something is nested in is a body, or it isn't
abbrev pub is_nesting : ℕ → Bool
is_nesting b = b == 98 || b == 110

-- X with b and n alone behind it ends a name, since it marks what is nested in packages; with anything else the name is refused.
abbrev pub nested_part : List ℕ → NamePart
nested_part rest = if list_all is_nesting (drop 1 rest) then Ends else Refused

-- `__` is a point, if something stands behind; any other byte stands for itself.
abbrev pub written_part : List ℕ → ℕ → NamePart
written_part rest at = if goes_on rest then Gives 46 (at + 2) else Gives (slice_index rest 0) (at + 1)

-- what a place of the name gives: its end is there, it is refused, or it gives a byte, and the name goes on at a place
unfoldable pub part_at : List ℕ → ℕ → NamePart
part_at name at =
    let rest = drop at name in
    if length rest == 0 then Ends else
    if is_nested (take at name) rest then nested_part rest else written_part rest at

-- a part goes on at a place that isn't behind the end of so many bytes
abbrev pub GoesOnWithin : ℕ → NamePart → Type 0
GoesOnWithin n (Gives b next) = next ≤ n
GoesOnWithin n _ = Unit {0}

-- a part, and what comes behind it
abbrev pub with_more : NamePart → (ℕ → Option (List ℕ)) → Option (List ℕ)
with_more Ends more = Some []
with_more Refused more = None
with_more (Gives b next) more = option_map (λ bs. b ∷ bs) (more next)

-- the parts of the name from a place on, of which there are n at most
unfoldable pub parts_from : ℕ → List ℕ → ℕ → Option (List ℕ)
parts_from zero name at = Some []
parts_from (suc n) name at = with_more (part_at name (behind_marks name at)) (λ next. parts_from n name next)

-- what stands before the first letter, as it is, and the parts from there on
unfoldable pub parts_of : List ℕ → Option (List ℕ)
parts_of name =
    let first = prefix_len (λ b. not (is_letter b)) name in
    option_map (λ more. take first name ++ more) (parts_from (length name + 1) name first)
