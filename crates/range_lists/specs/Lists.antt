-- Lists of ranges, entry by entry.
use Rattle.std.specs.Prelude.{ℕ, ◌+◌, List, [], ◌∷◌, ◌++◌, filter, min, Option, Some, None, Result, Ok, codes}
use Rattle.index_model.specs.declared.range.Range.{Range}
use Rattle.index_model.specs.declared.range.UnitRange.{UnitRange}
use Rattle.index_model.specs.Meaning.{◌>>=◌}
use Rattle.index_model.specs.Sections.{Section, section_bytes}
use Rattle.index_model.specs.Program.{Walked}
use Rattle.index_model.specs.RangeLists as meant
use Rattle.index_model.specs.Ranges.{is_kept}
use Rattle.range_lists.specs.Same.{of_unit}
use Rattle.range_lists.specs.declared.list_entry.ListFormat.{ListFormat}
use Rattle.range_lists.specs.declared.list_entry.ListFormat.TheVariants.{Pairs, Kinds}
use Rattle.range_lists.specs.declared.list_entry.RangeListEntry.{RangeListEntry}
use Rattle.range_lists.specs.declared.list_entry.RangeListEntry.TheVariants.{End, Base, Bounds, Offsets, Length}

-- an entry as the definitions see it
abbrev pub entry_seen : RangeListEntry → meant.ListEntry
entry_seen End = meant.End
entry_seen (Base b) = meant.Base b
entry_seen (Bounds low end) = meant.Bounds low end
entry_seen (Offsets low end) = meant.Offsets low end
entry_seen (Length low bytes) = meant.Bounds low (low + bytes)

-- the reader of an entry of a list
abbrev pub reader_for : ListFormat → List Section → Walked → meant.EntryReader
reader_for Pairs ss w = meant.pair_at
reader_for Kinds ss w = meant.kind_at ss w

-- the section in which lists of a format stand
abbrev pub lists_in : ListFormat → List Section → List ℕ
lists_in Pairs ss = section_bytes ss (codes ".debug_ranges")
lists_in Kinds ss = section_bytes ss (codes ".debug_rnglists")

-- those of the ranges that count
abbrev pub kept : Result (List Range) ℕ → Result (List Range) ℕ
kept ranges = ranges >>= λ rs. Ok (filter is_kept rs)

-- the range that is there
abbrev pub as_list : Option Range → List Range
as_list None = []
as_list (Some r) = r ∷ []

-- these ranges, and behind them those of the meaning as ranges of the unit
abbrev pub behind : {E : Type 0} → ℕ → List UnitRange → Result (List Range) E → Result (List UnitRange) E
behind unit front ranges = ranges >>= λ rs. Ok (front ++ of_unit unit rs)

-- the range of an entry, if it has one that counts
abbrev pub range_in : meant.ListEntry → ℕ → List Range
range_in meant.End base = []
range_in (meant.Base b) base = []
range_in (meant.Bounds low end) base = filter is_kept (record { low = low; end = end } ∷ [])
range_in (meant.Offsets low end) base = filter is_kept (record { low = base + low; end = base + end } ∷ [])

-- the base behind an entry; none behind the last
abbrev pub base_behind : meant.ListEntry → ℕ → Option ℕ
base_behind meant.End base = None
base_behind (meant.Base b) base = Some b
base_behind (meant.Bounds low end) base = Some base
base_behind (meant.Offsets low end) base = Some base

-- a place in a section; one that is too high counts as the greatest
abbrev pub capped : Result ℕ ℕ → Result ℕ ℕ
capped place = place >>= λ n. Ok (min n meant.top)
