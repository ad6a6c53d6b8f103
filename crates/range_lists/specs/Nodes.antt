-- The ranges of entries, by the nodes that a shard keeps of them.
use Rattle.std.specs.Prelude.{ℕ, Bool, ◌&&◌, ◌||◌, ◌==◌, if◌then◌else◌, List, [], ◌∷◌, filter, flat_map, option_map, is_some, Result, Ok}
use Rattle.std.specs.List.Sorted.{IsNonDecreasingBy}
use Rattle.std.specs.List.{list_any}
use Rattle.ix_base.specs.declared.fault.Fault.{Fault}
use Rattle.index_model.specs.declared.range.Range.{Range}
use Rattle.index_model.specs.declared.shard.Node.{Node}
use Rattle.index_model.specs.declared.shard.LinkedEntry.{LinkedEntry}
use Rattle.index_model.specs.Meaning.{◌>>=◌, at_place, each}
use Rattle.index_model.specs.Sections.{Section}
use Rattle.index_model.specs.Program.{Walked}
use Rattle.index_model.specs.Tags.{subprogram}
use Rattle.index_model.specs.Ranges.{ranges_by}
use Rattle.range_lists.specs.Homes.{as_value, as_high}
use Rattle.range_lists.specs.Lists.{kept}

-- the ranges of the entry of a node, or a fault at the entry
unfoldable pub node_ranges : List Section → Walked → Node → Result (List Range) Fault
node_ranges ss w n = at_place n.offset (kept (ranges_by ss w (option_map as_value n.ranges) (option_map as_value n.low) (option_map as_high n.high)))

-- the ranges of the entries of these nodes, or the first fault
abbrev pub all_node_ranges : List Section → Walked → List Node → Result (List Range) Fault
all_node_ranges ss w nodes = each (node_ranges ss w) nodes >>= λ rs. Ok (flat_map (λ r. r) rs)

-- the entry has ranges, or low_pc and high_pc
abbrev pub has_node_ranges : Node → Bool
has_node_ranges n = is_some n.ranges || (is_some n.low && is_some n.high)

-- the entry at the offset is linked
abbrev pub is_linked : List LinkedEntry → ℕ → Bool
is_linked entries offset = list_any (λ e. e.offset == offset) entries

-- the entry is a linked subprogram
abbrev pub is_linked_subprogram : List LinkedEntry → Node → Bool
is_linked_subprogram entries n = n.tag == subprogram && is_linked entries n.offset

-- the nodes of a unit, the first of which is its root, whose ranges are those of the unit
abbrev pub nodes_with_ranges : List LinkedEntry → List Node → List Node
nodes_with_ranges entries [] = []
nodes_with_ranges entries (root ∷ others) = if has_node_ranges root then root ∷ [] else filter (is_linked_subprogram entries) (root ∷ others)

-- the offsets of linked entries rise
abbrev pub EntriesRise : List LinkedEntry → Type 0
EntriesRise entries = IsNonDecreasingBy (λ e. e.offset) entries
