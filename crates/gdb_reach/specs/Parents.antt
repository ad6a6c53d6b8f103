-- The last items with children, one for each depth, as they are kept.
use Rattle.std.specs.Prelude.{ℕ, zero, suc, Bool, if◌then◌else◌, List, get_or, Option, Some, None, option_map}
use Rattle.gdb_entries.specs.declared.item.ItemFacts.{ItemFacts}
use Rattle.gdb_reach.specs.declared.way.Way.{Way}
use Rattle.gdb_reach.specs.declared.parents.ParentItem.{ParentItem}
use Rattle.gdb_reach.specs.Ways.{way_below}

-- ---- one of them

-- the way to what stands in it
abbrev pub way_in : Option ParentItem → Option Way
way_in (Some parent) = parent.way
way_in None = None

-- the token of the innermost open item around what stands in it
abbrev pub innermost_in : Option ParentItem → Option ℕ
innermost_in (Some parent) = parent.innermost
innermost_in None = None

-- its token
abbrev pub token_in : Option ParentItem → Option ℕ
token_in parent = option_map (λ p. p.token) parent

-- an item of this depth, where it stands in that one
abbrev pub parent_in : Option ParentItem → ℕ → ItemFacts → Bool → ℕ → ParentItem
parent_in above depth item is_open token = record {
  token = token;
  way = way_below depth (way_in above) item is_open token;
  innermost = if is_open then Some token else innermost_in above;
}

-- ---- one for each depth

-- the one at a depth, if one is kept there
abbrev pub parent_at : List (Option ParentItem) → ℕ → Option ParentItem
parent_at parents depth = get_or parents depth None

-- the parent of an item of this depth: the one at the depth before
abbrev pub parent_to : List (Option ParentItem) → ℕ → Option ParentItem
parent_to parents zero = None
parent_to parents (suc above) = parent_at parents above
