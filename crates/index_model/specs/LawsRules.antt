-- The law of visited entries (this project's own rule).
use Rattle.std.specs.Prelude.{◌≡◌, ◌<◌, Bool, false, List}
use Rattle.index_model.specs.Walk.{Item, parent_of}
use Rattle.index_model.specs.Rules.{is_visited, is_visited_under, parent_as}

-- a root isn't visited; another entry is, if its parent is the root, or is visited and opens its children
pub record IsByParent (ada : Bool) (ds : List Item) (d : Item) : Type 0 where
  pub root : d.depth ≡ 0 → is_visited ada ds d ≡ false
  pub other : 0 < d.depth → is_visited ada ds d ≡ is_visited_under (parent_as (parent_of ds d) (is_visited ada ds)) ada

-- every entry of every list
abbrev pub VisitedIsByParent : Type 0
VisitedIsByParent = (ada : Bool) (ds : List Item) (d : Item) → IsByParent ada ds d
