-- The law of the order in a walk (DWARF 5, 2.3 and 7.5.2).
use Rattle.std.specs.Prelude.{◌≡◌, ℕ, ◌+◌, ◌<◌, ◌≤◌, List, map, Contains, Some, None, Ok}
use Rattle.std.specs.List.Sorted.{IsStrictlyIncreasing}
use Rattle.index_model.specs.declared.unit.Unit.{Unit as UnitHeader}
use Rattle.index_model.specs.Sections.{Section}
use Rattle.index_model.specs.Walk.{Item, parent_of}
use Rattle.index_model.specs.Program.{Walked, walked, items_of, root_of}

-- the entry lies in its unit, behind the unit's header
pub record IsInside (u : UnitHeader) (d : Item) : Type 0 where
  pub begins : u.start + u.body ≤ d.at
  pub some : d.at < d.after
  pub ends : d.after ≤ u.start + u.length

-- the parent of the entry is earlier, one level up, and the last such entry
pub record HasParent (ds : List Item) (d : Item) : Type 0 where
  pub parent : Item
  pub is : parent_of ds d ≡ Some parent
  pub member : Contains ds parent
  pub earlier : parent.at < d.at
  pub one_up : parent.depth + 1 ≡ d.depth
  pub last : (e : Item) → Contains ds e → e.at < d.at → e.depth + 1 ≡ d.depth → e.at ≤ parent.at

-- The entries of a walk: their offsets rise inside the unit. Only the root has depth 0, and no parent. Each other entry has one.
pub record IsInOrder (w : Walked) : Type 0 where
  pub rise : IsStrictlyIncreasing (map (λ d. d.at) (items_of w))
  pub inside : (d : Item) → Contains (items_of w) d → IsInside w.unit d
  pub root : (d : Item) → Contains (items_of w) d → d.depth ≡ 0 → (root_of w ≡ Some d) × (parent_of (items_of w) d ≡ None)
  pub parents : (d : Item) → Contains (items_of w) d → 0 < d.depth → HasParent (items_of w) d

-- every walk, also one that a fault ends
abbrev pub WalksAreInOrder : Type 0
WalksAreInOrder = (ss : List Section) (u : ℕ × UnitHeader) (w : Walked) → walked ss u ≡ Ok w → IsInOrder w
