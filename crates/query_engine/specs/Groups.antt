-- Groups of entries with one text.
use Rattle.std.specs.Prelude.{◌≡◌, ℕ, ◌<◌, List, ◌∷◌, length, slice_index, slice_index_or}
use Rattle.query_engine.specs.declared.groups.Group.{Group}
use Rattle.query_engine.specs.Front.{IsFrontOf}
use Rattle.query_engine.specs.Marks.{text_with}

-- the group at an index
abbrev pub group_at : List Group → ℕ → Group
group_at gs k = slice_index_or gs k (record { front = 0; start = 0; end = 0 })

-- the group has the front of the text with its index, and goes from the end of the one before it to its own
pub record IsGroupAt (ts : List (List ℕ)) (ends : List ℕ) (gs : List Group) (k : ℕ) : Type 0 where
  pub front : IsFrontOf (group_at gs k).front (text_with ts k)
  pub start : (group_at gs k).start ≡ slice_index (0 ∷ ends) k
  pub end : (group_at gs k).end ≡ slice_index ends k

-- the groups of these texts, which end here
pub record AreGroupsOf (ts : List (List ℕ)) (ends : List ℕ) (gs : List Group) : Type 0 where
  pub size : length gs ≡ length ts
  pub each : (k : ℕ) → k < length ts → IsGroupAt ts ends gs k
