-- The rows of the abbreviations.
use Rattle.std.specs.Prelude.{◌≡◌, ℕ, ◌-◌, ◌<◌, false, List, map, slice_index_or}
use Rattle.index_model.specs.NameIndex.{Row as IndexRow}
use Rattle.debugnames_write.specs.declared.item.IndexEntry.{IndexEntry}
use Rattle.debugnames_write.specs.declared.item.Row.{Row}

-- a row as the definitions have it
abbrev pub row_seen : Row → IndexRow
row_seen r = (r.tag, r.types)

-- the row of the entry at an index
abbrev pub row_at : List IndexEntry → ℕ → IndexRow
row_at items k = slice_index_or (map (λ i. row_seen i.row) items) k (0, false)

-- the entry at an index has the row of the one before it
pub record KeepsRowAt (items : List IndexEntry) (k : ℕ) : Type 0 where
  pub some : 0 < k
  pub same : row_at items k ≡ row_at items (k - 1)
