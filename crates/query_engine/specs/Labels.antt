-- The names of entries, with what tells their simple names.
use Rattle.std.specs.Prelude.{◌≡◌, ℕ, Bool, false, if◌then◌else◌, List, ◌∷◌, length, map}
use Rattle.std.specs.List.{enumerate_from}
use Rattle.index_model.specs.declared.entry.Entry.{Entry}
use Rattle.query_engine.specs.Pairs.{Pair}

-- a name behind the length of its simple name, and behind whether it is a linkage name
abbrev pub labelled : Bool → ℕ → List ℕ → List ℕ
labelled linkage tail name = (if linkage then 1 else 0) ∷ tail ∷ name

-- the label of an entry
abbrev pub label_of : Entry → List ℕ
label_of e = labelled e.linkage e.tail e.name

-- the labels of entries with their places, which begin at a number
abbrev pub labels_from : ℕ → List Entry → List Pair
labels_from first es = map (λ e. (e.0, label_of e.1)) (enumerate_from first es)

-- the name is the simple name
pub record IsWholeLabel (linkage : Bool) (tail : ℕ) (name : List ℕ) : Type 0 where
  pub plain : linkage ≡ false
  pub whole : tail ≡ length name
