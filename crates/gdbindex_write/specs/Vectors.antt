-- Vectors without repetitions.
use Rattle.std.specs.Prelude.{◌≡◌, ℕ, ◌++◌, if◌then◌else◌, List, [], ◌∷◌, map, bytes_eq}
use Rattle.std.specs.List.{list_any}
use Rattle.index_model.specs.Ordered.{distinct, place_of}
use Rattle.gdbindex_write.specs.declared.vectors.Vectors.{Vectors}

-- the vectors with one more, unless it stands among them
abbrev pub with_vector : List ℕ → List (List ℕ) → List (List ℕ)
with_vector v vs = if list_any (bytes_eq v) vs then vs else vs ++ v ∷ []

-- the distinct vectors in the order of their first use
abbrev pub distinct_seen : Vectors → List (List ℕ)
distinct_seen v = map (λ w. w.now) v.distinct.items

-- the vectors are these without repetitions, and each of these has its number
pub record AreVectorsOf (all : List (List ℕ)) (v : Vectors) : Type 0 where
  pub distinct_are : distinct_seen v ≡ distinct bytes_eq all
  pub numbers_are : v.numbers.items ≡ map (λ w. place_of bytes_eq w (distinct bytes_eq all)) all
