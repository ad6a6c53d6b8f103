-- A name behind its scope (DWARF 5, 2.13.2).
use Rattle.std.specs.Prelude.{ℕ, List, [], ◌∷◌, ◌++◌, reverse, filter_map, option_map, codes, Option}
use Rattle.std.specs.Borrow.{Bor}
use Rattle.std.specs.List.{join_by}

-- the components that the members of a scope path give, in the order of the path
abbrev pub parts : List (Option (Bor (List ℕ))) → List (List ℕ)
parts path = filter_map (option_map (λ part. part.now)) path

-- the components, given from the inside outwards, and the name, joined by `::`
abbrev pub joined : List (List ℕ) → List ℕ → List ℕ
joined components name = join_by (λ part. part) (codes "::") (reverse components ++ name ∷ [])
