-- What the members of a scope path give to C++ names (DWARF 5, 2.13.2).
use Rattle.std.specs.Prelude.{◌≡◌, ℕ, List, map, Option, option_map, Vec}
use Rattle.std.specs.Borrow.{Bor}
use Rattle.index_model.specs.Names.{Member, component}

-- the texts are what the members of the path give, member by member
abbrev pub AreComponents : {S : Type 0} → Vec (Option (Bor (List ℕ))) S → List Member → Type 0
AreComponents texts path = map (option_map (λ t. t.now)) texts.items ≡ map component path
