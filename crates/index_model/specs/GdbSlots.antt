-- The slots of names in the symbol table of `.gdb_index` (GDB manual, index section format).
use Rattle.std.specs.Prelude.{◌≡◌, ◌<◌, ℕ, ◌*◌, ◌^◌, false, not, nat_le, nat_eq, ◌==◌, if◌then◌else◌, List, [], ◌∷◌, length, map, find, Option, Some, unwrap_or, ⊤}
use Rattle.std.specs.List.{list_any}
use Rattle.index_model.specs.Layout.{below}
use Rattle.index_model.specs.Hashes.{path}

-- how many slots n names have: none for no names, else the least power of two of which they fill three quarters at most
unfoldable pub slot_count : ℕ → ℕ
slot_count n = if n == 0 then 0 else unwrap_or (find (λ s. nat_le (4 * n) (3 * s)) (map (λ k. 2 ^ k) (below 64))) 0

-- the first slot on the path of a name that isn't taken
abbrev pub free_slot : ℕ → List ℕ → List ℕ → Option ℕ
free_slot slots taken name = find (λ s. not (list_any (nat_eq s) taken)) (path slots name)

-- the slots of names, where these slots are taken: each the first on its path that no name before it has
unfoldable pub slots_behind : ℕ → List ℕ → List (List ℕ) → List ℕ
slots_behind slots taken [] = []
slots_behind slots taken (name ∷ names) =
    let slot = unwrap_or (free_slot slots taken name) 0 in slot ∷ slots_behind slots (slot ∷ taken) names

-- the slots of all names of an index, in their order
unfoldable pub slots_of : List (List ℕ) → List ℕ
slots_of names = slots_behind (slot_count (length names)) [] names

-- ---- what slots are

-- the slot of each name is the first on its path that isn't taken and that no name before it has
abbrev pub ArePlaced : ℕ → List ℕ → List (List ℕ) → List ℕ → Type 0
ArePlaced slots taken [] [] = ⊤
ArePlaced slots taken [] (s ∷ ss) = ⊥
ArePlaced slots taken (n ∷ ns) [] = ⊥
ArePlaced slots taken (n ∷ ns) (s ∷ ss) = (free_slot slots taken n ≡ Some s) × ArePlaced slots (s ∷ taken) ns ss

-- these are slots of the table, none of them is taken, and no two are the same
abbrev pub AreOwn : ℕ → List ℕ → List ℕ → Type 0
AreOwn slots taken [] = ⊤
AreOwn slots taken (s ∷ ss) = (s < slots) × (list_any (nat_eq s) taken ≡ false) × AreOwn slots (s ∷ taken) ss
