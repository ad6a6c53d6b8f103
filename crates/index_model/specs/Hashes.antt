-- The hashes of names, and the path of a name in a table of slots (GDB manual, index section format; DWARF 5, 6.1.1.4.5).
use Rattle.std.specs.Prelude.{ℕ, ◌+◌, ◌*◌, ◌-◌, ◌^◌, ◌%◌, ◌&&◌, nat_le, if◌then◌else◌, List, map, fold}
use Rattle.index_model.specs.Layout.{below}

-- A to Z as a to z
abbrev pub lower : ℕ → ℕ
lower c = if nat_le 65 c && nat_le c 90 then c + 32 else c

-- the hash of `.gdb_index`: byte by byte from 0 on r * 67 + c - 113, modulo 2 ^ 32
unfoldable pub gdb_hash : List ℕ → ℕ
gdb_hash name = fold (λ r c. (r * 67 + lower c + 2 ^ 32 - 113) % 2 ^ 32) 0 name

-- the hash of `.debug_names`: byte by byte from 5381 on h * 33 + c, modulo 2 ^ 32
unfoldable pub name_hash : List ℕ → ℕ
name_hash name = fold (λ h c. (h * 33 + lower c) % 2 ^ 32) 5381 name

-- the number with its lowest bit set
abbrev pub odd : ℕ → ℕ
odd n = n - n % 2 + 1

-- the slot after i steps on the path of a hash: it begins at the hash, and its step is odd
abbrev pub slot_on_path : ℕ → ℕ → ℕ → ℕ
slot_on_path slots hash i = (hash + i * odd (hash * 17 % slots)) % slots

-- the path of a name, as many places as there are slots
unfoldable pub path : ℕ → List ℕ → List ℕ
path slots name = map (slot_on_path slots (gdb_hash name)) (below slots)
