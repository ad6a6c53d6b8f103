-- The offsets of the areas (GDB manual, index section format).
use Rattle.std.specs.Prelude.{ℕ, ◌+◌, ◌*◌, ◌==◌, ◌++◌, if◌then◌else◌, List, [], ◌∷◌, length, take, sum, flat_map}
use Rattle.index_model.specs.Layout.{below, u32_bytes}
use Rattle.gdbindex_write.specs.declared.sizes.Sizes.{Sizes}

-- where the area with this number begins, if areas of these sizes stand behind the header
abbrev pub offset_of : List ℕ → ℕ → ℕ
offset_of sizes k = 4 + 4 * length sizes + sum (take k sizes)

-- the offsets of areas of these sizes
abbrev pub offsets : List ℕ → List ℕ
offsets sizes = flat_map (λ k. u32_bytes (offset_of sizes k)) (below (length sizes))

-- the sizes of the areas in their order; version 9 has the shortcut
abbrev pub area_sizes : ℕ → Sizes → List ℕ
area_sizes version s =
    if version == 9 then s.units ∷ s.types ∷ s.addresses ∷ s.slots ∷ 8 ∷ (s.vectors + s.names) ∷ []
    else s.units ∷ s.types ∷ s.addresses ∷ s.slots ∷ (s.vectors + s.names) ∷ []

-- the header
abbrev pub header_bytes : ℕ → Sizes → List ℕ
header_bytes version s = u32_bytes version ++ offsets (area_sizes version s)
