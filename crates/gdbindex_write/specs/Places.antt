-- Where names and vectors stand in the constant pool (GDB manual, index section format).
use Rattle.std.specs.Prelude.{ℕ, ◌+◌, ◌==◌, ◌++◌, if◌then◌else◌, List, [], length, map, take, slice_index, slice_index_or, position, bytes_eq, Option, Some, None, option_map, unwrap_or}
use Rattle.index_model.specs.Layout.{below, u32_bytes}
use Rattle.index_model.specs.declared.answer.Main.{Main}
use denote.Ref.{Bor}
use Rattle.gdbindex_write.specs.declared.places.Slot.{Slot}
use Rattle.gdbindex_write.specs.declared.symbols.Symbol.{Symbol}
use Rattle.gdbindex_write.specs.Pools.{vectors_seen}
use Rattle.gdbindex_write.specs.Symbols.{names_of}
use Rattle.gdbindex_write.specs.Sizes.{names_size, vectors_size}

-- the place of the name of a symbol behind the vectors, and that of its vector, which has this number
abbrev pub place_at : List Symbol → List (Bor (List ℕ)) → List ℕ → ℕ → Slot
place_at symbols vectors numbers k = record {
  name = vectors_size (vectors_seen vectors) + names_size (names_of (take k symbols));
  vector = vectors_size (vectors_seen (take (slice_index numbers k) vectors));
}

-- the places of all symbols
abbrev pub places_of : List Symbol → List (Bor (List ℕ)) → List ℕ → List Slot
places_of symbols vectors numbers = map (place_at symbols vectors numbers) (below (length symbols))

-- the place of an empty slot
abbrev pub nowhere : Slot
nowhere = record { name = 0; vector = 0 }

-- a place as it is written
abbrev pub place_bytes : Slot → List ℕ
place_bytes place = u32_bytes place.name ++ u32_bytes place.vector

-- the slot of a number as it is written
abbrev pub numbered_bytes : List Slot → Option ℕ → List ℕ
numbered_bytes places (Some number) = place_bytes (slice_index_or places number nowhere)
numbered_bytes places None = place_bytes nowhere

-- the place of a name among those of these symbols
abbrev pub place_of_name : List Symbol → List Slot → List ℕ → ℕ
place_of_name symbols places name = unwrap_or (option_map (λ k. (slice_index_or places k nowhere).name) (position (λ s. bytes_eq s.name.now name) symbols)) 0

-- the shortcut as it is written
abbrev pub shortcut_bytes : List Symbol → List Slot → Option Main → List ℕ
shortcut_bytes symbols places (Some main) = u32_bytes main.language ++ u32_bytes (place_of_name symbols places main.name)
shortcut_bytes symbols places None = u32_bytes 0 ++ u32_bytes 0

-- the shortcut of an index of this version; only version 9 has one
abbrev pub shortcut_of : ℕ → List Symbol → List Slot → Option Main → List ℕ
shortcut_of version symbols places main = if version == 9 then shortcut_bytes symbols places main else []
