-- Which name stands in which slot (GDB manual, index section format).
use Rattle.std.specs.Prelude.{◌≡◌, ◌<◌, ℕ, Bool, false, not, nat_eq, List, length, map, position, Option, None, is_some, slice_index, slice_index_or}
use Rattle.index_model.specs.Layout.{below}
use Rattle.index_model.specs.Hashes.{slot_on_path}
use Rattle.index_model.specs.GdbSlots.{slot_count, slots_of}

-- whether no number stands in the slot
abbrev pub is_free : List (Option ℕ) → ℕ → Bool
is_free slots slot = not (is_some (slice_index_or slots slot None))

-- the number that each slot has, where these numbers from 0 on have these slots
abbrev pub numbers_at : ℕ → List ℕ → List (Option ℕ)
numbers_at count slots = map (λ slot. position (nat_eq slot) slots) (below count)

-- the number of the name in each slot of the table
abbrev pub numbers_in_slots : List (List ℕ) → List (Option ℕ)
numbers_in_slots names = numbers_at (slot_count (length names)) (slots_of names)

-- no slot on the path that begins with a slot is free before this place of it
pub record IsFront (slots : List (Option ℕ)) (begin place : ℕ) : Type 0 where
  pub passed : ℕ
  pub here : place ≡ slot_on_path (length slots) begin passed
  pub taken : (j : ℕ) → j < passed → is_free slots (slot_on_path (length slots) begin j) ≡ false

-- a front of each path, by the slot that it begins with
pub record AreFronts (slots : List (Option ℕ)) (fronts : List ℕ) : Type 0 where
  pub size : length fronts ≡ length slots
  pub each : (begin : ℕ) → begin < length slots → IsFront slots begin (slice_index fronts begin)
