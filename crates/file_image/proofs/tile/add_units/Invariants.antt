use Rattle.std.proofs.Common.{◌≡◌, ◌+◌, ◌≤◌, ℕ, length}
use Rattle.ix_base.specs.Reading.{input}
use Rattle.index_model.specs.Tiling.{tiles}
use Rattle.index_model.specs.Units.{next_unit}
use Rattle.file_image.specs.Front.{with_front}
use Rattle.file_image.specs.Inside.{base_of, size_of, AreInside}
use Rattle.file_image.proofs.tile.add_units.Given as goal

-- the units so far, and those that are still to come, are the units that there were and those of all bytes
abbrev pub invariant-loop-cursor : goal.invariant-loop-cursor
invariant-loop-cursor l = record {
  so_far : with_front l.units.items (tiles (next_unit l.part l.base) (length l.units.items) l.cursor) ≡ with_front l.initial.units.items (tiles (next_unit l.part l.base) (length l.initial.units.items) (input l.bytes 0));
  end : l.cursor.at + length l.cursor.rest ≡ length l.bytes;
  few : length l.initial.units.items ≤ 16777215 → length l.units.items ≤ 16777215;
  inside : (info types : ℕ) → l.base ≡ base_of l.part info → length l.bytes ≡ size_of l.part info types → AreInside info types l.initial.units.items → AreInside info types l.units.items;
}

abbrev pub decreases-loop-cursor : goal.decreases-loop-cursor
decreases-loop-cursor l = length l.cursor.rest
