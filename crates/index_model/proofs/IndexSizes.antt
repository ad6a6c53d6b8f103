-- The sizes of what a `.gdb_index` is made of.
use Rattle.std.proofs.Common.{◌≡◌, ℕ, List, length, Option, Some, None, refl}
use Rattle.byteorder.specs.Numbers.{length-bytes_low_first}
use Rattle.index_model.specs.declared.answer.Main.{Main}
use Rattle.index_model.specs.declared.entry.Entry.{Entry}
use Rattle.index_model.specs.declared.unit.Unit.{Unit as UnitHeader}
use Rattle.index_model.specs.Layout.{u32_bytes, u64_bytes}
use Rattle.index_model.specs.GdbIndex.{Pool, slot_bytes, shortcut}

pub size_4 : (n : ℕ) → length (u32_bytes n) ≡ 4
size_4 n = length-bytes_low_first 0 4 n

pub size_8 : (n : ℕ) → length (u64_bytes n) ≡ 8
size_8 n = length-bytes_low_first 0 8 n

pub slot_size : (units : List UnitHeader) (entries : List Entry) (pool : Pool) (o : Option (List ℕ)) → length (slot_bytes units entries pool o) ≡ 8
slot_size units entries pool (Some name) = refl
slot_size units entries pool None = refl

pub shortcut_size : (pool : Pool) (m : Option Main) → length (shortcut pool m) ≡ 8
shortcut_size pool (Some m) = refl
shortcut_size pool None = refl
