-- Bytes whose ELF header says anew where the section headers are, how many, and which has the names.
use Rattle.std.proofs.Common.{◌≡◌, ℕ, ◌+◌, ◌<◌, ◌≤◌, ◌^◌, List, length, drop, ◌∙◌, arith}
use Rattle.index_model.specs.Sections.{bytes_from, field}
use Rattle.reach_model.specs.Added.{put}
use Rattle.added_alike.proofs.Puts.{before_put, drop-put, field_before_put, field_behind_put, length-put, put_there}

-- the three fields
abbrev pub patched : ℕ → ℕ → ℕ → List ℕ → List ℕ
patched table count index bytes = put 2 62 index (put 2 60 count (put 8 40 table bytes))

module _ (table count index : ℕ) (bytes : List ℕ) (long : 64 ≤ length bytes) where
  abbrev one : List ℕ
  one = put 8 40 table bytes

  abbrev two : List ℕ
  two = put 2 60 count one

  room_in_bytes : 40 + 8 ≤ length bytes
  room_in_bytes = omega arith

  length_one : length one ≡ length bytes
  length_one = length-put 8 40 table bytes room_in_bytes

  room_in_one : 60 + 2 ≤ length one
  room_in_one = omega (arith, length_one)

  length_two : length two ≡ length bytes
  length_two = length-put 2 60 count one room_in_one ∙ length_one

  room_in_two : 62 + 2 ≤ length two
  room_in_two = omega (arith, length_two)

  pub length-patched : length (patched table count index bytes) ≡ length bytes
  length-patched = length-put 2 62 index two room_in_two ∙ length_two

  -- bytes behind the ELF header stay
  pub drop-patched : (p : ℕ) → 64 ≤ p → drop p (patched table count index bytes) ≡ drop p bytes
  drop-patched p le = drop-put 2 62 index two room_in_two p le ∙ drop-put 2 60 count one room_in_one p (omega arith) ∙ drop-put 8 40 table bytes room_in_bytes p (omega arith)

  -- so do those before the fields
  pub before_patched : (p n : ℕ) → p + n ≤ 40 → bytes_from p n (patched table count index bytes) ≡ bytes_from p n bytes
  before_patched p n le = before_put 2 62 index two room_in_two p n (omega arith) ∙ before_put 2 60 count one room_in_one p n (omega arith) ∙ before_put 8 40 table bytes room_in_bytes p n le

  -- and the size of a section header
  pub size_patched : field 2 58 (patched table count index bytes) ≡ field 2 58 bytes
  size_patched = field_before_put 2 62 index two room_in_two 2 58 (omega arith) ∙ field_before_put 2 60 count one room_in_one 2 58 (omega arith) ∙ field_behind_put 8 40 table bytes room_in_bytes 2 58 (omega arith)

  pub table_patched : table < 2 ^ 64 → field 8 40 (patched table count index bytes) ≡ table
  table_patched lt = field_before_put 2 62 index two room_in_two 8 40 (omega arith) ∙ field_before_put 2 60 count one room_in_one 8 40 (omega arith) ∙ put_there 8 40 table bytes room_in_bytes lt

  pub count_patched : count < 2 ^ 16 → field 2 60 (patched table count index bytes) ≡ count
  count_patched lt = field_before_put 2 62 index two room_in_two 2 60 (omega arith) ∙ put_there 2 60 count one room_in_one lt

  pub index_patched : index < 2 ^ 16 → field 2 62 (patched table count index bytes) ≡ index
  index_patched lt = put_there 2 62 index two room_in_two lt
