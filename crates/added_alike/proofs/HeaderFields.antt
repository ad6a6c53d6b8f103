-- The fields of the section headers that are written.
use Rattle.std.proofs.Common.{◌≡◌, ℕ, ◌+◌, ◌<◌, ◌≤◌, ◌^◌, Bool, true, false, cond, eqb, ◌||◌, List, length, refl, ap, ◌∙◌, arith}
use Rattle.index_model.specs.Sections.{field, header}
use Rattle.reach_model.specs.Added.{count_beside, first_header, index_beside, moved, put, with_bits}
use Rattle.added_alike.proofs.Puts.{field_before_put, field_behind_put, length-put, put_there}

-- the type is null or no bits
abbrev pub has_no_bits : ℕ → Bool
has_no_bits kind = eqb kind 0 || eqb kind 8

module _ (bytes : List ℕ) (size : length bytes ≡ 64) where
  -- ---- with bits

  abbrev bits_if : Bool → List ℕ
  bits_if b = cond b (put 4 4 1 bytes) bytes

  fits_kind : 4 + 4 ≤ length bytes
  fits_kind = omega (arith, size)

  length_if : (b : Bool) → length (bits_if b) ≡ 64
  length_if true = length-put 4 4 1 bytes fits_kind ∙ size
  length_if false = size

  name_if : (b : Bool) → field 4 0 (bits_if b) ≡ field 4 0 bytes
  name_if true = field_before_put 4 4 1 bytes fits_kind 4 0 (omega arith)
  name_if false = refl

  behind_if : (b : Bool) (n p : ℕ) → 8 ≤ p → field n p (bits_if b) ≡ field n p bytes
  behind_if true n p le = field_behind_put 4 4 1 bytes fits_kind n p (omega arith)
  behind_if false n p le = refl

  kind_if : (b : Bool) → has_no_bits (field 4 4 bytes) ≡ b → has_no_bits (field 4 4 (bits_if b)) ≡ false
  kind_if true is = ap has_no_bits (put_there 4 4 1 bytes fits_kind (omega arith))
  kind_if false is = is

  length_bits : length (with_bits bytes) ≡ 64
  unfolding with_bits
  length_bits = length_if (has_no_bits (field 4 4 bytes))

  name_bits : field 4 0 (with_bits bytes) ≡ field 4 0 bytes
  unfolding with_bits
  name_bits = name_if (has_no_bits (field 4 4 bytes))

  behind_bits : (n p : ℕ) → 8 ≤ p → field n p (with_bits bytes) ≡ field n p bytes
  unfolding with_bits
  behind_bits = behind_if (has_no_bits (field 4 4 bytes))

  kind_bits : has_no_bits (field 4 4 (with_bits bytes)) ≡ false
  unfolding with_bits
  kind_bits = kind_if (has_no_bits (field 4 4 bytes)) refl

  -- ---- moved

  module _ (place long : ℕ) where
    abbrev one : List ℕ
    one = with_bits bytes

    abbrev two : List ℕ
    two = put 8 24 place one

    abbrev three : List ℕ
    three = put 8 32 long two

    room_in_one : 24 + 8 ≤ length one
    room_in_one = omega (arith, length_bits)

    length_two : length two ≡ 64
    length_two = length-put 8 24 place one room_in_one ∙ length_bits

    room_in_two : 32 + 8 ≤ length two
    room_in_two = omega (arith, length_two)

    length_three : length three ≡ 64
    length_three = length-put 8 32 long two room_in_two ∙ length_two

    room_in_three : 48 + 8 ≤ length three
    room_in_three = omega (arith, length_three)

    pub length-moved : length (moved place long bytes) ≡ 64
    unfolding moved
    length-moved = length-put 8 48 1 three room_in_three ∙ length_three

    -- a field before the place
    before_moved : (n p : ℕ) → p + n ≤ 24 → field n p (moved place long bytes) ≡ field n p one
    unfolding moved
    before_moved n p le =
        field_before_put 8 48 1 three room_in_three n p (omega arith)
        ∙ field_before_put 8 32 long two room_in_two n p (omega arith)
        ∙ field_before_put 8 24 place one room_in_one n p le

    pub name_moved : (header (moved place long bytes)).name ≡ (header bytes).name
    unfolding header
    name_moved = before_moved 4 0 (omega arith) ∙ name_bits

    pub flags_moved : (header (moved place long bytes)).flags ≡ (header bytes).flags
    unfolding header
    flags_moved = before_moved 8 8 (omega arith) ∙ behind_bits 8 8 (omega arith)

    pub kind_moved : has_no_bits (header (moved place long bytes)).kind ≡ false
    unfolding header
    kind_moved = ap has_no_bits (before_moved 4 4 (omega arith)) ∙ kind_bits

    pub at_moved : place < 2 ^ 64 → (header (moved place long bytes)).at ≡ place
    unfolding header moved
    at_moved lt =
        field_before_put 8 48 1 three room_in_three 8 24 (omega arith)
        ∙ field_before_put 8 32 long two room_in_two 8 24 (omega arith)
        ∙ put_there 8 24 place one room_in_one lt

    pub size_moved : long < 2 ^ 64 → (header (moved place long bytes)).size ≡ long
    unfolding header moved
    size_moved lt = field_before_put 8 48 1 three room_in_three 8 32 (omega arith) ∙ put_there 8 32 long two room_in_two lt

  -- ---- section 0

  module _ (count index : ℕ) where
    abbrev counted : List ℕ
    counted = put 8 32 (count_beside count) bytes

    room_for_count : 32 + 8 ≤ length bytes
    room_for_count = omega (arith, size)

    length_counted : length counted ≡ 64
    length_counted = length-put 8 32 (count_beside count) bytes room_for_count ∙ size

    room_for_index : 40 + 4 ≤ length counted
    room_for_index = omega (arith, length_counted)

    pub length-first_header : length (first_header count index bytes) ≡ 64
    unfolding first_header
    length-first_header = length-put 4 40 (index_beside index) counted room_for_index ∙ length_counted

    pub size_first : count_beside count < 2 ^ 64 → (header (first_header count index bytes)).size ≡ count_beside count
    unfolding header first_header
    size_first lt = field_before_put 4 40 (index_beside index) counted room_for_index 8 32 (omega arith) ∙ put_there 8 32 (count_beside count) bytes room_for_count lt

    pub link_first : index_beside index < 2 ^ 32 → (header (first_header count index bytes)).link ≡ index_beside index
    unfolding header first_header
    link_first lt = put_there 4 40 (index_beside index) counted room_for_index lt
