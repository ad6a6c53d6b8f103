-- Lists of ranges (DWARF 5, 2.17.3 and 7.25; DWARF 4, 2.17.3 for versions 2 to 4).
use Rattle.std.specs.Prelude.{ℕ, zero, suc, ◌+◌, ◌*◌, ◌-◌, ◌^◌, ◌&&◌, ◌==◌, if◌then◌else◌, List, [], ◌∷◌, length, codes, Result, Ok, Err}
use Rattle.ix_base.specs.declared.code.TheConstants.{NO_BASE, BAD_RANGE}
use Rattle.ix_base.specs.Reading.{Input, number, uleb, offset, input}
use Rattle.index_model.specs.declared.range.Range.{Range}
use Rattle.index_model.specs.Meaning.{◌>>=◌, some_or}
use Rattle.index_model.specs.Sections.{Section, section_bytes}
use Rattle.index_model.specs.Forms.{Value, Addr, AddrIndex, Offset, RangeIndex}
use Rattle.index_model.specs.Program.{Walked}
use Rattle.index_model.specs.Strings.{base_of, offset_size}

-- an entry of a list: its end, a new base, a range as it stands, or one that counts from the base
pub data ListEntry : Type 0 where
  End : ListEntry
  Base : ℕ → ListEntry
  Bounds Offsets : ℕ → ℕ → ListEntry

-- the greatest address
abbrev pub top : ℕ
top = 2 ^ 64 - 1

-- a reader of one operand of an entry
abbrev pub Operand : Type 0
Operand = Input → Result (ℕ × Input) ℕ

-- a reader of one entry of a list
abbrev pub EntryReader : Type 0
EntryReader = Input → Result (ListEntry × Input) ℕ

-- ---- addresses

-- the address at an index of `.debug_addr`, counted from the base of the unit's root
unfoldable pub indexed_address : List Section → Walked → ℕ → Result ℕ ℕ
indexed_address ss w n = do
  base ← some_or (base_of 0x73 w) NO_BASE
  a ← some_or (number 8 (input (section_bytes ss (codes ".debug_addr")) (base + 8 * n))) BAD_RANGE
  Ok a.0

-- the address that a value stands for
unfoldable pub address_of : List Section → Walked → Value → Result ℕ ℕ
address_of ss w (Addr a) = Ok a
address_of ss w (AddrIndex n) = indexed_address ss w n
address_of ss w other = Err BAD_RANGE

-- ---- entries of lists

-- a pair of versions 2 to 4: (0, 0) ends the list, and a first member of all ones sets the base
unfoldable pub pair_at : EntryReader
pair_at i = do
  low ← some_or (number 8 i) BAD_RANGE
  high ← some_or (number 8 low.1) BAD_RANGE
  let base = if low.0 == top then Base high.0 else Offsets low.0 high.0
  Ok (if low.0 == 0 && high.0 == 0 then End else base, high.1)

-- an address of eight bytes
abbrev pub fixed : Operand
fixed i = some_or (number 8 i) BAD_RANGE

-- a LEB number
abbrev pub plain : Operand
plain i = some_or (uleb i) BAD_RANGE

-- an index, which is looked up as soon as it was read
abbrev pub index : List Section → Walked → Operand
index ss w i = do
  n ← some_or (uleb i) BAD_RANGE
  a ← indexed_address ss w n.0
  Ok (a, n.1)

-- an entry with one operand
abbrev pub one : (ℕ → ListEntry) → Operand → EntryReader
one make read i = read i >>= λ a. Ok (make a.0, a.1)

-- an entry with two operands
abbrev pub two : (ℕ → ℕ → ListEntry) → Operand → Operand → EntryReader
two make read then_read i = read i >>= λ a. then_read a.1 >>= λ b. Ok (make a.0 b.0, b.1)

-- a range by its low end and its length
abbrev pub long : ℕ → ℕ → ListEntry
long low bytes = Bounds low (low + bytes)

-- the kinds of entries in version 5
abbrev pub kinds : List Section → Walked → List (ℕ × EntryReader)
kinds ss w =
    (0, λ i. Ok (End, i)) ∷
    (1, one Base (index ss w)) ∷
    (2, two Bounds (index ss w) (index ss w)) ∷
    (3, two long (index ss w) plain) ∷
    (4, two Offsets plain plain) ∷
    (5, one Base fixed) ∷
    (6, two Bounds fixed fixed) ∷
    (7, two long fixed plain) ∷
    []

-- the reader beside a kind; another kind isn't known
abbrev pub kind_reader : List (ℕ × EntryReader) → ℕ → EntryReader
kind_reader [] kind i = Err BAD_RANGE
kind_reader (row ∷ rows) kind i = if row.0 == kind then row.1 i else kind_reader rows kind i

-- the entry at the front of a list of version 5: a kind, and its operands
unfoldable pub kind_at : List Section → Walked → EntryReader
kind_at ss w i = do
  kind ← some_or (number 1 i) BAD_RANGE
  kind_reader (kinds ss w) kind.0 kind.1

-- ---- lists

-- what an entry adds to a list whose base is known
abbrev pub with_entry : ListEntry → ℕ → (ℕ → Result (List Range) ℕ) → Result (List Range) ℕ
with_entry End base later = Ok []
with_entry (Base b) base later = later b
with_entry (Bounds low end) base later = later base >>= λ rs. Ok (record { low = low; end = end } ∷ rs)
with_entry (Offsets low end) base later = later base >>= λ rs. Ok (record { low = base + low; end = base + end } ∷ rs)

-- the ranges of a list of n entries at most, by its base
unfoldable pub list_from : ℕ → EntryReader → ℕ → Input → Result (List Range) ℕ
list_from zero read base i = Err BAD_RANGE
list_from (suc n) read base i = read i >>= λ e. with_entry e.0 base (λ b. list_from n read b e.1)

-- the list at a place of a section; each entry takes a byte, and the list has its end in the section
unfoldable pub list_at : EntryReader → ℕ → List ℕ → ℕ → Result (List Range) ℕ
list_at read base bytes place = list_from (length bytes) read base (input bytes place)

-- where the list of an index begins
unfoldable pub list_offset : List Section → Walked → ℕ → Result ℕ ℕ
list_offset ss w n = do
  base ← some_or (base_of 0x74 w) NO_BASE
  o ← some_or (offset w.unit.wide (input (section_bytes ss (codes ".debug_rnglists")) (base + offset_size w.unit.wide * n))) BAD_RANGE
  Ok (base + o.0)

-- the list that a value of the unit names
unfoldable pub list_of : List Section → Walked → ℕ → Value → Result (List Range) ℕ
list_of ss w base (RangeIndex n) = list_offset ss w n >>= list_at (kind_at ss w) base (section_bytes ss (codes ".debug_rnglists"))
list_of ss w base (Offset o) =
    let old = list_at pair_at base (section_bytes ss (codes ".debug_ranges")) o in
    let new = list_at (kind_at ss w) base (section_bytes ss (codes ".debug_rnglists")) o in
    if w.unit.version == 5 then new else old
list_of ss w base other = Err BAD_RANGE
