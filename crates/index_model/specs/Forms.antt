-- The value of an attribute, by its form: one row for each form (DWARF 5, 7.5.6).
use Rattle.index_model.specs.Meaning.{◌>>=◌, some_or}
use Rattle.std.specs.Prelude.{ℕ, ℤ, Bool, true, not, ◌==◌, if◌then◌else◌, List, [], ◌∷◌, Option, Some, Result, Ok, Err}
use Rattle.ix_base.specs.declared.code.TheConstants.{TRUNCATED, UNKNOWN_FORM, SUPPLEMENTARY}
use Rattle.ix_base.specs.Reading.{Input, bytes, skip, number, uleb, sleb, zstr, offset, ◌>>=◌ as ◌>>=?◌}

-- a value, by what its form says of it
pub data Value : Type 0 where
  Addr Unsigned Str LineStr StrIndex AddrIndex Near Far Signature Offset RangeIndex ListIndex : ℕ → Value
  Signed : ℤ → Value
  Flag : Bool → Value
  Wide : Value
  Inline Block : List ℕ → Value

-- a reader of values: the value and what is left, or the code of the fault
abbrev pub Reader : Type 0
Reader = Input → Result (Value × Input) ℕ

-- the value that make gives of what read reads, or that the unit ends too early
abbrev pub by : {A : Type 0} → (Input → Option (A × Input)) → (A → Value) → Reader
by read make i = some_or (read i) TRUNCATED >>= λ x. Ok (make x.0, x.1)

-- a count, and so many bytes
abbrev pub counted : (Input → Option (ℕ × Input)) → Input → Option (List ℕ × Input)
counted count i = count i >>=? λ n. bytes n.0 n.1

-- the form isn't read
abbrev pub refused : ℕ → Reader
refused code i = Err code

-- a flag is set by every byte but 0
abbrev pub is_set : ℕ → Bool
is_set b = not (b == 0)

-- no bytes at all
abbrev nothing : Input → Option (record {} × Input)
nothing i = Some (record {}, i)

-- a reference into the section: eight bytes in version 2, else an offset
abbrev pub section_reference : ℕ → Bool → Input → Option (ℕ × Input)
section_reference version wide i = if version == 2 then number 8 i else offset wide i

-- the forms that stand for themselves
abbrev pub plain_forms : ℕ → Bool → List (ℕ × Reader)
plain_forms version wide =
    (0x19, by nothing (λ _. Flag true)) ∷
    (0x0B, by (number 1) Unsigned) ∷ (0x0C, by (number 1) (λ b. Flag (is_set b))) ∷ (0x11, by (number 1) Near) ∷ (0x25, by (number 1) StrIndex) ∷ (0x29, by (number 1) AddrIndex) ∷
    (0x05, by (number 2) Unsigned) ∷ (0x12, by (number 2) Near) ∷ (0x26, by (number 2) StrIndex) ∷ (0x2A, by (number 2) AddrIndex) ∷
    (0x27, by (number 3) StrIndex) ∷ (0x2B, by (number 3) AddrIndex) ∷
    (0x06, by (number 4) Unsigned) ∷ (0x13, by (number 4) Near) ∷ (0x28, by (number 4) StrIndex) ∷ (0x2C, by (number 4) AddrIndex) ∷
    (0x01, by (number 8) Addr) ∷ (0x07, by (number 8) Unsigned) ∷ (0x14, by (number 8) Near) ∷ (0x20, by (number 8) Signature) ∷
    (0x1E, by (skip 16) (λ _. Wide)) ∷
    (0x0E, by (offset wide) Str) ∷ (0x10, by (section_reference version wide) Far) ∷ (0x17, by (offset wide) Offset) ∷ (0x1F, by (offset wide) LineStr) ∷
    (0x0F, by uleb Unsigned) ∷ (0x15, by uleb Near) ∷ (0x1A, by uleb StrIndex) ∷ (0x1B, by uleb AddrIndex) ∷ (0x22, by uleb ListIndex) ∷ (0x23, by uleb RangeIndex) ∷
    (0x0D, by sleb Signed) ∷
    (0x0A, by (counted (number 1)) Block) ∷ (0x03, by (counted (number 2)) Block) ∷ (0x04, by (counted (number 4)) Block) ∷ (0x09, by (counted uleb) Block) ∷ (0x18, by (counted uleb) Block) ∷
    (0x08, by zstr Inline) ∷
    (0x1C, refused SUPPLEMENTARY) ∷ (0x1D, refused SUPPLEMENTARY) ∷ (0x24, refused SUPPLEMENTARY) ∷
    []

-- the reader beside a form
abbrev pub reader_of : List (ℕ × Reader) → ℕ → Reader
reader_of [] form = refused UNKNOWN_FORM
reader_of (row ∷ rows) form = if row.0 == form then row.1 else reader_of rows form

-- a form that stands before the value
unfoldable pub indirect : ℕ → Bool → Reader
indirect version wide i = do
  form ← some_or (uleb i) TRUNCATED
  reader_of (plain_forms version wide) form.0 form.1

-- The value of a form at the front, and what stands behind it. implicit_const has its value in the table of abbreviations, and indirect has its form before it.
unfoldable pub value_at : ℕ → Bool → ℕ → ℤ → Reader
value_at version wide form constant =
    reader_of ((0x16, indirect version wide) ∷ (0x21, λ i. Ok (Signed constant, i)) ∷ plain_forms version wide) form
