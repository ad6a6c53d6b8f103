-- The forms whose values are numbers.
use Rattle.std.specs.Prelude.{◌≡◌, ℕ, Bool, true, List, [], ◌∷◌, Option, Some, None}
use Rattle.ix_base.specs.declared.code.TheConstants.{SUPPLEMENTARY}
use Rattle.ix_base.specs.Reading.{Input, skip, number, offset, uleb, sleb, zstr}
use Rattle.index_model.specs.Forms.{Value, Reader, by, counted, refused, is_set, section_reference, plain_forms, reader_of}
use Rattle.index_model.specs.Forms as meant
use Rattle.entry_scan.specs.declared.form_numbers.Width.{Width}
use Rattle.entry_scan.specs.declared.form_numbers.Width.TheVariants as width
use Rattle.entry_scan.specs.declared.form_numbers.NumberClass.{NumberClass}
use Rattle.entry_scan.specs.declared.form_numbers.NumberClass.TheVariants as kind

-- a number of this width at the front
abbrev pub written : ℕ → Bool → Width → Input → Option (ℕ × Input)
written version wide width.One = number 1
written version wide width.Two = number 2
written version wide width.Three = number 3
written version wide width.Four = number 4
written version wide width.Eight = number 8
written version wide width.Offset = offset wide
written version wide width.Reference = section_reference version wide
written version wide width.Leb = uleb

-- the value that a number of this kind stands for
abbrev pub stands_for : NumberClass → ℕ → Value
stands_for kind.Addr n = meant.Addr n
stands_for kind.Unsigned n = meant.Unsigned n
stands_for kind.Flag n = meant.Flag (is_set n)
stands_for kind.Str n = meant.Str n
stands_for kind.LineStr n = meant.LineStr n
stands_for kind.StrIndex n = meant.StrIndex n
stands_for kind.AddrIndex n = meant.AddrIndex n
stands_for kind.Near n = meant.Near n
stands_for kind.Far n = meant.Far n
stands_for kind.Signature n = meant.Signature n
stands_for kind.Offset n = meant.Offset n
stands_for kind.RangeIndex n = meant.RangeIndex n
stands_for kind.ListIndex n = meant.ListIndex n

-- no bytes at all
abbrev nothing : Input → Option (record {} × Input)
nothing i = Some (record {}, i)

-- the forms whose values aren't a number alone
abbrev pub other_forms : List (ℕ × Reader)
other_forms =
    (0x19, by nothing (λ _. meant.Flag true)) ∷
    (0x1E, by (skip 16) (λ _. meant.Wide)) ∷
    (0x0D, by sleb meant.Signed) ∷
    (0x0A, by (counted (number 1)) meant.Block) ∷ (0x03, by (counted (number 2)) meant.Block) ∷ (0x04, by (counted (number 4)) meant.Block) ∷ (0x09, by (counted uleb) meant.Block) ∷ (0x18, by (counted uleb) meant.Block) ∷
    (0x08, by zstr meant.Inline) ∷
    (0x1C, refused SUPPLEMENTARY) ∷ (0x1D, refused SUPPLEMENTARY) ∷ (0x24, refused SUPPLEMENTARY) ∷
    []

-- the form's value is a number of this width and kind, or no number alone
abbrev pub IsNumberForm : ℕ → Option (Width × NumberClass) → Type 0
IsNumberForm form (Some n) = (version : ℕ) (wide : Bool) → reader_of (plain_forms version wide) form ≡ by (written version wide n.0) (stands_for n.1)
IsNumberForm form None = (version : ℕ) (wide : Bool) → reader_of (plain_forms version wide) form ≡ reader_of other_forms form
