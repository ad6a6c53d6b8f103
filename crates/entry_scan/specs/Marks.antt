-- Which attributes an abbreviation may have, by their numbers divided by 64.
use Rattle.std.specs.Prelude.{◌≡◌, ◌%◌, ℕ, List, All}
use Rattle.std.specs.Int.{bit_at}
use Rattle.index_model.specs.Forms.{Value}
use Rattle.entry_scan.specs.declared.abbreviation.Spec.{Spec}
use Rattle.entry_scan.specs.declared.marks.AttributeBits.{AttributeBits}

-- the bit of an attribute is set
abbrev pub HasMark : AttributeBits → ℕ → Type 0
HasMark m attribute = bit_at m.bits (attribute % 64) ≡ 1

-- the bits of these attributes are set
abbrev pub AreMarks : List Spec → AttributeBits → Type 0
AreMarks specs m = All (λ (s : Spec). HasMark m s.attribute) specs

-- the bits of the attributes of these values are set
abbrev pub AreMarked : List (ℕ × Value) → AttributeBits → Type 0
AreMarked vs m = All (λ (v : ℕ × Value). HasMark m v.0) vs
