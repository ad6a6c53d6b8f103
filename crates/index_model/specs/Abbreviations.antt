-- Abbreviation tables (DWARF 5, 7.5.3).
use Rattle.std.specs.Prelude.{ℕ, zero, suc, ℤ, pos, Bool, not, ◌&&◌, nat_le, ◌==◌, if◌then◌else◌, List, [], ◌∷◌, length, drop, Option, Some, None}
use Rattle.std.specs.List.{find}
use Rattle.ix_base.specs.Reading.{◌>>=◌, Input, number, uleb, sleb}

-- an attribute, its form, and the value that implicit_const has in the table
pub record Spec : Type 0 where
  pub attribute : ℕ
  pub form : ℕ
  pub constant : ℤ

-- an abbreviation: its code, its tag, whether its entries have children, and their attributes
pub record Abbrev : Type 0 where
  pub code : ℕ
  pub tag : ℕ
  pub children : Bool
  pub specs : List Spec

-- the attribute and the form at the front; behind implicit_const stands its value
unfoldable pub spec_at : Input → Option (Spec × Input)
spec_at i = do
  attribute ← uleb i
  form ← uleb attribute.1
  let plain = Some (record { attribute = attribute.0; form = form.0; constant = pos 0 }, form.1)
  let constant = sleb form.1 >>= λ c. Some (record { attribute = attribute.0; form = form.0; constant = c.0 }, c.1)
  if form.0 == 0x21 then constant else plain

-- (0, 0) ends the attributes
abbrev pub is_end : Spec → Bool
is_end s = s.attribute == 0 && s.form == 0

-- up to (0, 0)
unfoldable pub specs_at : ℕ → Input → Option (List Spec × Input)
specs_at zero i = None
specs_at (suc n) i = do
  first ← spec_at i
  let more = specs_at n first.1 >>= λ others. Some (first.0 ∷ others.0, others.1)
  if is_end first.0 then Some ([], first.1) else more

-- the abbreviation whose code is known, and what stands behind it
unfoldable pub abbrev_with : ℕ → Input → Option (Abbrev × Input)
abbrev_with code i = do
  tag ← uleb i
  children ← number 1 tag.1
  specs ← specs_at (length children.1.rest) children.1
  Some (record { code = code; tag = tag.0; children = not (children.0 == 0); specs = specs.0 }, specs.1)

-- up to the code 0
unfoldable pub abbrevs_at : ℕ → Input → Option (List Abbrev)
abbrevs_at zero i = None
abbrevs_at (suc n) i = do
  code ← uleb i
  let more = abbrev_with code.0 code.1 >>= λ first. abbrevs_at n first.1 >>= λ others. Some (first.0 ∷ others)
  if code.0 == 0 then Some [] else more

-- the table at an offset of the section; None where it is damaged
abbrev pub table : List ℕ → ℕ → Option (List Abbrev)
table bytes place = if nat_le place (length bytes) then abbrevs_at (length bytes) (record { at = place; rest = drop place bytes }) else None

-- the first with this code
abbrev pub abbrev_of : List Abbrev → ℕ → Option Abbrev
abbrev_of table code = find (λ a. a.code == code) table
