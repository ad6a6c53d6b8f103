-- The abbreviations of a `.debug_names`, and the values of its entries (DWARF 5, 6.1.1.4.7 and 6.1.1.4.8).
use Rattle.std.specs.Prelude.{ℕ, zero, suc, ◌+◌, ℤ, pos, negsuc, Bool, false, ◌&&◌, ◌==◌, List, [], ◌∷◌, find, length, if◌then◌else◌, Option, Some, None, option_map, Result, Ok, Err}
use Rattle.std.specs.List.{list_any}
use Rattle.ix_base.specs.declared.fault.Fault.{Fault}
use Rattle.ix_base.specs.Reading.{Input, number, offset, uleb, sleb, ◌>>=◌ as ◌>>=?◌}
use Rattle.index_model.specs.declared.index_code.TheConstants.{NAMES_ABBREVIATION}
use Rattle.index_model.specs.Meaning.{◌>>=◌, fault, holds_or, some_or}

-- ---- forms

-- a value that is a number; none where it is negative
abbrev pub as_number : ℤ → Option ℕ
as_number (pos n) = Some n
as_number (negsuc n) = None

-- how a form is read: its number, or none where it is negative or has no bytes
abbrev pub Reader : Type 0
Reader = Input → Option (Option ℕ × Input)

-- a form whose value is always a number
abbrev pub by : (Input → Option (ℕ × Input)) → Reader
by read i = read i >>=? λ n. Some (Some n.0, n.1)

-- the forms of index attributes: data1, flag, ref1; data2, ref2; data4, ref4; data8, ref8; udata, ref_udata; ref_addr, sec_offset; sdata; flag_present
abbrev pub forms : Bool → List (ℕ × Reader)
forms wide =
    (0x0B, by (number 1)) ∷ (0x0C, by (number 1)) ∷ (0x11, by (number 1)) ∷
    (0x05, by (number 2)) ∷ (0x12, by (number 2)) ∷
    (0x06, by (number 4)) ∷ (0x13, by (number 4)) ∷
    (0x07, by (number 8)) ∷ (0x14, by (number 8)) ∷
    (0x0F, by uleb) ∷ (0x15, by uleb) ∷
    (0x10, by (offset wide)) ∷ (0x17, by (offset wide)) ∷
    (0x0D, λ i. sleb i >>=? λ z. Some (as_number z.0, z.1)) ∷
    (0x19, λ i. Some (None, i)) ∷
    []

-- whether an index attribute may have the form
abbrev pub is_form : ℕ → Bool
is_form form = list_any (λ row. row.0 == form) (forms false)

-- ---- abbreviations

-- an index attribute and its form
pub record Spec : Type 0 where
  pub attribute : ℕ
  pub form : ℕ

-- a code, the tag of its entries, and their attributes
pub record Abbreviation : Type 0 where
  pub code : ℕ
  pub tag : ℕ
  pub specs : List Spec

-- attributes and forms up to (0, 0), at most so many, of the abbreviation at a place
unfoldable pub specs_at : ℕ → ℕ → Input → Result (List Spec × Input) Fault
specs_at place zero i = Err (fault NAMES_ABBREVIATION place)
specs_at place (suc most) i = do
  attribute ← some_or (uleb i) (fault NAMES_ABBREVIATION place)
  form ← some_or (uleb attribute.1) (fault NAMES_ABBREVIATION place)
  let more = holds_or (is_form form.0) (fault NAMES_ABBREVIATION place) >>= λ _. specs_at place most form.1 >>= λ others.
      Ok (record { attribute = attribute.0; form = form.0 } ∷ others.0, others.1)
  if attribute.0 == 0 && form.0 == 0 then Ok ([], form.1) else more

-- abbreviations up to the code 0, at most so many
unfoldable pub abbreviations_at : ℕ → Input → Result (List Abbreviation) Fault
abbreviations_at zero i = Err (fault NAMES_ABBREVIATION i.at)
abbreviations_at (suc most) i = do
  code ← some_or (uleb i) (fault NAMES_ABBREVIATION i.at)
  let more = some_or (uleb code.1) (fault NAMES_ABBREVIATION i.at) >>= λ tag. specs_at i.at (length tag.1.rest + 1) tag.1 >>= λ specs.
      abbreviations_at most specs.1 >>= λ others. Ok (record { code = code.0; tag = tag.0; specs = specs.0 } ∷ others)
  if code.0 == 0 then Ok [] else more

-- all abbreviations of an area; each takes a byte, and so does the code 0
abbrev pub abbreviations : Input → Result (List Abbreviation) Fault
abbreviations area = abbreviations_at (length area.rest + 1) area

-- ---- values

-- an index attribute and its value, which is none where it isn't a number
abbrev pub Attribute : Type 0
Attribute = ℕ × Option ℕ

-- the values of the attributes of an entry
unfoldable pub values : Bool → List Spec → Input → Option (List Attribute × Input)
values wide [] i = Some ([], i)
values wide (s ∷ ss) i =
    find (λ row. row.0 == s.form) (forms wide) >>=? λ row. row.1 i >>=? λ v. values wide ss v.1 >>=? λ others.
    Some ((s.attribute, v.0) ∷ others.0, others.1)

-- the first value of an attribute
abbrev pub value_of : ℕ → List Attribute → Option (Option ℕ)
value_of attribute vs = option_map (λ v. v.1) (find (λ v. v.0 == attribute) vs)
