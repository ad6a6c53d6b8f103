-- The bytes of the generated units, part by part.
use Rattle.std.proofs.Common.{◌≡◌, ℕ, ◌+◌, Bool, true, false, cond, eqb, List, [], ◌∷◌, ◌++◌, length, refl}
use Rattle.std.specs.Prelude.{codes, flat_map}
use Rattle.index_model.specs.Layout.{ended, start_of}
use Rattle.index_model.specs.NameIndex.{uleb_in}
use Rattle.elf_make.specs.Packed.{half, word, xword}
use Rattle.elf_make.specs.PlainForm.{Plain, Braced, Name, External, Language, LowPc, HighPc, Entries, End, pieces, entries_bytes, unit_header, unit_bytes}
use Rattle.elf_make.specs.Generated.{hex_digits, main_before, c_entries, c_unit, cpp_unit, abbreviations}
use Rattle.elf_make.proofs.Tables.{one_is, more_are, more_units}

-- parts, one behind the other
abbrev pub joined : List (List ℕ) → List ℕ
joined ps = flat_map (λ piece. piece) ps

-- ---- the entries of a unit of even number

pub c_entries_are : (low i : ℕ) → entries_bytes (abbreviations 0 2) (c_entries low i) ≡ joined (
    (2 ∷ []) ∷ ended (codes "f" ++ hex_digits i) ∷ (xword (low + 0x20) ++ word 0x20)
    ∷ (3 ∷ []) ∷ ended (codes "helper") ∷ (xword (low + 0x40) ++ word 0x20)
    ∷ (4 ∷ []) ∷ ended (codes "v" ++ hex_digits i) ∷ (9 ∷ 3 ∷ []) ∷ xword (low + 0x80)
    ∷ (5 ∷ []) ∷ ended (codes "word") ∷ [])
unfolding hex_digits half word xword uleb_in c_entries pieces
c_entries_are low i = rw more_are refl

-- the function main of unit 0, or nothing
abbrev pub main_bytes : Bool → ℕ → List ℕ
main_bytes first low = cond first (joined ((2 ∷ []) ∷ ended (codes "main") ∷ (xword low ++ word 0x20) ∷ [])) []

pub main_is : (low i : ℕ) → entries_bytes (abbreviations 0 2) (main_before low i End) ≡ main_bytes (eqb i 0) low
unfolding half word xword uleb_in main_before pieces
main_is low i = rw more_are (by (eqb i 0))
  where
    by : (first : Bool) → entries_bytes more_units (cond first (Plain 0x2E (Name (codes "main") ∷ External ∷ LowPc low ∷ HighPc 0x20 ∷ []) End) End) ≡ main_bytes first low
    by true = refl
    by false = refl

-- a unit of even number that has main or not
c_unit_with : Bool → ℕ → ℕ → Entries
c_unit_with first low i =
    Braced 0x11 (Name (codes "u" ++ hex_digits i ++ codes ".c") ∷ Language 0x0C ∷ LowPc low ∷ HighPc 0x100 ∷ [])
    (cond first (Plain 0x2E (Name (codes "main") ∷ External ∷ LowPc low ∷ HighPc 0x20 ∷ []) (c_entries low i)) (c_entries low i))
    End

-- the parts of such a unit, with these bytes of main and of the other entries
abbrev c_parts : ℕ → ℕ → ℕ → List ℕ → List ℕ → List (List ℕ)
c_parts size low i main others =
    unit_header size ∷ (1 ∷ []) ∷ ended (codes "u" ++ hex_digits i ++ codes ".c") ∷ (12 ∷ []) ∷ (xword low ++ word 0x100) ∷ main ∷ others ∷ (0 ∷ []) ∷ []

with_main : (first : Bool) (low i : ℕ) → unit_bytes more_units (c_unit_with first low i)
    ≡ joined (c_parts (97 + cond first 18 0) low i (main_bytes first low) (entries_bytes more_units (c_entries low i)))
unfolding hex_digits half word xword uleb_in c_entries c_unit_with pieces unit_bytes
with_main true low i = refl
with_main false low i = refl

pub c_unit_is : (low i : ℕ) → unit_bytes (abbreviations 0 2) (c_unit low i) ≡ joined (c_parts (97 + cond (eqb i 0) 18 0) low i
    (entries_bytes (abbreviations 0 2) (main_before low i End)) (entries_bytes (abbreviations 0 2) (c_entries low i)))
unfolding c_unit main_before c_unit_with
c_unit_is low i = rw (main_is low i, more_are) (with_main (eqb i 0) low i)

-- ---- a unit of odd number

pub cpp_unit_is : (low i declared : ℕ) → unit_bytes (abbreviations 0 2) (cpp_unit low i declared) ≡ joined (
    unit_header 64 ∷ (1 ∷ []) ∷ ended (codes "u" ++ hex_digits i ++ codes ".cc") ∷ (33 ∷ []) ∷ (xword low ++ word 0x100)
    ∷ (6 ∷ []) ∷ ended (codes "n") ∷ (7 ∷ []) ∷ ended (codes "c" ++ hex_digits i) ∷ (8 ∷ []) ∷ ended (codes "m") ∷ (0 ∷ []) ∷ (0 ∷ [])
    ∷ (9 ∷ []) ∷ word declared ∷ (xword (low + 0x20) ++ word 0x20) ∷ (0 ∷ []) ∷ [])
unfolding hex_digits half word xword uleb_in cpp_unit pieces unit_bytes
cpp_unit_is low i declared = rw more_are refl

-- ---- lengths

length_with_main : (first : Bool) (low i : ℕ) → length (unit_bytes more_units (c_unit_with first low i)) ≡ 109 + cond first 18 0
unfolding hex_digits half word xword uleb_in c_entries c_unit_with pieces unit_bytes
length_with_main true low i = refl
length_with_main false low i = refl

pub c_unit_length : (low i : ℕ) → length (unit_bytes (abbreviations 0 2) (c_unit low i)) ≡ 109 + cond (eqb i 0) 18 0
unfolding c_unit main_before c_unit_with
c_unit_length low i = rw more_are (length_with_main (eqb i 0) low i)

pub cpp_unit_length : (low i declared : ℕ) → length (unit_bytes (abbreviations 0 2) (cpp_unit low i declared)) ≡ 76
unfolding hex_digits half word xword uleb_in cpp_unit pieces unit_bytes
cpp_unit_length low i declared = rw more_are refl

pub length_header : (size : ℕ) → length (unit_header size) ≡ 12
unfolding half word
length_header size = refl

-- what stands before the declaration behind the header
pub before_declaration : (low i declared : ℕ) → start_of (pieces (abbreviations 0 2) (cpp_unit low i declared)) 3 ≡ 41
unfolding hex_digits half word xword uleb_in cpp_unit pieces
before_declaration low i declared = rw more_are refl

-- ---- the only unit of a file

-- unit 0 uses the same codes where there are others
pub only_unit : (low : ℕ) → unit_bytes (abbreviations 0 1) (c_unit low 0) ≡ unit_bytes (abbreviations 0 2) (c_unit low 0)
unfolding uleb_in main_before c_entries c_unit pieces unit_bytes
only_unit low = rw (one_is, more_are) refl
