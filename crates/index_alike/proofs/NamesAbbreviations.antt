-- The abbreviations that were written read back.
use Rattle.std.proofs.Common.{◌≡◌, ℕ, zero, suc, ◌+◌, ◌<◌, ◌≤◌, Bool, true, false, cond, eqb, List, [], ◌∷◌, ◌++◌, length, get_or, map, find, Some, Ok, refl, sym, ap, ◌∙◌, arith, length-append, append_assoc}
use Rattle.std.specs.Prelude.{All, flat_map}
use Rattle.std.specs.List.{enumerate_from}
use Rattle.std.proofs.lemmas.Bool.Decides.{nat_tests}
use Rattle.std.proofs.lemmas.List.Elements.{All-tail}
use mathlib.Core.Bool.{◌&&◌}
use Rattle.ix_base.specs.Reading.{Input, uleb}
use Rattle.index_model.specs.NameIndex.{Row, uleb_bytes, abbreviation_bytes, abbreviation_table}
use Rattle.index_model.specs.NameAbbreviations.{Spec, Abbreviation, is_form, specs_at, abbreviations_at, abbreviations}
use Rattle.index_alike.proofs.NamesNumbers.{from, uleb_is, byte_is}

-- ---- attributes and forms

spec_step : (place most a f : ℕ) (others : List Spec) (i0 i1 i2 i3 : Input) → uleb i0 ≡ Some (a, i1) → uleb i1 ≡ Some (f, i2) → (eqb a 0 && eqb f 0) ≡ false → is_form f ≡ true → specs_at place most i2 ≡ Ok (others, i3)
    → specs_at place (suc most) i0 ≡ Ok (record { attribute = a; form = f } ∷ others, i3)
unfolding specs_at
spec_step place most a f others i0 i1 i2 i3 attribute form some known more = rw (attribute, form, some, known, more) refl

spec_end : (place most : ℕ) (i0 i1 i2 : Input) → uleb i0 ≡ Some (0, i1) → uleb i1 ≡ Some (0, i2) → specs_at place (suc most) i0 ≡ Ok ([], i2)
unfolding specs_at
spec_end place most i0 i1 i2 attribute form = rw (attribute, form) refl

-- the index attribute that names the unit
abbrev pub unit_attribute : Bool → ℕ
unit_attribute types = cond types 2 1

-- the unit as udata, and the offset as ref4
abbrev pub specs_of : Bool → List Spec
specs_of types = record { attribute = unit_attribute types; form = 0x0F } ∷ record { attribute = 3; form = 0x13 } ∷ []

abbrev spec_bytes : ℕ → List ℕ → List ℕ
spec_bytes a tail = a ∷ 0x0F ∷ 3 ∷ 0x13 ∷ 0 ∷ 0 ∷ tail

two_specs : (place at most a : ℕ) (tail : List ℕ) → 3 ≤ most → a < 128 → (eqb a 0 && false) ≡ false
    → specs_at place most (from at (spec_bytes a tail)) ≡ Ok (record { attribute = a; form = 0x0F } ∷ record { attribute = 3; form = 0x13 } ∷ [], from (at + 1 + 1 + 1 + 1 + 1 + 1) tail)
two_specs place at zero a tail le low some = absurd (omega arith)
two_specs place at (suc zero) a tail le low some = absurd (omega arith)
two_specs place at (suc (suc zero)) a tail le low some = absurd (omega arith)
two_specs place at (suc (suc (suc most))) a tail le low some =
    let t5 : List ℕ = 0 ∷ tail in
    let t4 : List ℕ = 0 ∷ t5 in
    let t3 : List ℕ = 0x13 ∷ t4 in
    let t2 : List ℕ = 3 ∷ t3 in
    let t1 : List ℕ = 0x0F ∷ t2 in
    let i0 = from at (a ∷ t1) in
    let i1 = from (at + 1) t1 in
    let i2 = from (at + 1 + 1) t2 in
    let i3 = from (at + 1 + 1 + 1) t3 in
    let i4 = from (at + 1 + 1 + 1 + 1) t4 in
    let i5 = from (at + 1 + 1 + 1 + 1 + 1) t5 in
    let i6 = from (at + 1 + 1 + 1 + 1 + 1 + 1) tail in
    spec_step place (suc (suc most)) a 0x0F (record { attribute = 3; form = 0x13 } ∷ []) i0 i1 i2 i6 (byte_is at a t1 low) (byte_is (at + 1) 0x0F t2 (omega arith)) some refl
    (spec_step place (suc most) 3 0x13 [] i2 i3 i4 i6 (byte_is (at + 1 + 1) 3 t3 (omega arith)) (byte_is (at + 1 + 1 + 1) 0x13 t4 (omega arith)) refl refl
    (spec_end place most i4 i5 i6 (byte_is (at + 1 + 1 + 1 + 1) 0 t5 (omega arith)) (byte_is (at + 1 + 1 + 1 + 1 + 1) 0 tail (omega arith))))

specs_are : (place at most : ℕ) (types : Bool) (tail : List ℕ) → 3 ≤ most → specs_at place most (from at (spec_bytes (unit_attribute types) tail)) ≡ Ok (specs_of types, from (at + 1 + 1 + 1 + 1 + 1 + 1) tail)
specs_are place at most true tail le = two_specs place at most 2 tail le (omega arith) refl
specs_are place at most false tail le = two_specs place at most 1 tail le (omega arith) refl

-- ---- abbreviations

abbreviation_step : (most code tag : ℕ) (specs : List Spec) (others : List Abbreviation) (i0 i1 i2 i3 : Input) → uleb i0 ≡ Some (code, i1) → eqb code 0 ≡ false → uleb i1 ≡ Some (tag, i2) → specs_at i0.at (length i2.rest + 1) i2 ≡ Ok (specs, i3)
    → abbreviations_at most i3 ≡ Ok others → abbreviations_at (suc most) i0 ≡ Ok (record { code = code; tag = tag; specs = specs } ∷ others)
unfolding abbreviations_at
abbreviation_step most code tag specs others i0 i1 i2 i3 code_is some tag_is specs_is more = rw (code_is, some, tag_is, specs_is, more) refl

abbreviation_end : (most : ℕ) (i0 i1 : Input) → uleb i0 ≡ Some (0, i1) → abbreviations_at (suc most) i0 ≡ Ok []
unfolding abbreviations_at
abbreviation_end most i0 i1 code = rw code refl

-- a row with its number, as it is read
abbrev pub written : ℕ × Row → Abbreviation
written r = record { code = r.0 + 1; tag = r.1.0; specs = specs_of r.1.1 }

abbrev row_bytes : ℕ × Row → List ℕ
row_bytes r = abbreviation_bytes (r.0 + 1) r.1

-- the tag of each row is a number of 64 bits
abbrev pub TagsFit : List Row → Type 0
TagsFit rows = All (λ r. r.0 < 18446744073709551616) rows

not_zero : (n : ℕ) → eqb (n + 1) 0 ≡ false
not_zero n = grind (arith, nat_tests)

apart : (code tag : List ℕ) (a : ℕ) (others tail : List ℕ) → ((code ++ tag ++ spec_bytes a []) ++ others) ++ tail ≡ code ++ (tag ++ spec_bytes a (others ++ tail))
apart code tag a others tail =
    append_assoc (code ++ tag ++ spec_bytes a []) others tail ∙ append_assoc (code ++ tag) (spec_bytes a []) (others ++ tail) ∙ append_assoc code tag (spec_bytes a [] ++ (others ++ tail))

pub abbreviations_are : (k : ℕ) (rows : List Row) (most at : ℕ) (tail : List ℕ) → length rows < most → k + length rows < 18446744073709551616 → TagsFit rows
    → abbreviations_at most (from at (flat_map row_bytes (enumerate_from k rows) ++ 0 ∷ tail)) ≡ Ok (map written (enumerate_from k rows))
abbreviations_are k rows zero at tail lt few fit = absurd (omega arith)
abbreviations_are k [] (suc most) at tail lt few fit = abbreviation_end most (from at (0 ∷ tail)) (from (at + 1) tail) (byte_is at 0 tail (omega arith))
abbreviations_are k (r ∷ rows) (suc most) at tail lt few fit =
    let others : List ℕ = flat_map row_bytes (enumerate_from (k + 1) rows) in
    let t2 : List ℕ = spec_bytes (unit_attribute r.1) (others ++ 0 ∷ tail) in
    let t1 : List ℕ = uleb_bytes r.0 ++ t2 in
    let at1 : ℕ = at + length (uleb_bytes (k + 1)) in
    let at2 : ℕ = at1 + length (uleb_bytes r.0) in
    ap (λ (w : List ℕ). abbreviations_at (suc most) (from at w)) (apart (uleb_bytes (k + 1)) (uleb_bytes r.0) (unit_attribute r.1) others (0 ∷ tail))
    ∙ abbreviation_step most (k + 1) r.0 (specs_of r.1) (map written (enumerate_from (k + 1) rows)) (from at (uleb_bytes (k + 1) ++ t1)) (from at1 t1) (from at2 t2) (from (at2 + 1 + 1 + 1 + 1 + 1 + 1) (others ++ 0 ∷ tail))
    (uleb_is at (k + 1) t1 (omega arith)) (not_zero k) (uleb_is at1 r.0 t2 (fit 0 r (omega arith)))
    (specs_are at at2 (length t2 + 1) r.1 (others ++ 0 ∷ tail) (omega arith))
    (abbreviations_are (k + 1) rows most (at2 + 1 + 1 + 1 + 1 + 1 + 1) tail (omega arith) (omega arith) (All-tail (λ r. r.0 < 18446744073709551616) r rows fit))

-- each takes a byte at least
pub rows_short : (k : ℕ) (rows : List Row) → length rows ≤ length (flat_map row_bytes (enumerate_from k rows))
rows_short k [] = omega arith
rows_short k (r ∷ rows) =
    let rest = rows_short (k + 1) rows in
    let own : List ℕ = row_bytes (k, r) in
    let front : length own ≡ length (uleb_bytes (k + 1) ++ uleb_bytes r.0) + 6 = length-append (uleb_bytes (k + 1) ++ uleb_bytes r.0) (spec_bytes (unit_attribute r.1) []) in
    omega (arith, rest, front, length-append own (flat_map row_bytes (enumerate_from (k + 1) rows)))

-- the table reads as its rows
pub table_is : (rows : List Row) (at : ℕ) → length rows < 18446744073709551616 → TagsFit rows → abbreviations (from at (abbreviation_table rows)) ≡ Ok (map written (enumerate_from 0 rows))
table_is rows at few fit =
    let size = length-append (flat_map row_bytes (enumerate_from 0 rows)) (0 ∷ []) in
    abbreviations_are 0 rows (length (abbreviation_table rows) + 1) at [] (omega (arith, size, rows_short 0 rows)) (omega arith) fit

-- the abbreviation with the code of a row
pub find_code : (k p : ℕ) (rows : List Row) (r : Row) → p < length rows → get_or rows p r ≡ r → find (λ a. eqb a.code (k + p + 1)) (map written (enumerate_from k rows)) ≡ Some (written (k + p, r))
find_code k p [] r lt is = absurd (omega arith)
find_code k zero (x ∷ xs) r lt is =
    let here : eqb (k + 1) (k + 0 + 1) ≡ true = grind (arith, nat_tests) in
    let at : k ≡ k + 0 = omega arith in
    rw here (λ i. Some (written (at i, is i)))
find_code k (suc p) (x ∷ xs) r lt is =
    let other : eqb (k + 1) (k + suc p + 1) ≡ false = grind (arith, nat_tests) in
    let at : k + 1 + p ≡ k + suc p = omega arith in
    let rest = find_code (k + 1) p xs r (omega arith) is in
    rw other (ap (λ (n : ℕ). find (λ a. eqb a.code (n + 1)) (map written (enumerate_from (k + 1) xs))) (sym at) ∙ rest ∙ (λ i. Some (written (at i, r))))
