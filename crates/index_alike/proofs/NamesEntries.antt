-- The entries that were written read back.
use Rattle.std.proofs.Common.{◌≡◌, ℕ, zero, suc, ◌+◌, ◌<◌, ◌≤◌, Bool, true, false, cond, eqb, List, [], ◌∷◌, ◌++◌, length, get_or, take, drop, map, find, Some, Ok, refl, ap, ◌∙◌, arith, length-append, append_assoc}
use Rattle.std.specs.Prelude.{All, flat_map}
use Rattle.std.specs.List.{enumerate_from}
use Rattle.std.proofs.lemmas.Bool.{lt-ltb}
use Rattle.std.proofs.lemmas.Bool.Decides.{nat_tests}
use Rattle.std.proofs.lemmas.List.Elements.{All-tail}
use Rattle.std.proofs.lemmas.List.Sums.{sum_by-cons}
use Rattle.std.proofs.Math.Seq.{drop-append-add}
use Rattle.ix_base.specs.Reading.{Input, uleb, number}
use Rattle.index_model.specs.Layout.{u32_bytes, start_of}
use Rattle.index_model.specs.Ordered.{place_of}
use Rattle.index_model.specs.NameIndex.{Indexed, Row, row_of, row_eq, uleb_bytes, entry_bytes}
use Rattle.index_model.specs.NameAbbreviations.{Abbreviation, Attribute, values}
use Rattle.index_model.specs.NameTables.{Tables}
use Rattle.index_model.specs.NameIndexRead.{NameHit, hit, entry_with, entries_at}
use Rattle.index_alike.specs.NamesAlike.{sort_of, hit_of}
use Rattle.index_alike.proofs.NamesNumbers.{from, number_4, uleb_is, byte_is}
use Rattle.index_alike.proofs.NamesAbbreviations.{unit_attribute, specs_of, written, find_code}
use Rattle.index_alike.proofs.NamesOrder.{StandsAt}

-- ---- one entry

-- the values of an entry
abbrev values_of : Bool → ℕ → ℕ → List Attribute
values_of types unit offset = (unit_attribute types, Some unit) ∷ (3, Some offset) ∷ []

values_are : (types : Bool) (unit offset : ℕ) (i0 i1 i2 : Input) → uleb i0 ≡ Some (unit, i1) → number 4 i1 ≡ Some (offset, i2) → values false (specs_of types) i0 ≡ Some (values_of types unit offset, i2)
unfolding values
values_are types unit offset i0 i1 i2 first second = rw (first, second) refl

-- how many units there are of a sort
abbrev pub unit_count : Tables → Bool → ℕ
unit_count t types = cond types t.counts.local t.counts.cus

hit_is : (t : Tables) (tag unit offset : ℕ) (types : Bool) → unit < unit_count t types → hit t tag (values_of types unit offset) ≡ Some (record { sort = sort_of types; unit = unit; tag = tag; offset = offset })
unfolding hit
hit_is t tag unit offset true lt = rw (lt-ltb unit t.counts.local lt) refl
hit_is t tag unit offset false lt = rw (lt-ltb unit t.counts.cus lt) refl

with_steps : (t : Tables) (abbrevs : List Abbreviation) (code : ℕ) (a : Abbreviation) (vs : List Attribute) (h : NameHit) (i j : Input) → find (λ a. eqb a.code code) abbrevs ≡ Some a → values t.wide a.specs i ≡ Some (vs, j) → hit t a.tag vs ≡ Some h
    → entry_with t abbrevs code i ≡ Some (h, j)
unfolding entry_with
with_steps t abbrevs code a vs h i j found read is = rw (found, read, is) refl

entries_step : (t : Tables) (abbrevs : List Abbreviation) (most code : ℕ) (h : NameHit) (others : List NameHit) (i0 i1 i2 : Input) → uleb i0 ≡ Some (code, i1) → eqb code 0 ≡ false → entry_with t abbrevs code i1 ≡ Some (h, i2)
    → entries_at t abbrevs most i2 ≡ Ok others → entries_at t abbrevs (suc most) i0 ≡ Ok (h ∷ others)
unfolding entries_at
entries_step t abbrevs most code h others i0 i1 i2 read some own more = rw (read, some, own, more) refl

entries_end : (t : Tables) (abbrevs : List Abbreviation) (most : ℕ) (i0 i1 : Input) → uleb i0 ≡ Some (0, i1) → entries_at t abbrevs (suc most) i0 ≡ Ok []
unfolding entries_at
entries_end t abbrevs most i0 i1 read = rw read refl

not_zero : (n : ℕ) → eqb (n + 1) 0 ≡ false
not_zero n = grind (arith, nat_tests)

-- ---- the entries of a name

module _ (t : Tables) (rows : List Row) (narrow : t.wide ≡ false) (few : length rows < 4294967296) (units_fit : (types : Bool) → unit_count t types < 4294967296) where
  -- the entry has a row and a unit, and its offset fits
  pub record Fits (e : Indexed) : Type 0 where
    pub row : StandsAt rows (place_of row_eq (row_of e) rows) (row_of e)
    pub unit : e.unit < unit_count t e.types
    pub offset : e.offset < 4294967296

  -- the abbreviations, as they are read
  abbrev pub abbrevs : List Abbreviation
  abbrevs = map written (enumerate_from 0 rows)

  found : (e : Indexed) → Fits e → find (λ a. eqb a.code (place_of row_eq (row_of e) rows + 1)) abbrevs ≡ Some (written (0 + place_of row_eq (row_of e) rows, row_of e))
  found e h = found_at (place_of row_eq (row_of e) rows) h.row
    where
      found_at : (p : ℕ) → StandsAt rows p (row_of e) → find (λ a. eqb a.code (p + 1)) (map written (enumerate_from 0 rows)) ≡ Some (written (0 + p, row_of e))
      found_at p s =
          let none : p ≡ 0 + p = omega arith in
          ap (λ (n : ℕ). find (λ a. eqb a.code (n + 1)) (map written (enumerate_from 0 rows))) none ∙ find_code 0 p rows (row_of e) s.within s.is

  three : (a b c others tail : List ℕ) → ((a ++ b ++ c) ++ others) ++ tail ≡ a ++ (b ++ (c ++ (others ++ tail)))
  three a b c others tail = simp append_assoc

  pub entries_are : (es : List Indexed) (most at : ℕ) (tail : List ℕ) → length es < most → All Fits es → entries_at t abbrevs most (from at (flat_map (entry_bytes rows) es ++ 0 ∷ tail)) ≡ Ok (map hit_of es)
  entries_are es zero at tail lt fit = absurd (omega arith)
  entries_are [] (suc most) at tail lt fit = entries_end t abbrevs most (from at (0 ∷ tail)) (from (at + 1) tail) (byte_is at 0 tail (omega arith))
  entries_are (e ∷ es) (suc most) at tail lt fit =
      let own : Fits e = fit 0 e (omega arith) in
      let place : ℕ = place_of row_eq (row_of e) rows in
      let code : List ℕ = uleb_bytes (place + 1) in
      let unit : List ℕ = uleb_bytes e.unit in
      let others : List ℕ = flat_map (entry_bytes rows) es in
      let t2 : List ℕ = u32_bytes e.offset ++ (others ++ 0 ∷ tail) in
      let t1 : List ℕ = unit ++ t2 in
      let at1 : ℕ = at + length code in
      let at2 : ℕ = at1 + length unit in
      let end = from (at2 + 4) (others ++ 0 ∷ tail) in
      let row_small : place < 4294967296 = omega (arith, own.row.within, few) in
      let unit_small : e.unit < 4294967296 = omega (arith, own.unit, units_fit e.types) in
      let read : values t.wide (specs_of e.types) (from at1 t1) ≡ Some (values_of e.types e.unit e.offset, end) =
      ap (λ (w : Bool). values w (specs_of e.types) (from at1 t1)) narrow ∙ values_are e.types e.unit e.offset (from at1 t1) (from at2 t2) end (uleb_is at1 e.unit t2 (omega arith)) (number_4 at2 e.offset (others ++ 0 ∷ tail) own.offset) in
      let here : entry_with t abbrevs (place + 1) (from at1 t1) ≡ Some (hit_of e, end) =
      with_steps t abbrevs (place + 1) (written (0 + place, row_of e)) (values_of e.types e.unit e.offset) (hit_of e) (from at1 t1) end (found e own) read (hit_is t e.tag e.unit e.offset e.types own.unit) in
      ap (λ (w : List ℕ). entries_at t abbrevs (suc most) (from at w)) (three code unit (u32_bytes e.offset) others (0 ∷ tail))
      ∙ entries_step t abbrevs most (place + 1) (hit_of e) (map hit_of es) (from at (code ++ t1)) (from at1 t1) end (uleb_is at (place + 1) t1 (omega arith)) (not_zero place) here
      (entries_are es most (at2 + 4) tail (omega arith) (All-tail Fits e es fit))

-- each entry takes a byte at least
pub entries_short : (rows : List Row) (es : List Indexed) → length es ≤ length (flat_map (entry_bytes rows) es)
entries_short rows [] = omega arith
entries_short rows (e ∷ es) =
    let front : List ℕ = uleb_bytes (place_of row_eq (row_of e) rows + 1) ++ uleb_bytes e.unit in
    let size : length (entry_bytes rows e) ≡ length front + 4 = length-append front (u32_bytes e.offset) in
    omega (arith, entries_short rows es, size, length-append (entry_bytes rows e) (flat_map (entry_bytes rows) es))

-- ---- where things begin

-- what stands where an item begins
pub record BeginsAt (items : List (List ℕ)) (k : ℕ) (item : List ℕ) : Type 0 where
  pub place : start_of items k + length item ≤ length (flat_map (λ g. g) items)
  pub rest : List ℕ
  pub is : drop (start_of items k) (flat_map (λ g. g) items) ≡ item ++ rest

pub begins_at : (items : List (List ℕ)) (k : ℕ) (d : List ℕ) → k < length items → BeginsAt items k (get_or items k d)
begins_at [] k d lt = absurd (omega arith)
begins_at (x ∷ xs) zero d lt = record { place = omega (arith, length-append x (flat_map (λ g. g) xs)); rest = flat_map (λ g. g) xs; is = refl }
begins_at (x ∷ xs) (suc k) d lt =
    let r = begins_at xs k d (omega arith) in
    let start : start_of (x ∷ xs) (suc k) ≡ length x + start_of xs k = sum_by-cons length x (take k xs) in
    record {
      place = omega (arith, r.place, start, length-append x (flat_map (λ g. g) xs));
      rest = r.rest;
      is = ap (λ (n : ℕ). drop n (x ++ flat_map (λ g. g) xs)) start ∙ drop-append-add x (flat_map (λ g. g) xs) (start_of xs k) ∙ r.is;
    }
