-- When the table of section headers and the section of the names lie in the file.
use Rattle.std.proofs.Common.{◌≡◌, ◌+◌, ◌*◌, ◌-◌, ◌<◌, ◌≤◌, ℕ, Bool, true, false, eqb, leb, ltb, List, length, take, drop, Ok, Err, Result, Option, Bor, MatchOption, refl, ap, ◌∙◌, length-drop}
use Rattle.std.proofs.lemmas.Bool.{eqb-true, leb-true, ltb-true, eq-eqb, le-leb, lt-ltb, ne_eqb}
use Rattle.std.proofs.lemmas.List.{drop-drop}
use Rattle.std.proofs.Math.Seq.{take-length}
use Rattle.ix_base.specs.declared.fault.Fault.{Fault}
use Rattle.ix_base.specs.declared.code.TheConstants.{SECTION_TABLE}
use Rattle.index_model.specs.Meaning.{◌>>◌, holds_or}
use Rattle.index_model.specs.Sections.{Header, field, fits, content, names, header, header_at, table_at, section_count, names_index, names_fit, table_fits}
use Rattle.file_image.specs.Headers.{IsRefused, header_of, section_header}

abbrev four : Bool → Bool → Bool → Bool → Fault → Result (record {}) Fault
four a b c d e = holds_or a e >> (holds_or b e >> (holds_or c e >> holds_or d e))

four_fail : (a b c d : Bool) (e : Fault) → (a ≡ true → b ≡ true → c ≡ true → d ≡ true → ⊥) → four a b c d e ≡ Err e
four_fail false b c d e h = refl
four_fail true false c d e h = refl
four_fail true true false d e h = refl
four_fail true true true false e h = refl
four_fail true true true true e h = absurd (h refl refl refl refl)

four_hold : (a b c d : Bool) (e : Fault) → a ≡ true → b ≡ true → c ≡ true → d ≡ true → four a b c d e ≡ Ok (record {})
four_hold a b c d e p q r s = rw (p, q, r, s) refl

-- one of the four tests fails
pub refused : (f : List ℕ) → (field 2 58 f ≡ 64 → table_at f + 64 * section_count f ≤ length f → names_index f < section_count f → names_fit f ≡ true → ⊥) → IsRefused f
unfolding table_fits
refused f h = four_fail _ _ _ _ _ (λ a b c d. h (eqb-true _ _ a) (leb-true _ _ b) (ltb-true _ _ c) d)

-- all of the four tests hold
pub accepted : (f : List ℕ) → field 2 58 f ≡ 64 → table_at f + 64 * section_count f ≤ length f → names_index f < section_count f → names_fit f ≡ true → table_fits f ≡ Ok (record {})
unfolding table_fits
accepted f a b c d = four_hold _ _ _ _ _ (eq-eqb _ _ a) (le-leb _ _ b) (lt-ltb _ _ c) d

-- without a table there are no sections
pub no_sections : (f : List ℕ) → table_at f ≡ 0 → section_count f ≡ 0
unfolding section_count
no_sections f e = rw e refl

-- what the four tests say, where they hold
four_held : (a b c d : Bool) (e : Fault) → four a b c d e ≡ Ok (record {}) → (a ≡ true) × (b ≡ true) × (c ≡ true) × (d ≡ true)
four_held true true true true e h = (refl, refl, refl, refl)
four_held false b c d e h = absurd cc
four_held true false c d e h = absurd cc
four_held true true false d e h = absurd cc
four_held true true true false e h = absurd cc

-- the section of the names is one of the sections
pub has_names : (f : List ℕ) → table_fits f ≡ Ok (record {}) → names_index f < section_count f
unfolding table_fits
has_names f h = ltb-true _ _ (four_held (eqb (field 2 58 f) 64) (leb (table_at f + 64 * section_count f) (length f)) (ltb (names_index f) (section_count f)) (names_fit f) (record { code = SECTION_TABLE; at = 0 }) h).2

-- what readers of sections ask of a header that was read whole
pub header_is : (bytes : List ℕ) → header_of (section_header bytes) ≡ header bytes
unfolding section_header header
header_is bytes = refl

-- a header by its place in the table
pub header_in_table : (f headers : List ℕ) (i : ℕ) → headers ≡ drop (table_at f) f → header (take 64 (drop (64 * i) headers)) ≡ header_at f i
unfolding header_at
header_in_table f headers i e = rw e (ap (λ (l : List ℕ). header (take 64 l)) (drop-drop (64 * i) (table_at f) f))

-- the section of the names, where it isn't section 0
pub names_elsewhere : (f : List ℕ) (i : ℕ) (h : Header) (r : Option (Bor (List ℕ))) → i ≡ names_index f → (i ≡ 0 → ⊥) → h ≡ header_at f i → MatchOption r (fits f h ≡ false) (λ bytes. (fits f h ≡ true) × (bytes.now ≡ content f h)) → MatchOption r (names_fit f ≡ false) (λ bytes. (names_fit f ≡ true) × (bytes.now ≡ names f))
names_elsewhere f i h r e some he m =
    let g : eqb (names_index f) 0 ≡ false = ne_eqb _ _ (λ z. some (e ∙ z)) in
    let at : h ≡ header_at f (names_index f) = he ∙ ap (header_at f) e in
    rw (g, ← at) m

-- what a slice from a place on is
pub rest_is : {A : Type 0} (n : ℕ) (xs : List A) → take (length xs - n) (drop n xs) ≡ drop n xs
rest_is n xs = rw (← length-drop n xs) (take-length (drop n xs))
