-- Quoted names are one line, and can be read back.
use Rattle.std.proofs.Common.{◌≡◌, ℕ, ◌+◌, ◌*◌, ◌/◌, ◌%◌, ◌<◌, ◌≤◌, ◌++◌, Bool, true, false, cond, ltb, List, [], ◌∷◌, refl, ap, ◌∙◌, arith}
use Rattle.std.specs.Prelude.{◌≢◌}
use Rattle.std.specs.Fmt.{digit_glyph}
use Rattle.std.specs.List.{AllByRecursion}
use Rattle.std.proofs.lemmas.Bool.Decides.{nat_tests}
use Rattle.name_quotes.specs.Quotes.{AtByte, QuotedNamesAreOneLine, QuotedNamesReadBack, digit_value, escaped, is_shown, quoted, read_from}

-- ---- digits

abbrev InRange : ℕ → Type 0
InRange g = (48 ≤ g) × (g < 103)

glyph_by : (d : ℕ) (t : Bool) → ltb d 10 ≡ t → d < 16 → InRange (cond t (48 + d) (87 + d))
glyph_by d true e lt = (omega arith, grind (arith, nat_tests, e))
glyph_by d false e lt = (omega arith, omega (arith, lt))

glyph_in : (d : ℕ) → d < 16 → InRange (digit_glyph false d)
glyph_in d lt = glyph_by d (ltb d 10) refl lt

value_by : (d : ℕ) (t : Bool) → ltb d 10 ≡ t → digit_value (cond t (48 + d) (87 + d)) ≡ d
value_by d true e = grind (arith, nat_tests, e)
value_by d false e = grind (arith, nat_tests, e)

value_of : (d : ℕ) → digit_value (digit_glyph false d) ≡ d
value_of d = value_by d (ltb d 10) refl

-- ---- one line

abbrev IsNoControl : ℕ → Type 0
IsNoControl b = (32 ≤ b) × (b ≢ 127)

no_control : (g : ℕ) → InRange g → IsNoControl g
no_control g h = (omega (arith, h.0), λ e. omega (arith, h.1, e))

module _ (b : ℕ) (bs : List ℕ) (all : AllByRecursion IsNoControl bs) where
  shown_by : (t : Bool) → is_shown b ≡ t → AllByRecursion IsNoControl (cond t (b ∷ []) (escaped b) ++ bs)
  shown_by true e = ((grind (arith, nat_tests, e), grind (arith, nat_tests, e)), all)
  shown_by false e = (
    (omega arith, λ f. omega (arith, f)),
    ((omega arith, λ f. omega (arith, f)), (no_control (digit_glyph false (b / 16)) (glyph_in (b / 16) high), (no_control (digit_glyph false (b % 16)) (glyph_in (b % 16) (omega arith)), all))),
  )
    where
      small : b ≤ 127
      small = grind (arith, nat_tests, e)

      high : b / 16 < 16
      high = omega (arith, small)

pub one_line : QuotedNamesAreOneLine
unfolding quoted
one_line [] = tt
one_line (b ∷ bs) = shown_by b (quoted bs) (one_line bs) (is_shown b) refl

-- ---- read back

module _ (b : ℕ) (rest : List ℕ) where
  read_by : (t : Bool) → is_shown b ≡ t → read_from AtByte (cond t (b ∷ []) (escaped b) ++ rest) ≡ b ∷ read_from AtByte rest
  unfolding read_from
  read_by true e = grind (arith, nat_tests, e)
  read_by false e = ap (λ (n : ℕ). n ∷ read_from AtByte rest) (both (value_of (b / 16)) (value_of (b % 16)))
    where
      both : digit_value (digit_glyph false (b / 16)) ≡ b / 16 → digit_value (digit_glyph false (b % 16)) ≡ b % 16 → 16 * digit_value (digit_glyph false (b / 16)) + digit_value (digit_glyph false (b % 16)) ≡ b
      both p q = omega (arith, p, q)

pub reads_back : QuotedNamesReadBack
unfolding quoted read_from
reads_back [] = refl
reads_back (b ∷ bs) = read_by b (quoted bs) (is_shown b) refl ∙ ap (λ (l : List ℕ). b ∷ l) (reads_back bs)
