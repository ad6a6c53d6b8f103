-- The bytes of a section by its header.
use Rattle.std.proofs.Common.{◌≡◌, ℕ, ◌+◌, ◌≤◌, Bool, true, false, cond, eqb, ◌||◌, leb, List, [], ◌∷◌, length, refl, ap, ◌∙◌, arith}
use Rattle.std.proofs.lemmas.Bool.{eqb-true, le-leb, leb-true}
use Rattle.index_model.specs.Sections.{Header, bytes_from, content, fits, is_empty}
use Rattle.added_alike.proofs.HeaderFields.{has_no_bits}
use Rattle.added_alike.proofs.Placed.{StandsAt}

-- whether a header with bits has no bytes
empty_by_size : (a b c : Bool) → (a || b) ≡ false → (a || b || c) ≡ c
empty_by_size true b c is = absurd cc
empty_by_size false true c is = absurd cc
empty_by_size false false c is = refl

pub or_true : (a : Bool) → (a || true) ≡ true
or_true true = refl
or_true false = refl

or_false : (a b : Bool) → (a || b) ≡ true → a ≡ false → b ≡ true
or_false true b is off = absurd cc
or_false false b is off = is

fits_within : (f : List ℕ) (h : Header) → h.at + h.size ≤ length f → fits f h ≡ true
fits_within f h le = ap (λ (b : Bool). is_empty h || b) (le-leb _ _ le) ∙ or_true (is_empty h)

-- nothing is the whole of no bytes
none_of_size : (part : List ℕ) → length part ≡ 0 → [] ≡ part
none_of_size [] e = refl
none_of_size (x ∷ xs) e = absurd (omega arith)

module _ (f : List ℕ) (h : Header) (part : List ℕ) (bits : has_no_bits h.kind ≡ false) (size : h.size ≡ length part) (stands : StandsAt h.at part f) where
  by_size : (b : Bool) → eqb (length part) 0 ≡ b → cond b [] (bytes_from h.at (length part) f) ≡ part
  by_size true e = none_of_size part (eqb-true (length part) 0 e)
  by_size false e = stands.is

  -- a header with bits has the bytes where they stand
  pub content_there : content f h ≡ part
  content_there =
      ap (λ (b : Bool). cond b [] (bytes_from h.at h.size f)) (empty_by_size (eqb h.kind 0) (eqb h.kind 8) (eqb h.size 0) bits)
      ∙ ap (λ (n : ℕ). cond (eqb n 0) [] (bytes_from h.at n f)) size
      ∙ by_size (eqb (length part) 0) refl

  pub fits_there : fits f h ≡ true
  fits_there = fits_within f h (omega (arith, size, stands.within))

-- the bytes of a section behind the ELF header, in a file that has them too
module _ (f g : List ℕ) (h : Header) (fit : fits f h ≡ true) (clear : is_empty h ≡ false → 64 ≤ h.at) (size : length f ≤ length g) (same : (p n : ℕ) → 64 ≤ p → p + n ≤ length f → bytes_from p n g ≡ bytes_from p n f) where
  inside : is_empty h ≡ false → h.at + h.size ≤ length f
  inside e = leb-true (h.at + h.size) (length f) (or_false (is_empty h) (leb (h.at + h.size) (length f)) fit e)

  content_by : (b : Bool) → is_empty h ≡ b → cond b [] (bytes_from h.at h.size g) ≡ cond b [] (bytes_from h.at h.size f)
  content_by true e = refl
  content_by false e = same h.at h.size (clear e) (inside e)

  pub content_stays : content g h ≡ content f h
  content_stays = content_by (is_empty h) refl

  fits_by : (b : Bool) → is_empty h ≡ b → (b || leb (h.at + h.size) (length g)) ≡ true
  fits_by true e = refl
  fits_by false e = let i = inside e in le-leb _ _ (omega (arith, i))

  pub fits_still : fits g h ≡ true
  fits_still = fits_by (is_empty h) refl
