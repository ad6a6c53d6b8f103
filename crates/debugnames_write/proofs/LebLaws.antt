-- LEB numbers, byte by byte.
use Rattle.std.proofs.Common.{◌≡◌, ℕ, zero, suc, ◌+◌, ◌/◌, ◌%◌, ◌^◌, ◌<◌, ◌≤◌, List, [], ◌∷◌, ◌++◌, length, refl, sym, ap, ◌∙◌, arith, append_assoc, lit≤}
use Rattle.std.proofs.lemmas.Bool.{lt-ltb, le-ltb}
use Rattle.std.proofs.Math.Nat.{pow-suc}
use Rattle.index_model.specs.NameIndex.{uleb_in, uleb_bytes}

-- what is written, and what is left in so many bytes
pub record LeftOf (whole : List ℕ) (written : List ℕ) (rest : ℕ) : Type 0 where
  pub left : ℕ
  pub few : left ≤ 9
  pub small : rest < 128 ^ (suc left)
  pub is : written ++ uleb_in (suc left) rest ≡ whole

pub leb_start : (old : List ℕ) (number : ℕ) → number < 2 ^ 64 → LeftOf (old ++ uleb_bytes number) old number
leb_start old number lt = record { left = 9; few = omega arith; small = omega (arith, wide); is = refl }
  where
    wide : 2 ^ 64 ≤ 128 ^ (suc 9)
    wide = lit≤ tt

last : (left rest : ℕ) → rest < 128 → uleb_in (suc left) rest ≡ rest ∷ []
unfolding uleb_in
last left rest lt = rw (lt-ltb rest 128 lt) refl

next : (left rest : ℕ) → 128 ≤ rest → uleb_in (suc left) rest ≡ (rest % 128 + 128) ∷ uleb_in left (rest / 128)
unfolding uleb_in
next left rest le = rw (le-ltb rest 128 le) refl

-- the last byte
pub leb_end : (whole written : List ℕ) (rest : ℕ) → LeftOf whole written rest → rest < 128 → written ++ rest ∷ [] ≡ whole
leb_end whole written rest h lt = ap (λ (w : List ℕ). written ++ w) (sym (last h.left rest lt)) ∙ h.is

-- one byte more
pub leb_more : (whole written : List ℕ) (rest : ℕ) → LeftOf whole written rest → 128 ≤ rest → LeftOf whole (written ++ (rest % 128 + 128) ∷ []) (rest / 128)
leb_more whole written rest h le = by h.left h.few h.small h.is
  where
    by : (left : ℕ) → left ≤ 9 → rest < 128 ^ (suc left) → written ++ uleb_in (suc left) rest ≡ whole → LeftOf whole (written ++ (rest % 128 + 128) ∷ []) (rest / 128)
    by zero few small is = absurd (let one : 128 ^ suc zero ≡ 128 = refl in omega arith)
    by (suc left) few small is = record {
      left = left;
      few = omega arith;
      small = let p = pow-suc 128 (suc left) in omega (arith, p);
      is = append_assoc written ((rest % 128 + 128) ∷ []) (uleb_in (suc left) (rest / 128)) ∙ ap (λ (w : List ℕ). written ++ w) (sym (next (suc left) rest le)) ∙ is;
    }

-- ---- sizes

-- the bytes so far, and what is left in so many bytes
pub record SizeLeft (whole : ℕ) (size rest : ℕ) : Type 0 where
  pub left : ℕ
  pub few : size + left ≤ 10
  pub small : rest < 128 ^ (suc left)
  pub is : size + length (uleb_in (suc left) rest) ≡ whole + 1

pub size_start : (number : ℕ) → number < 2 ^ 64 → SizeLeft (length (uleb_bytes number)) 1 number
size_start number lt = record { left = 9; few = omega arith; small = omega (arith, wide); is = omega arith }
  where
    wide : 2 ^ 64 ≤ 128 ^ (suc 9)
    wide = lit≤ tt

pub size_end : (whole size rest : ℕ) → SizeLeft whole size rest → rest < 128 → size ≡ whole
size_end whole size rest h lt = let one : length (uleb_in (suc h.left) rest) ≡ 1 = ap (λ (w : List ℕ). length w) (last h.left rest lt) in omega (arith, h.is)

pub size_few : (whole size rest : ℕ) → SizeLeft whole size rest → size ≤ 10
size_few whole size rest h = omega (arith, h.few)

pub size_more : (whole size rest : ℕ) → SizeLeft whole size rest → 128 ≤ rest → SizeLeft whole (size + 1) (rest / 128)
size_more whole size rest h le = by h.left h.few h.small h.is
  where
    by : (left : ℕ) → size + left ≤ 10 → rest < 128 ^ (suc left) → size + length (uleb_in (suc left) rest) ≡ whole + 1 → SizeLeft whole (size + 1) (rest / 128)
    by zero few small is = absurd (let one : 128 ^ suc zero ≡ 128 = refl in omega arith)
    by (suc left) few small is = record {
      left = left;
      few = omega arith;
      small = let p = pow-suc 128 (suc left) in omega (arith, p);
      is = let n : length (uleb_in (suc (suc left)) rest) ≡ suc (length (uleb_in (suc left) (rest / 128))) = ap (λ (w : List ℕ). length w) (next (suc left) rest le) in omega (arith, is);
    }

-- a number below 128 has one byte
pub one_byte : (number : ℕ) → number < 128 → length (uleb_bytes number) ≡ 1
one_byte number lt = ap (λ (w : List ℕ). length w) (last 9 number lt)
