-- Numbers that were written read back.
use Rattle.std.proofs.Common.{◌≡◌, ℕ, zero, suc, ◌+◌, ◌-◌, ◌*◌, ◌/◌, ◌%◌, ◌^◌, ◌<◌, ◌≤◌, true, leb, ltb, List, [], ◌∷◌, ◌++◌, length, take, drop, Some, refl, sym, ap, ◌∙◌, subst, inl, inr, arith, lit≤, length-append, append_assoc}
use Rattle.std.specs.Prelude.{All, flat_map, Option}
use Rattle.std.proofs.lemmas.Bool.{lt-ltb, le-ltb, le-leb, cases_lt}
use Rattle.std.proofs.Math.Seq.{drop-append_seam}
use Rattle.std.proofs.lemmas.List.{take-append-le, take_all}
use Rattle.std.proofs.lemmas.List.Elements.{All-tail}
use Rattle.std.proofs.Math.Nat.{pow-suc}
use Rattle.byteorder.specs.Endian.{little_number}
use Rattle.byteorder.specs.Numbers.{little_number-reads_back}
use Rattle.ix_base.specs.Reading.{Input, number, part, past, unsigned_leb, uleb}
use Rattle.index_model.specs.Layout.{u32_bytes, u16_bytes}
use Rattle.index_model.specs.NameIndex.{uleb_in, uleb_bytes}
use Rattle.index_model.specs.NameTables.{numbers}

-- these bytes, the first of which has this place
abbrev pub from : ℕ → List ℕ → Input
from at rest = record { at = at; rest = rest }

abbrev given : {A : Type 0} → A → Option A
given x = Some x

past_is : (at n : ℕ) (xs tail : List ℕ) → length xs ≡ n → past n (from at (xs ++ tail)) ≡ from (at + n) tail
past_is at n xs tail size = ap (from (at + n)) (ap (λ (k : ℕ). drop k (xs ++ tail)) (sym size) ∙ drop-append_seam xs tail)

pub number_2 : (at n : ℕ) (tail : List ℕ) → n < 65536 → number 2 (from at (u16_bytes n ++ tail)) ≡ Some (n, from (at + 2) tail)
number_2 at n tail lt =
    let there : leb 2 (length (u16_bytes n ++ tail)) ≡ true = le-leb 2 (length (u16_bytes n ++ tail)) (omega arith) in
    let value : little_number 2 (u16_bytes n ++ tail) ≡ n = little_number-reads_back 2 n tail (omega arith) in
    rw (there, value) refl

pub number_4 : (at n : ℕ) (tail : List ℕ) → n < 4294967296 → number 4 (from at (u32_bytes n ++ tail)) ≡ Some (n, from (at + 4) tail)
number_4 at n tail lt =
    let there : leb 4 (length (u32_bytes n ++ tail)) ≡ true = le-leb 4 (length (u32_bytes n ++ tail)) (omega arith) in
    let value : little_number 4 (u32_bytes n ++ tail) ≡ n = little_number-reads_back 4 n tail (omega arith) in
    rw (there, value) refl

-- the bytes of a part, and what stands behind them
pub part_is : (at n : ℕ) (xs tail : List ℕ) → length xs ≡ n → part n (from at (xs ++ tail)) ≡ Some (from at xs, from (at + n) tail)
part_is at n xs tail size =
    let there : leb n (length (xs ++ tail)) ≡ true = le-leb n (length (xs ++ tail)) (omega (arith, length-append xs tail)) in
    let own : take n (xs ++ tail) ≡ xs = take-append-le n xs tail (omega arith) ∙ take_all n xs (omega arith) in
    rw (there, own, past_is at n xs tail size) refl

-- a table of numbers
numbers_step : (n x : ℕ) (xs : List ℕ) (i j k : Input) → number 4 i ≡ Some (x, j) → numbers 4 n j ≡ Some (xs, k) → numbers 4 (suc n) i ≡ Some (x ∷ xs, k)
unfolding numbers
numbers_step n x xs i j k first others = rw (first, others) refl

pub numbers_4 : (at : ℕ) (xs tail : List ℕ) → All (λ x. x < 4294967296) xs → numbers 4 (length xs) (from at (flat_map u32_bytes xs ++ tail)) ≡ Some (xs, from (at + 4 * length xs) tail)
unfolding numbers
numbers_4 at [] tail all = let none : at ≡ at + 4 * 0 = omega arith in ap (λ (k : ℕ). given ([], from k tail)) none
numbers_4 at (x ∷ xs) tail all =
    let apart : (u32_bytes x ++ flat_map u32_bytes xs) ++ tail ≡ u32_bytes x ++ (flat_map u32_bytes xs ++ tail) = append_assoc (u32_bytes x) (flat_map u32_bytes xs) tail in
    let here = number_4 at x (flat_map u32_bytes xs ++ tail) (all 0 x (omega arith)) in
    let more = numbers_4 (at + 4) xs tail (All-tail (λ x. x < 4294967296) x xs all) in
    let end : at + 4 + 4 * length xs ≡ at + 4 * suc (length xs) = omega arith in
    ap (λ (w : List ℕ). numbers 4 (suc (length xs)) (from at w)) apart ∙ numbers_step (length xs) x xs (from at (u32_bytes x ++ (flat_map u32_bytes xs ++ tail))) (from (at + 4) (flat_map u32_bytes xs ++ tail)) (from (at + 4 + 4 * length xs) tail) here more ∙ ap (λ (k : ℕ). given (x ∷ xs, from k tail)) end

-- ---- LEB numbers

leb_last : (most n : ℕ) → n < 128 → uleb_in (suc most) n ≡ n ∷ []
unfolding uleb_in
leb_last most n lt = rw (lt-ltb n 128 lt) refl

leb_next : (most n : ℕ) → 128 ≤ n → uleb_in (suc most) n ≡ (n % 128 + 128) ∷ uleb_in most (n / 128)
unfolding uleb_in
leb_next most n le = rw (le-ltb n 128 le) refl

one_byte : (n : ℕ) (tail : List ℕ) → n < 128 → unsigned_leb (n ∷ tail) ≡ Some (n, 1)
unfolding unsigned_leb
one_byte n tail lt = rw (lt-ltb n 128 lt) refl

one_more : (b v k : ℕ) (bytes : List ℕ) → 128 ≤ b → unsigned_leb bytes ≡ Some (v, k) → unsigned_leb (b ∷ bytes) ≡ Some (b - 128 + 128 * v, k + 1)
unfolding unsigned_leb
one_more b v k bytes le rest = rw (le-ltb b 128 le, rest) refl

-- the bytes of a number, and how many they are
abbrev Reads : List ℕ → ℕ → List ℕ → Type 0
Reads bytes n tail = unsigned_leb (bytes ++ tail) ≡ Some (n, length bytes)

leb_is : (most n : ℕ) (tail : List ℕ) → n < 128 ^ suc most → Reads (uleb_in (suc most) n) n tail
leb_is zero n tail lt =
    let one : 128 ^ suc zero ≡ 128 = refl in
    let low : n < 128 = omega arith in
    subst (λ (w : List ℕ). Reads w n tail) (sym (leb_last zero n low)) (one_byte n tail low)
leb_is (suc most) n tail lt = elim (cases_lt n 128) [
  | inl low ↦ subst (λ (w : List ℕ). Reads w n tail) (sym (leb_last (suc most) n low)) (one_byte n tail low)
  | inr high ↦
      let p = pow-suc 128 (suc most) in
      let bytes : List ℕ = uleb_in (suc most) (n / 128) in
      let rest = leb_is most (n / 128) tail (omega (arith, p)) in
      let whole = one_more (n % 128 + 128) (n / 128) (length bytes) (bytes ++ tail) (omega arith) rest in
      let value : n % 128 + 128 - 128 + 128 * (n / 128) ≡ n = omega arith in
      let size : length bytes + 1 ≡ suc (length bytes) = omega arith in
      subst (λ (w : List ℕ). Reads w n tail) (sym (leb_next (suc most) n high)) (whole ∙ (λ i. Some (value i, size i)))
]

pub uleb_is : (at n : ℕ) (tail : List ℕ) → n < 18446744073709551616 → uleb (from at (uleb_bytes n ++ tail)) ≡ Some (n, from (at + length (uleb_bytes n)) tail)
uleb_is at n tail lt =
    let wide : 18446744073709551616 ≤ 128 ^ (suc 9) = lit≤ tt in
    let read : unsigned_leb (uleb_bytes n ++ tail) ≡ Some (n, length (uleb_bytes n)) = leb_is 9 n tail (omega arith) in
    let fits : ltb n (2 ^ 64) ≡ true = lt-ltb n (2 ^ 64) (omega arith) in
    rw (read, fits, past_is at (length (uleb_bytes n)) (uleb_bytes n) tail refl) refl

-- one byte below 128
pub byte_is : (at n : ℕ) (tail : List ℕ) → n < 128 → uleb (from at (n ∷ tail)) ≡ Some (n, from (at + 1) tail)
byte_is at n tail lt =
    let fits : ltb n (2 ^ 64) ≡ true = lt-ltb n (2 ^ 64) (omega arith) in
    rw (one_byte n tail lt, fits) refl
