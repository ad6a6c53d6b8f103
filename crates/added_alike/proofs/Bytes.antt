-- Bytes at a place, by what stands before and behind.
use Rattle.std.proofs.Common.{◌≡◌, ℕ, ◌+◌, ◌<◌, ◌≤◌, ◌^◌, Bool, List, [], ◌++◌, length, take, drop, refl, sym, ap, ◌∙◌, arith, nat_eq}
use Rattle.std.proofs.lemmas.List.{append_assoc, append-nil, length-append, length-drop, length-take-le, take-append-le, drop-append-le, take-take}
use Rattle.std.proofs.Math.Seq.{drop-append-add}
use lib.Pointwise.{pointwise}
use Rattle.byteorder.specs.Endian.{little_number, little_bytes}
use Rattle.byteorder.specs.Numbers.{little_from-take, little_number-reads_back, length-bytes_low_first}
use Rattle.index_model.specs.Sections.{begins_with, bytes_from, field}

pub length-little_bytes : (n v : ℕ) → length (little_bytes n v) ≡ n
length-little_bytes n v = length-bytes_low_first 0 n v

-- ---- what stands where

-- the bytes begin with these
pub record Begins (front bytes : List ℕ) : Type 0 where
  pub behind : List ℕ
  pub is : bytes ≡ front ++ behind

pub begins_itself : (xs : List ℕ) → Begins xs xs
begins_itself xs = record { behind = []; is = sym (append-nil xs) }

pub begins_first : (xs ys : List ℕ) → Begins xs (xs ++ ys)
begins_first xs ys = record { behind = ys; is = refl }

pub begins_on : {xs ys zs : List ℕ} → Begins xs ys → Begins ys zs → Begins xs zs
begins_on {xs} {ys} {zs} a b = record { behind = a.behind ++ b.behind; is = b.is ∙ ap (λ (w : List ℕ). w ++ b.behind) a.is ∙ append_assoc xs a.behind b.behind }

pub begins_length : {xs ys : List ℕ} → Begins xs ys → length xs ≤ length ys
begins_length {xs} {ys} a = omega (arith, ap length a.is, length-append xs a.behind)

-- ---- bytes from a place on

pub from_front : (p n : ℕ) (xs ys : List ℕ) → p + n ≤ length xs → bytes_from p n (xs ++ ys) ≡ bytes_from p n xs
from_front p n xs ys le = ap (take n) (drop-append-le p xs ys (omega arith)) ∙ take-append-le n (drop p xs) ys (omega (arith, length-drop p xs))

pub from_begins : (p n : ℕ) {xs ys : List ℕ} → Begins xs ys → p + n ≤ length xs → bytes_from p n ys ≡ bytes_from p n xs
from_begins p n {xs} {ys} a le = ap (bytes_from p n) a.is ∙ from_front p n xs a.behind le

pub drop_behind : (p n : ℕ) (xs ys : List ℕ) → length xs + n ≡ p → drop p (xs ++ ys) ≡ drop n ys
drop_behind p n xs ys is = ap (λ (k : ℕ). drop k (xs ++ ys)) (sym is) ∙ drop-append-add xs ys n

pub length_from : (p n : ℕ) (xs : List ℕ) → p + n ≤ length xs → length (bytes_from p n xs) ≡ n
length_from p n xs le = length-take-le n (drop p xs) (omega (arith, length-drop p xs))

-- ---- numbers

pub field_by_bytes : (n p : ℕ) (xs : List ℕ) → field n p xs ≡ little_number n (bytes_from p n xs)
unfolding field
field_by_bytes n p xs = sym (little_from-take 0 n n (drop p xs) (omega arith))

-- equal bytes are equal numbers
pub same_field : (n p : ℕ) (xs ys : List ℕ) → bytes_from p n xs ≡ bytes_from p n ys → field n p xs ≡ field n p ys
same_field n p xs ys e = field_by_bytes n p xs ∙ ap (little_number n) e ∙ sym (field_by_bytes n p ys)

-- a number where its bytes stand
pub field_there : (n p v : ℕ) (xs tail : List ℕ) → v < 256 ^ n → drop p xs ≡ little_bytes n v ++ tail → field n p xs ≡ v
unfolding field
field_there n p v xs tail lt is = ap (little_number n) is ∙ little_number-reads_back n v tail lt

-- what bytes begin with is seen in the first of them
pub same_start : (start xs ys : List ℕ) (n : ℕ) → length start ≤ n → bytes_from 0 n xs ≡ bytes_from 0 n ys → begins_with start xs ≡ begins_with start ys
same_start start xs ys n le e =
    let a = take-take (length start) n xs le in
    let b = take-take (length start) n ys le in
    ap (λ (w : List ℕ). begins start w) (sym a ∙ ap (take (length start)) e ∙ b)
  where
    begins : List ℕ → List ℕ → Bool
    begins s w = pointwise nat_eq s w
