-- The numbers of a range that are left.
use Rattle.std.proofs.Common.{◌≡◌, ℕ, suc, ◌+◌, ◌-◌, ◌<◌, ◌≤◌, List, [], ◌∷◌, refl, ap, arith}
use Rattle.std.specs.List.{range_with_len}

-- the numbers from i up to n
abbrev pub up_to : ℕ → ℕ → List ℕ
up_to i n = range_with_len i (n - i)

pub up_to_more : (i n : ℕ) → i < n → up_to i n ≡ i ∷ up_to (i + 1) n
up_to_more i n lt =
    let e : n - i ≡ suc (n - (i + 1)) = omega arith in
    rw e refl

pub up_to_none : (i n : ℕ) → n ≤ i → up_to i n ≡ []
up_to_none i n le =
    let e : n - i ≡ 0 = omega arith in
    rw e refl

pub up_to_all : (n : ℕ) → up_to 0 n ≡ range_with_len 0 n
up_to_all n =
    let e : n - 0 ≡ n = omega arith in
    ap (range_with_len 0) e
