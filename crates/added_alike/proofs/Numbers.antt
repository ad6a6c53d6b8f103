-- Numbers of sections and indexes, in their fields or beside them.
use Rattle.std.proofs.Common.{◌≡◌, ℕ, ◌<◌, ◌^◌, Bool, true, false, cond, eqb, ltb, refl, arith}
use Rattle.std.proofs.lemmas.Bool.{ltb-true, ne_eqb}
use Rattle.reach_model.specs.Added.{count_beside, count_field, index_beside, index_field, reserved}

pub count_is_short : (n : ℕ) → count_field n < 2 ^ 16
count_is_short n = by (ltb n reserved) refl
  where
    by : (b : Bool) → ltb n reserved ≡ b → cond b n 0 < 2 ^ 16
    by true e = let lt : n < 0xFF00 = ltb-true n reserved e in omega arith
    by false e = omega arith

pub index_is_short : (n : ℕ) → index_field n < 2 ^ 16
index_is_short n = by (ltb n reserved) refl
  where
    by : (b : Bool) → ltb n reserved ≡ b → cond b n 0xFFFF < 2 ^ 16
    by true e = let lt : n < 0xFF00 = ltb-true n reserved e in omega arith
    by false e = omega arith

pub count_beside_fits : (n : ℕ) → n < 2 ^ 64 → count_beside n < 2 ^ 64
count_beside_fits n lt = by (ltb n reserved)
  where
    by : (b : Bool) → cond b 0 n < 2 ^ 64
    by true = omega arith
    by false = lt

pub index_beside_fits : (n : ℕ) → n < 2 ^ 32 → index_beside n < 2 ^ 32
index_beside_fits n lt = by (ltb n reserved)
  where
    by : (b : Bool) → cond b 0 n < 2 ^ 32
    by true = omega arith
    by false = lt

-- the number is read from its field, or beside it where that is 0
pub count_reads : (n : ℕ) → 0 < n → cond (eqb (count_field n) 0) (count_beside n) (count_field n) ≡ n
count_reads n some = by (ltb n reserved)
  where
    by : (b : Bool) → cond (eqb (cond b n 0) 0) (cond b 0 n) (cond b n 0) ≡ n
    by true = rw (ne_eqb n 0 (λ e. omega arith)) refl
    by false = refl

-- the index is read from its field, or beside it where that is FFFF
pub index_reads : (n : ℕ) → cond (eqb (index_field n) 0xFFFF) (index_beside n) (index_field n) ≡ n
index_reads n = by (ltb n reserved) refl
  where
    by : (b : Bool) → ltb n reserved ≡ b → cond (eqb (cond b n 0xFFFF) 0xFFFF) (cond b 0 n) (cond b n 0xFFFF) ≡ n
    by true e = let lt : n < 0xFF00 = ltb-true n reserved e in rw (ne_eqb n 0xFFFF (λ same. omega arith)) refl
    by false e = refl
