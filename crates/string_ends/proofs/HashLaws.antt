-- The hashes of names, from the last byte to the first.
use Rattle.std.proofs.Common.{◌≡◌, ℕ, ◌+◌, ◌-◌, ◌*◌, ◌^◌, ◌%◌, ◌<◌, List, [], ◌∷◌, sym, ap, ◌∙◌, arith}
use Rattle.std.specs.Prelude.{fold}
use Rattle.std.proofs.lemmas.Nat.{mod_below, mul-mod_first, mul-mod_second}
use Rattle.std.proofs.Math.Nat.{add-mod-mod, mod-add-mod, mod-eq_of_lt}
use Rattle.index_model.specs.Hashes.{gdb_hash, name_hash, lower}
use Rattle.string_ends.specs.declared.formula.Formula.{Formula}
use Rattle.string_ends.specs.declared.formula.Formula.TheVariants.{GdbIndex, NameIndex}
use Rattle.string_ends.specs.Formulas.{factor, hash_by, start, sum_by, term, weight}

-- ---- remainders

pub times_remainder : (x w s n : ℕ) → (x % n * w + s) % n ≡ (x * w + s) % n
times_remainder x w s n = sym (mod-add-mod (x % n * w) n s) ∙ ap (λ (y : ℕ). (y + s) % n) (mul-mod_first x w n) ∙ mod-add-mod (x * w) n s

remainder_times : (r y s n : ℕ) → (r * (y % n) + s) % n ≡ (r * y + s) % n
remainder_times r y s n = sym (mod-add-mod (r * (y % n)) n s) ∙ ap (λ (z : ℕ). (z + s) % n) (mul-mod_second r y n) ∙ mod-add-mod (r * y) n s

-- ---- a hash as a sum

module _ (m : ℕ) (term : ℕ → ℕ) where
  abbrev next : ℕ → ℕ → ℕ
  next r b = (r * m + term b) % 2 ^ 32

  by_sum : (r : ℕ) (bs : List ℕ) → fold next r bs % 2 ^ 32 ≡ (r * weight m bs + sum_by m term bs) % 2 ^ 32
  by_sum r [] = let same : r ≡ r * 1 + 0 = omega arith in ap (λ (x : ℕ). x % 2 ^ 32) same
  by_sum r (b ∷ bs) = by_sum (next r b) bs ∙ times_remainder (r * m + term b) (weight m bs) (sum_by m term bs) (2 ^ 32) ∙ one_more (weight m bs) (sum_by m term bs)
    where
      one_more : (w s : ℕ) → ((r * m + term b) * w + s) % 2 ^ 32 ≡ (r * ((w * m) % 2 ^ 32) + (term b * w + s) % 2 ^ 32) % 2 ^ 32
      one_more w s =
          let same : (r * m + term b) * w + s ≡ r * (w * m) + (term b * w + s) = omega arith in
          ap (λ (x : ℕ). x % 2 ^ 32) same
          ∙ sym (remainder_times r (w * m) (term b * w + s) (2 ^ 32))
          ∙ sym (add-mod-mod (r * ((w * m) % 2 ^ 32)) (term b * w + s) (2 ^ 32))

  small : (r : ℕ) (bs : List ℕ) → r < 2 ^ 32 → fold next r bs < 2 ^ 32
  small r [] lt = lt
  small r (b ∷ bs) lt = small (next r b) bs (mod_below _ (2 ^ 32) (omega arith))

  pub sum_is : (r : ℕ) (bs : List ℕ) → r < 2 ^ 32 → fold next r bs ≡ (r * weight m bs + sum_by m term bs) % 2 ^ 32
  sum_is r bs lt = sym (mod-eq_of_lt (small r bs lt)) ∙ by_sum r bs

gdb_step : (r c : ℕ) → (r * 67 + lower c + 2 ^ 32 - 113) % 2 ^ 32 ≡ (r * 67 + (lower c + 2 ^ 32 - 113)) % 2 ^ 32
gdb_step r c = by (lower c)
  where
    by : (l : ℕ) → (r * 67 + l + 2 ^ 32 - 113) % 2 ^ 32 ≡ (r * 67 + (l + 2 ^ 32 - 113)) % 2 ^ 32
    by l = let same : r * 67 + l + 2 ^ 32 - 113 ≡ r * 67 + (l + 2 ^ 32 - 113) = omega arith in ap (λ (x : ℕ). x % 2 ^ 32) same

-- the hash of a name by what a tail keeps of it
pub hash_is : (formula : Formula) (name : List ℕ) → hash_by formula name ≡ (start formula * weight (factor formula) name + sum_by (factor formula) (term formula) name) % 2 ^ 32
unfolding gdb_hash name_hash
hash_is GdbIndex name = (λ i. fold (λ r c. gdb_step r c i) 0 name) ∙ sum_is 67 (λ c. lower c + 2 ^ 32 - 113) 0 name (omega arith)
hash_is NameIndex name = sum_is 33 (λ c. lower c) 5381 name (omega arith)
