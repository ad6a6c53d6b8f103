-- Tests that say the same, and two tests as one.
use Rattle.std.proofs.Common.{◌≡◌, Bool, true, false, not, ◌&&◌, refl, sym}

-- either is true where the other is
pub same_each_way : (a b : Bool) → (a ≡ true → b ≡ true) → (b ≡ true → a ≡ true) → a ≡ b
same_each_way true b f g = sym (f refl)
same_each_way false true f g = g refl
same_each_way false false f g = refl

-- both, where the first is false
pub first_off : (x y : Bool) → x ≡ false → (x && y) ≡ false
first_off true y is = absurd cc
first_off false y is = refl

-- both, where the first is true
pub first_on : (x y : Bool) → x ≡ true → (x && y) ≡ y
first_on true y is = refl
first_on false y is = absurd cc

-- both, where the second is false
pub second_off : (x y : Bool) → y ≡ false → (x && y) ≡ false
second_off true y is = is
second_off false y is = refl

-- each, where both are true
pub both_on : (x y : Bool) → (x && y) ≡ true → (x ≡ true) × (y ≡ true)
both_on true y is = (refl, is)
both_on false y is = absurd cc

-- no test is true and false
pub not_both_ways : (b : Bool) → not b ≡ true → b ≡ true → ⊥
not_both_ways true off on = cc
not_both_ways false off on = cc
