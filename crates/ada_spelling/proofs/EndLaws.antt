-- Where a text begins, and where the numbers at the end do, step by step.
use Rattle.std.proofs.Common.{◌≡◌, ℕ, suc, ◌+◌, ◌-◌, ◌<◌, ◌≤◌, List, [], ◌∷◌, length, drop, refl, ap, arith}
use Rattle.std.specs.Prelude.{true, false, if◌then◌else◌, Some, None}
use Rattle.std.proofs.lemmas.List.{drop_more, drop_all}
use Rattle.ada_spelling.specs.Bytes.{begins_with}
use Rattle.ada_spelling.specs.Ends.{place_from, is_of_numbers, numbers_start}

-- ---- the place of a text

found : (text : List ℕ) (at b : ℕ) (bs : List ℕ) → begins_with text (b ∷ bs) ≡ true → place_from text at (b ∷ bs) ≡ Some at
unfolding place_from
found text at b bs e = rw e refl

pub later : (text : List ℕ) (at b : ℕ) (bs : List ℕ) → begins_with text (b ∷ bs) ≡ false → place_from text at (b ∷ bs) ≡ place_from text (at + 1) bs
unfolding place_from
later text at b bs e = rw e refl

pub nowhere : (text : List ℕ) (at : ℕ) → place_from text at [] ≡ None
unfolding place_from
nowhere text at = refl

pub place_here : (text name : List ℕ) (at : ℕ) → at < length name → begins_with text (drop at name) ≡ true → place_from text at (drop at name) ≡ Some at
place_here text name at h e = let d = drop_more name at 0 h in rw d (found text at _ _ (rw d at e))

pub place_more :
    (text name : List ℕ) (at : ℕ) → at < length name → begins_with text (drop at name) ≡ false
    → place_from text at (drop at name) ≡ place_from text (at + 1) (drop (at + 1) name)
place_more text name at h e = let d = drop_more name at 0 h in rw d (later text at _ _ (rw d at e))

pub place_none : (text name : List ℕ) (at : ℕ) → length name ≤ at → place_from text at (drop at name) ≡ None
place_none text name at h = rw (drop_all at name h) (nowhere text at)

-- ---- the numbers at the end

one_less : (name : List ℕ) (n : ℕ) → 0 < n → numbers_start name n ≡ (if is_of_numbers name (n - 1) then numbers_start name (n - 1) else suc (n - 1))
unfolding numbers_start
one_less name n h = let e : n ≡ suc (n - 1) = omega arith in ap (λ m. numbers_start name m) e

-- what belongs to the numbers is passed
pub numbers_more : (name : List ℕ) (n : ℕ) → 0 < n → is_of_numbers name (n - 1) ≡ true → numbers_start name n ≡ numbers_start name (n - 1)
numbers_more name n h e = rw (one_less name n h, e) refl

-- they begin behind what doesn't
pub numbers_here : (name : List ℕ) (n : ℕ) → 0 < n → is_of_numbers name (n - 1) ≡ false → numbers_start name n ≡ n
numbers_here name n h e = let s : suc (n - 1) ≡ n = omega arith in rw (one_less name n h, e) s

pub numbers_all : (name : List ℕ) (n : ℕ) → n ≡ 0 → numbers_start name n ≡ n
unfolding numbers_start
numbers_all name n e = rw e refl
