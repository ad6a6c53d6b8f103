-- Lists that belong together, and readings of their parts.
use Rattle.std.proofs.Common.{◌≡◌, ℕ, zero, suc, ◌+◌, ◌<◌, ◌≤◌, List, [], ◌∷◌, ◌++◌, flat_map, length, take, drop, length-append, Result, Ok, Err, refl, sym, ap, subst, ◌∙◌, arith}
use Rattle.std.specs.Prelude.{IsOkAnd, slice_get, unwrap_or}
use Rattle.std.specs.List.{AllZip}
use Rattle.std.proofs.lemmas.List.{take-append-le}
use Rattle.std.proofs.Math.Seq.{take-length, drop-append-add}
use Rattle.ix_base.specs.declared.fault.Fault.{Fault}
use Rattle.index_model.specs.Meaning.{each}
use Rattle.parent_resolve.proofs.CutFile.{each_of_two}

-- the parts, one after the other
abbrev pub joined : {A : Type 0} → List (List A) → List A
joined parts = flat_map (λ part. part) parts

-- the part at a place, or none
abbrev pub part_at : {A : Type 0} → List (List A) → ℕ → List A
part_at parts k = unwrap_or (slice_get parts k) []

pub ok_and : {A : Type 0} (r : Result A Fault) (P : A → Type 0) → IsOkAnd r P → (x : A) × (r ≡ Ok x) × P x
ok_and (Ok x) P h = (x, refl, h)
ok_and (Err e) P h = absurd h

pub and_ok : {A : Type 0} (r : Result A Fault) (x : A) (P : A → Type 0) → r ≡ Ok x → P x → IsOkAnd r P
and_ok r x P is h = subst (λ (q : Result _ Fault). IsOkAnd q P) (sym is) h

pub at_ok : {A : Type 0} (r : Result A Fault) (x : A) (P : A → Type 0) → r ≡ Ok x → IsOkAnd r P → P x
at_ok r x P is h = subst (λ (q : Result _ Fault). IsOkAnd q P) is h

-- ---- lists that belong together

module _ {A B : Type 0} (R : A → B → Type 0) where
  pub zip_length : (xs : List A) (ys : List B) → AllZip R xs ys → length xs ≡ length ys
  zip_length [] [] z = refl
  zip_length [] (y ∷ ys) z = absurd z
  zip_length (x ∷ xs) [] z = absurd z
  zip_length (x ∷ xs) (y ∷ ys) z = ap suc (zip_length xs ys z.1)

-- the parts at a place belong together
pub zip_parts : {A B : Type 0} (R : List A → List B → Type 0) (xs : List (List A)) (ys : List (List B)) → AllZip R xs ys → (k : ℕ) → k < length xs → R (part_at xs k) (part_at ys k)
zip_parts R [] ys z k lt = absurd (omega (arith, lt))
zip_parts R (x ∷ xs) [] z k lt = absurd z
zip_parts R (x ∷ xs) (y ∷ ys) z zero lt = z.0
zip_parts R (x ∷ xs) (y ∷ ys) z (suc k) lt = zip_parts R xs ys z.1 k (omega (arith, lt))

-- ---- readings of parts

module _ {A B : Type 0} (g : A → Result B Fault) where
  -- what the parts give, one after the other
  pub each_joined : (xss : List (List A)) (yss : List (List B)) → AllZip (λ xs ys. each g xs ≡ Ok ys) xss yss → each g (joined xss) ≡ Ok (joined yss)
  each_joined [] [] z = refl
  each_joined [] (ys ∷ yss) z = absurd z
  each_joined (xs ∷ xss) [] z = absurd z
  each_joined (xs ∷ xss) (ys ∷ yss) z = each_of_two g xs (joined xss) ys (joined yss) z.0 (each_joined xss yss z.1)

-- ---- where a part stands

module _ {A : Type 0} where
  take_front : (xs ys : List A) → take (length xs) (xs ++ ys) ≡ xs
  take_front xs ys = take-append-le (length xs) xs ys (omega arith) ∙ take-length xs

  -- the items behind the parts before it, as many as it has
  pub part_is : (parts : List (List A)) (k : ℕ) → take (length (part_at parts k)) (drop (length (joined (take k parts))) (joined parts)) ≡ part_at parts k
  part_is [] zero = refl
  part_is [] (suc k) = refl
  part_is (p ∷ ps) zero = take_front p (joined ps)
  part_is (p ∷ ps) (suc k) =
      let front = joined (take k ps) in
      ap (λ (n : ℕ). take (length (part_at ps k)) (drop n (p ++ joined ps))) (length-append p front) ∙
      ap (take (length (part_at ps k))) (drop-append-add p (joined ps) (length front)) ∙ part_is ps k

  pub part_within : (parts : List (List A)) (k : ℕ) → length (joined (take k parts)) + length (part_at parts k) ≤ length (joined parts)
  part_within [] zero = omega arith
  part_within [] (suc k) = omega arith
  part_within (p ∷ ps) zero = omega (arith, length-append p (joined ps))
  part_within (p ∷ ps) (suc k) = omega (arith, length-append p (joined ps), length-append p (joined (take k ps)), part_within ps k)
