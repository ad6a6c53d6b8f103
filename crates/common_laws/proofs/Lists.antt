-- Lists that are mapped, joined and read at a place.
use Rattle.std.proofs.Common.{◌≡◌, ℕ, zero, suc, ◌+◌, ◌*◌, ◌<◌, List, [], ◌∷◌, ◌++◌, length, get_or, map, flat_map, Some, refl, arith, append_assoc, length-append, Bool, true, sym, false}
use Rattle.std.proofs.lemmas.Bool.{true≢false}
use Rattle.std.specs.List.{AllZip, range_with_len, list_any, position_or_len}
use Rattle.std.specs.Prelude.{slice_get}

-- the item of a map at a place
pub slice_of_map : {A B : Type 0} (f : A → B) (xs : List A) (k : ℕ) (d : A) → k < length xs → slice_get (map f xs) k ≡ Some (f (get_or xs k d))
slice_of_map f [] k d lt = absurd (omega arith)
slice_of_map f (x ∷ xs) zero d lt = refl
slice_of_map f (x ∷ xs) (suc k) d lt = slice_of_map f xs k d (omega (arith, lt))

-- two maps of a range that agree on its numbers
pub map_agree : {X : Type 0} (f g : ℕ → X) (a n : ℕ) → ((k : ℕ) → k < a + n → f k ≡ g k) → map f (range_with_len a n) ≡ map g (range_with_len a n)
map_agree f g a zero same = refl
map_agree f g a (suc n) same = rw (same a (omega arith), map_agree f g (a + 1) n (λ k lt. same k (omega (arith, lt)))) refl

-- two pairs of lists that go together, joined
pub all_zip_append : {A B : Type 0} (R : A → B → Type 0) (xs : List A) (ys : List B) (us : List A) (vs : List B) → AllZip R xs ys → AllZip R us vs → AllZip R (xs ++ us) (ys ++ vs)
all_zip_append R [] [] us vs h k = k
all_zip_append R [] (y ∷ ys) us vs h k = absurd h
all_zip_append R (x ∷ xs) [] us vs h k = absurd h
all_zip_append R (x ∷ xs) (y ∷ ys) us vs h k = (h.0, all_zip_append R xs ys us vs h.1 k)

-- items of four bytes each
pub length_of_fours : {X : Type 0} (f : X → List ℕ) (xs : List X) → ((x : X) → length (f x) ≡ 4) → length (flat_map f xs) ≡ length xs * 4
length_of_fours f [] four = refl
length_of_fours f (x ∷ xs) four = omega (arith, length_of_fours f xs four, length-append (f x) (flat_map f xs), four x)

-- what stands before and behind the two middle parts joins them
pub regrouped : (a b c d e : List ℕ) → a ++ ((b ++ (c ++ d)) ++ e) ≡ (a ++ b) ++ (c ++ (d ++ e))
regrouped a b c d e = simp append_assoc

-- ---- the first that passes

-- where one passes, the first one stands in the list
pub position_within : {X : Type 0} (p : X → Bool) (xs : List X) → list_any p xs ≡ true → position_or_len p xs < length xs
position_within p [] some = absurd (true≢false (sym some))
position_within p (x ∷ xs) some = by (p x) refl (position_within p xs)
  where
    by : (b : Bool) → p x ≡ b → (list_any p xs ≡ true → position_or_len p xs < length xs) → position_or_len p (x ∷ xs) < length (x ∷ xs)
    by true e rest = rw e (omega arith)
    by false e rest = let more : list_any p xs ≡ true = rw e at some in let lt = rest more in rw e (omega (arith, lt))
