-- Lists of 64 bytes each, one after the other.
use Rattle.std.proofs.Common.{◌≡◌, ℕ, zero, suc, ◌+◌, ◌*◌, ◌<◌, ◌≤◌, List, ◌++◌, length, take, drop, flat_map, refl, ap, ◌∙◌, arith}
use Rattle.std.specs.List.{range_with_len}
use Rattle.std.proofs.lemmas.List.{append_assoc, length-append, take_at}
use Rattle.index_model.specs.Sections.{bytes_from}
use Rattle.added_alike.proofs.Bytes.{drop_behind}

module _ (f : ℕ → List ℕ) where
  -- the lists of n numbers from a on have 64 bytes
  abbrev pub HaveSixtyFour : ℕ → ℕ → Type 0
  HaveSixtyFour a n = (k : ℕ) → a ≤ k → k < a + n → length (f k) ≡ 64

  later : (a n : ℕ) → HaveSixtyFour a (suc n) → HaveSixtyFour (a + 1) n
  later a n sizes k from below = sizes k (omega arith) (omega arith)

  pub length_of_all : (a n : ℕ) → HaveSixtyFour a n → length (flat_map f (range_with_len a n)) ≡ 64 * n
  length_of_all a zero sizes = refl
  length_of_all a (suc n) sizes = omega (arith, length-append (f a) (flat_map f (range_with_len (a + 1) n)), sizes a (omega arith) (omega arith), length_of_all (a + 1) n (later a n sizes))

  -- the list at an index
  pub list_at : (a n i : ℕ) (tail : List ℕ) → HaveSixtyFour a n → i < n → bytes_from (64 * i) 64 (flat_map f (range_with_len a n) ++ tail) ≡ f (a + i)
  list_at a zero i tail sizes lt = absurd (omega arith)
  list_at a (suc n) zero tail sizes lt =
      let e : a ≡ a + 0 = omega arith in
      ap (take 64) (append_assoc (f a) (flat_map f (range_with_len (a + 1) n)) tail) ∙ take_at (f a) (flat_map f (range_with_len (a + 1) n) ++ tail) 64 (sizes a (omega arith) (omega arith)) ∙ ap f e
  list_at a (suc n) (suc i) tail sizes lt =
      let e : a + 1 + i ≡ a + suc i = omega arith in
      let size : length (f a) + 64 * i ≡ 64 * suc i = omega (arith, sizes a (omega arith) (omega arith)) in
      ap (bytes_from (64 * suc i) 64) (append_assoc (f a) (flat_map f (range_with_len (a + 1) n)) tail)
      ∙ ap (take 64) (drop_behind (64 * suc i) (64 * i) (f a) (flat_map f (range_with_len (a + 1) n) ++ tail) size)
      ∙ list_at (a + 1) n i tail (later a n sizes) (omega arith)
      ∙ ap f e

  -- what stands behind them
  pub behind_all : (a n : ℕ) (tail : List ℕ) → HaveSixtyFour a n → drop (64 * n) (flat_map f (range_with_len a n) ++ tail) ≡ tail
  behind_all a n tail sizes = drop_behind (64 * n) 0 (flat_map f (range_with_len a n)) tail (omega (arith, length_of_all a n sizes))
