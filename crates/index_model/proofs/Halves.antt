-- Binary searches in a list whose keys don't fall.
use Rattle.std.proofs.Common.{◌≡◌, ℕ, zero, suc, ◌+◌, ◌<◌, ◌≤◌, Bool, true, false, List, [], ◌∷◌, length, get_or, Option, Some, refl, sym, ap, ◌∙◌, arith}
use Rattle.std.specs.Prelude.{slice_get}
use Rattle.std.specs.Option.{option_map}
use Rattle.std.specs.List.Sorted.{IsNonDecreasingBy}
use Rattle.std.proofs.lemmas.Bool.{ltb-true, ltb-false, leb-true, leb-false}
use Rattle.index_model.specs.declared.shard.Span.{Span}
use Rattle.index_model.specs.Searches.{is_below, is_begun}

module _ {A : Type 0} (key : A → ℕ) (xs : List A) (bound : ℕ) where
  -- below the low end all are below the bound, and from the high end on none is
  pub record IsHalved (low high : ℕ) : Type 0 where
    pub below : (k : ℕ) (d : A) → k < low → key (get_or xs k d) < bound
    pub above : (k : ℕ) (d : A) → high ≤ k → k < length xs → bound ≤ key (get_or xs k d)

  pub whole : (n : ℕ) → n ≡ length xs → IsHalved 0 n
  whole n is = record { below = λ k d lt. absurd (omega (arith, lt)); above = λ k d le lt. absurd (omega (arith, le, lt, is)) }

  -- an item at an index
  pub at : (ys : List A) (m : ℕ) → m < length ys → (x : A) × (slice_get ys m ≡ Some x) × ((d : A) → get_or ys m d ≡ x)
  at [] m lt = absurd (omega (arith, lt))
  at (y ∷ ys) zero lt = (y, refl, λ d. refl)
  at (y ∷ ys) (suc m) lt = at ys m (omega (arith, lt))

  module _ (rise : IsNonDecreasingBy key xs) (low high : ℕ) (h : IsHalved low high) (m : ℕ) (within : m < length xs) where
    pub up : ((d : A) → key (get_or xs m d) < bound) → (next : ℕ) → next ≡ m + 1 → IsHalved next high
    up lt next is = record { below = λ k d l. let r = rise k m d (omega (arith, l, is)) within in omega (arith, r, lt d); above = h.above }

    pub down : ((d : A) → bound ≤ key (get_or xs m d)) → IsHalved low m
    down le = record { below = h.below; above = λ k d l w. let r = rise m k d l w in omega (arith, r, le d) }

  -- what the test at an index says
  pub says : (m : ℕ) → m < length xs → (answer : Bool) → answer ≡ is_below bound (option_map key (slice_get xs m)) → (answer ≡ true → (d : A) → key (get_or xs m d) < bound) × (answer ≡ false → (d : A) → bound ≤ key (get_or xs m d))
  says m within answer is =
      let x = at xs m within in
      let own = is ∙ ap (λ (o : Option A). is_below bound (option_map key o)) x.1 in (
        (λ on d. let lt = ltb-true (key x.0) bound (sym own ∙ on) in omega (arith, lt, ap key (x.2 d))),
        (λ off d. let le = ltb-false (key x.0) bound (sym own ∙ off) in omega (arith, le, ap key (x.2 d))),
      )

-- what the test of a span says
pub begun_says : (xs : List Span) (place m : ℕ) → m < length xs → (answer : Bool) → answer ≡ is_begun place (slice_get xs m) → (answer ≡ true → (d : Span) → (get_or xs m d).from < place + 1) × (answer ≡ false → (d : Span) → place + 1 ≤ (get_or xs m d).from)
begun_says xs place m within answer is =
    let x = at (λ (s : Span). s.from) xs (place + 1) xs m within in
    let own = is ∙ ap (is_begun place) x.1 in (
      (λ on d. let le = leb-true (x.0).from place (sym own ∙ on) in omega (arith, le, ap (λ (s : Span). s.from) (x.2 d))),
      (λ off d. let lt = leb-false (x.0).from place (sym own ∙ off) in omega (arith, lt, ap (λ (s : Span). s.from) (x.2 d))),
    )
