-- Places below an end, one place more.
use Rattle.std.proofs.Common.{◌≡◌, ℕ, ◌+◌, ◌<◌, ◌≤◌, Bool, true, false, List, [], ◌∷◌, ◌++◌, length, get_or, drop, refl, sym, ap, ◌∙◌, append_assoc}
use Rattle.std.proofs.lemmas.List.{at_drop_more, at_drop_all}
use Rattle.std.specs.Prelude.{slice_index_or}
use Rattle.query_engine.specs.Listed.{merged, take_below, drop_below}
use Rattle.query_engine.proofs.CountingLaws.{lt_true, lt_false}

append_none : {X : Type 0} (xs : List X) → xs ++ [] ≡ xs
append_none [] = refl
append_none (x ∷ xs) = ap (λ w. x ∷ w) (append_none xs)

module _ (end : ℕ) (plain : List ℕ) (i p : ℕ) (within : i < length plain) (own : p ≡ get_or plain i 0) where
  module _ (lt : p < end) where
    pub takes : take_below end (drop i plain) ≡ p ∷ take_below end (drop (i + 1) plain)
    unfolding take_below
    takes = at_drop_more (take_below end) plain i 0 within ∙ rw (← own) (rw (lt_true p end lt) refl)

    pub drops : drop_below end (drop i plain) ≡ drop_below end (drop (i + 1) plain)
    unfolding drop_below
    drops = at_drop_more (drop_below end) plain i 0 within ∙ rw (← own) (rw (lt_true p end lt) refl)

  module _ (le : end ≤ p) where
    pub takes_none : take_below end (drop i plain) ≡ []
    unfolding take_below
    takes_none = at_drop_more (take_below end) plain i 0 within ∙ rw (← own) (rw (lt_false p end le) refl)

    pub drops_none : drop_below end (drop i plain) ≡ drop i plain
    unfolding drop_below
    drops_none = at_drop_more (drop_below end) plain i 0 within ∙ rw (← own) (rw (lt_false p end le) refl) ∙ sym (at_drop_more (λ (w : List ℕ). w) plain i 0 within)

pub takes_all : (end : ℕ) (plain : List ℕ) (i : ℕ) → length plain ≤ i → take_below end (drop i plain) ≡ []
unfolding take_below
takes_all end plain i le = at_drop_all (take_below end) plain i le

pub drops_all : (end : ℕ) (plain : List ℕ) (i : ℕ) → length plain ≤ i → drop_below end (drop i plain) ≡ []
unfolding drop_below
drops_all end plain i le = at_drop_all (drop_below end) plain i le

-- ---- one place more that is put together with others

module _ (marked : List Bool) (named : List ℕ) (i p : ℕ) (within : i < length named) (own : p ≡ get_or named i 0) (plain : List ℕ) where
  pub takes_marked : slice_index_or marked p false ≡ true → merged marked (drop i named) plain ≡ take_below p plain ++ p ∷ merged marked (drop (i + 1) named) (drop_below p plain)
  unfolding merged
  takes_marked mark = at_drop_more (λ (w : List ℕ). merged marked w plain) named i 0 within ∙ rw (← own) (rw mark refl)

  pub skips_other : slice_index_or marked p false ≡ false → merged marked (drop i named) plain ≡ merged marked (drop (i + 1) named) plain
  unfolding merged
  skips_other mark = at_drop_more (λ (w : List ℕ). merged marked w plain) named i 0 within ∙ rw (← own) (rw mark refl)

pub none_left : (marked : List Bool) (named : List ℕ) (i : ℕ) (plain : List ℕ) → length named ≤ i → merged marked (drop i named) plain ≡ plain
unfolding merged
none_left marked named i plain le = at_drop_all (λ (w : List ℕ). merged marked w plain) named i le

-- places of which the first were put, and those behind
pub put_more : (old ps qs rest : List ℕ) (p : ℕ) → qs ≡ ps ++ p ∷ [] → ps ++ p ∷ rest ≡ old → qs ++ rest ≡ old
put_more old ps qs rest p is before = ap (λ (w : List ℕ). w ++ rest) is ∙ append_assoc ps (p ∷ []) rest ∙ before

pub put_last : (old ps rest : List ℕ) → rest ≡ [] → ps ++ rest ≡ old → ps ≡ old
put_last old ps rest none before = sym (append_none ps) ∙ ap (λ (w : List ℕ). ps ++ w) (sym none) ∙ before
