-- The tiling that is computed is the one tiling that there is.
use Rattle.std.proofs.Common.{◌≡◌, ℕ, zero, suc, ◌+◌, ◌<◌, ◌≤◌, true, false, eqb, cond, List, [], ◌∷◌, length, Result, Ok, Err, refl, sym, ap, subst, ◌∙◌, arith}
use Rattle.std.proofs.lemmas.Bool.{eqb-true, eqb-false}
use Rattle.std.proofs.lemmas.List.{nil_from_length}
use Rattle.ix_base.specs.declared.fault.Fault.{Fault}
use Rattle.ix_base.specs.Reading.{Input}
use Rattle.index_model.specs.Meaning.{◌>>=◌}
use Rattle.index_model.specs.Tiling.{up_to, tiles, Tiles, TilesUpTo, TilingGives}

module _ {A : Type 0} (read : ℕ → Input → Result (A × Input) Fault) where
  -- each item takes a byte at least
  abbrev pub Advances : Type 0
  Advances = (k : ℕ) (i : Input) (x : A × Input) → read k i ≡ Ok x → length x.1.rest < length i.rest

  more : (k : ℕ) (i : Input) (x : A × Input) (r : Result (List A) Fault) → (length i.rest ≡ 0 → ⊥) → read k i ≡ Ok x → TilingGives read (k + 1) x.1 r → TilingGives read k i (r >>= λ others. Ok (x.0 ∷ others))
  more k i x (Ok xs) some e h = (some, x.1, e, h)
  more k i x (Err f) some e h = (x.0 ∷ h.0, (some, x.1, e, h.1))

  step : (k : ℕ) (i : Input) (r : Result (A × Input) Fault) (others : Input → Result (List A) Fault) → (length i.rest ≡ 0 → ⊥) → read k i ≡ r → ((x : A × Input) → read k i ≡ Ok x → TilingGives read (k + 1) x.1 (others x.1)) → TilingGives read k i (r >>= λ first. others first.1 >>= λ xs. Ok (first.0 ∷ xs))
  step k i (Ok x) others some e h = more k i x (others x.1) some e (h x e)
  step k i (Err f) others some e h = ([], (some, e))

  up_to_gives : Advances → (n : ℕ) (k : ℕ) (i : Input) → length i.rest ≤ n → TilingGives read k i (up_to n read k i)
  unfolding up_to
  up_to_gives advances zero k i le = nil_from_length i.rest (omega arith)
  up_to_gives advances (suc n) k i le =
      elim (eqb (length i.rest) 0) as (λ b. eqb (length i.rest) 0 ≡ b → TilingGives read k i (cond b (Ok []) (read k i >>= λ first. up_to n read (k + 1) first.1 >>= λ others. Ok (first.0 ∷ others)))) [
        | true ↦ λ e. nil_from_length i.rest (eqb-true _ _ e)
        | false ↦ λ e. step k i (read k i) (up_to n read (k + 1)) (eqb-false _ _ e) refl (λ x is. up_to_gives advances n (k + 1) x.1 (omega (arith, advances k i x is)))
      ] refl

  -- what is computed is a tiling
  pub tiles_gives : Advances → (k : ℕ) (i : Input) → TilingGives read k i (tiles read k i)
  tiles_gives advances k i = up_to_gives advances (length i.rest) k i (omega arith)

  abbrev given : A × Input → Result (A × Input) Fault
  given x = Ok x

  abbrev failed : Fault → Result (A × Input) Fault
  failed f = Err f

  same_item : (x y : A × Input) → given x ≡ given y → x ≡ y
  same_item x y e = cc

  both_ok : (k : ℕ) (i : Input) (xs ys : List A) → Tiles read k i xs → Tiles read k i ys → xs ≡ ys
  both_ok k i [] [] g h = refl
  both_ok k i [] (y ∷ ys) g h = absurd (h.0 (ap length g))
  both_ok k i (x ∷ xs) [] g h = absurd (g.0 (ap length h))
  both_ok k i (x ∷ xs) (y ∷ ys) g h =
      let e = same_item (x, g.1) (y, h.1) (sym g.2 ∙ h.2) in
      let head : x ≡ y = ap (λ (p : A × Input). p.0) e in
      let tail : xs ≡ ys = both_ok (k + 1) g.1 xs ys g.3 (subst (λ (n : Input). Tiles read (k + 1) n ys) (sym (ap (λ (p : A × Input). p.1) e)) h.3) in
      cc

  one_fails : (k : ℕ) (i : Input) (xs ys : List A) (f : Fault) → Tiles read k i xs → TilesUpTo read k i ys f → ⊥
  one_fails k i [] [] f g h = h.0 (ap length g)
  one_fails k i [] (y ∷ ys) f g h = h.0 (ap length g)
  one_fails k i (x ∷ xs) [] f g h = let e : given (x, g.1) ≡ failed f = sym g.2 ∙ h.1 in cc
  one_fails k i (x ∷ xs) (y ∷ ys) f g h =
      let e = same_item (x, g.1) (y, h.1) (sym g.2 ∙ h.2) in
      one_fails (k + 1) g.1 xs ys f g.3 (subst (λ (n : Input). TilesUpTo read (k + 1) n ys f) (sym (ap (λ (p : A × Input). p.1) e)) h.3)

  both_fail : (k : ℕ) (i : Input) (xs ys : List A) (d f : Fault) → TilesUpTo read k i xs d → TilesUpTo read k i ys f → d ≡ f
  both_fail k i [] [] d f g h = let e : failed d ≡ failed f = sym g.1 ∙ h.1 in cc
  both_fail k i [] (y ∷ ys) d f g h = let e : failed d ≡ given (y, h.1) = sym g.1 ∙ h.2 in absurd cc
  both_fail k i (x ∷ xs) [] d f g h = let e : given (x, g.1) ≡ failed f = sym g.2 ∙ h.1 in absurd cc
  both_fail k i (x ∷ xs) (y ∷ ys) d f g h =
      let e = same_item (x, g.1) (y, h.1) (sym g.2 ∙ h.2) in
      both_fail (k + 1) g.1 xs ys d f g.3 (subst (λ (n : Input). TilesUpTo read (k + 1) n ys f) (sym (ap (λ (p : A × Input). p.1) e)) h.3)

  -- and there is no other
  pub only : (k : ℕ) (i : Input) (r s : Result (List A) Fault) → TilingGives read k i r → TilingGives read k i s → r ≡ s
  only k i (Ok xs) (Ok ys) g h = ap (λ (zs : List A). Ok zs) (both_ok k i xs ys g h)
  only k i (Ok xs) (Err f) g h = absurd (one_fails k i xs h.0 f g h.1)
  only k i (Err d) (Ok ys) g h = absurd (one_fails k i ys g.0 d h g.1)
  only k i (Err d) (Err f) g h = ap (λ (z : Fault). Err z) (both_fail k i g.0 h.0 d f g.1 h.1)

  -- the tiling, one item after the other
  module _ (advances : Advances) (k : ℕ) (i : Input) where
    pub tiles_end : length i.rest ≡ 0 → tiles read k i ≡ Ok []
    tiles_end none = only k i (tiles read k i) (Ok []) (tiles_gives advances k i) (nil_from_length i.rest none)

    pub tiles_fault : (f : Fault) → (length i.rest ≡ 0 → ⊥) → read k i ≡ Err f → tiles read k i ≡ Err f
    tiles_fault f some e = only k i (tiles read k i) (Err f) (tiles_gives advances k i) ([], (some, e))

    pub tiles_item : (x : A × Input) → (length i.rest ≡ 0 → ⊥) → read k i ≡ Ok x → tiles read k i ≡ (tiles read (k + 1) x.1 >>= λ others. Ok (x.0 ∷ others))
    tiles_item x some e = only k i (tiles read k i) (tiles read (k + 1) x.1 >>= λ others. Ok (x.0 ∷ others)) (tiles_gives advances k i) (more k i x (tiles read (k + 1) x.1) some e (tiles_gives advances (k + 1) x.1))
