-- LEB numbers are read as before where more bytes follow.
use Rattle.std.proofs.Common.{◌≡◌, ℕ, ◌+◌, ◌-◌, ◌*◌, ◌^◌, ◌≤◌, pos, ◌+ℤ◌, ◌*ℤ◌, ◌-ℤ◌, Bool, true, false, cond, ltb, List, [], ◌∷◌, ◌++◌, length, Option, Some, None, refl, sym, ap, subst, ◌∙◌, arith}
use Rattle.std.proofs.lemmas.Option.{cond_some, same_Some}
use Rattle.ix_base.specs.Reading.{Input, ◌>>=◌, past, unsigned_leb, uleb, signed_leb, is_in_64, sleb}
use Rattle.index_model.proofs.Meanings.{bind_some}
use Rattle.grown_alike.proofs.Kept.{SomeStays, some_stays, some_then}
use Rattle.grown_alike.proofs.Behind.{grown, onwards, past_grown}

-- the number that begins with a byte: it is the last one, or others follow
abbrev begins : {A : Type 0} → (ℕ → A) → (ℕ → A → A) → ℕ → Bool → Option (A × ℕ) → Option (A × ℕ)
begins last join b is_last others = cond is_last (Some (last b, 1)) (others >>= λ high. Some (join b high.0, high.1 + 1))

-- a reader of numbers, byte by byte
module _ {A : Type 0} (read : List ℕ → Option (A × ℕ)) (last : ℕ → A) (join : ℕ → A → A) (none : read [] ≡ None) (some : (b : ℕ) (bs : List ℕ) → read (b ∷ bs) ≡ begins last join b (ltb b 128) (read bs)) (more : List ℕ) where
  -- the number stands within the bytes, and is that of more bytes too
  abbrev Within : List ℕ → A × ℕ → Type 0
  Within bs x = (x.1 ≤ length bs) × (read (bs ++ more) ≡ Some x)

  within : (bs : List ℕ) (x : A × ℕ) → read bs ≡ Some x → Within bs x
  within [] x is = let never : None ≡ Some x = sym none ∙ is in absurd cc
  within (b ∷ bs) x is = by (within bs) (ltb b 128) refl (sym (some b bs) ∙ is)
    where
      by : ((y : A × ℕ) → read bs ≡ Some y → Within bs y) → (t : Bool) → ltb b 128 ≡ t → begins last join b t (read bs) ≡ Some x → Within (b ∷ bs) x
      by rest true e h = (
        omega (arith, ap (λ (y : A × ℕ). y.1) (same_Some (last b, 1) x h)),
        some b (bs ++ more) ∙ ap (λ (t : Bool). begins last join b t (read (bs ++ more))) e ∙ h,
      )
      by rest false e h =
          let high = bind_some (read bs) (λ high. Some (join b high.0, high.1 + 1)) x h in
          let w = rest high.0 high.1 in (
            omega (arith, w.0, ap (λ (y : A × ℕ). y.1) (same_Some (join b high.0.0, high.0.1 + 1) x high.2)),
            some b (bs ++ more) ∙ ap (λ (t : Bool). begins last join b t (read (bs ++ more))) e ∙ ap (begins last join b false) w.1 ∙ high.2,
          )

  module _ (fits : A → Bool) where
    abbrev fitting : List ℕ → Option (A × ℕ)
    fitting bs = read bs >>= λ n. cond (fits n.0) (Some n) None

    fitting_within : (bs : List ℕ) (x : A × ℕ) → fitting bs ≡ Some x → (x.1 ≤ length bs) × (fitting (bs ++ more) ≡ Some x)
    fitting_within bs x is =
        let n = bind_some (read bs) (λ n. cond (fits n.0) (Some n) None) x is in
        let t = cond_some (fits n.0.0) n.0 x n.2 in
        let w = within bs n.0 n.1 in
        (subst (λ (y : A × ℕ). y.1 ≤ length bs) t.1 w.0, ap (λ (o : Option (A × ℕ)). o >>= λ n. cond (fits n.0) (Some n) None) w.1 ∙ n.2)

    leb_stays : (i : Input) → SomeStays (onwards more) (fitting i.rest >>= λ n. Some (n.0, past n.1 i)) (fitting (i.rest ++ more) >>= λ n. Some (n.0, past n.1 (grown more i)))
    leb_stays i =
        some_then (λ (n : A × ℕ). n) (onwards more) (fitting i.rest) (fitting (i.rest ++ more)) _ _ (record { on = λ n is. (fitting_within i.rest n is).1 }) (λ n is.
        rw (past_grown n.1 more i (fitting_within i.rest n is).0) (some_stays (onwards more) (n.0, past n.1 i)))

pub uleb_stays : (more : List ℕ) (i : Input) → SomeStays (onwards more) (uleb i) (uleb (grown more i))
unfolding unsigned_leb
uleb_stays more = leb_stays unsigned_leb (λ b. b) (λ b high. b - 128 + 128 * high) refl (λ b bs. refl) more (λ n. ltb n (2 ^ 64))

pub sleb_stays : (more : List ℕ) (i : Input) → SomeStays (onwards more) (sleb i) (sleb (grown more i))
unfolding signed_leb
sleb_stays more = leb_stays signed_leb (λ b. cond (ltb b 64) (pos b) (pos b -ℤ pos 128)) (λ b high. pos (b - 128) +ℤ (pos 128 *ℤ high)) refl (λ b bs. refl) more is_in_64
