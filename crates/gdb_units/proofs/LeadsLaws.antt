-- Ways from one unit to another.
use Rattle.std.proofs.Common.{◌≡◌, ℕ, zero, suc, ◌≤◌, List, refl, sym, subst, arith, inl, inr, ⊎_elim}
use Rattle.std.specs.Prelude.{Contains}
use Rattle.gdb_units.specs.Spread.{Leads}

module _ (targets : ℕ → List ℕ) where
  pub one_step : (u v : ℕ) → Contains (targets u) v → Leads targets 1 u v
  one_step u v c = (v, c, inl refl)

  on_from : (n t v w : ℕ) → t ≡ v → Contains (targets v) w → Leads targets (suc n) t w
  on_from n t v w same c = (w, subst (λ (x : ℕ). Contains (targets x) w) (sym same) c, inl refl)

  pub one_more : (n u v w : ℕ) → Leads targets n u v → Contains (targets v) w → Leads targets (suc n) u w
  one_more zero u v w l c = absurd l
  one_more (suc n) u v w l c = (
    l.0,
    l.1,
    inr (⊎_elim
        (λ (same : l.0 ≡ v). on_from n l.0 v w same c)
        (λ (far : Leads targets n l.0 v). one_more n l.0 v w far c)
        l.2),
  )

  pub longer : (n m u v : ℕ) → n ≤ m → Leads targets n u v → Leads targets m u v
  longer zero m u v le l = absurd l
  longer (suc n) zero u v le l = absurd (omega (arith, le))
  longer (suc n) (suc m) u v le l = (
    l.0,
    l.1,
    ⊎_elim
        (λ (same : l.0 ≡ v). inl same)
        (λ (far : Leads targets n l.0 v). inr (longer n m l.0 v (omega (arith, le)) far))
        l.2,
  )
