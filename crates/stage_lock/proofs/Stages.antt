-- Which stage leads to which.
use Rattle.std.proofs.Common.{◌≡◌, ℕ, ◌+◌, ◌<◌, ◌≤◌, subst, arith, ⊎_elim}
use Rattle.std.specs.Prelude.{◌⊎◌}
use mathlib.Core.Logic.{dite}
use native.Mathlib.Decide.{dec_lt}
use Rattle.index_model.specs.Stages.{IsReachable, same}
use Rattle.index_model.specs.LawsStages.{Leads}
use Rattle.index_model.proofs.StageLaws.{order}

pub reach_self : (s : ℕ) → IsReachable s s
reach_self s = same

leads_between : (a b g : ℕ) → Leads a g → Leads b g → a ≤ b → Leads a b
leads_between a b g p q le =
    let p₀ = p.0 in
    let q₀ = q.0 in
    (le, λ l. let u = p.1 (omega arith) in let u₀ = u.0 in let u₁ = u.1 in dite (dec_lt b g) (λ (bg : b < g). let v = q.1 bg in let v₁ = v.1 in (omega arith, omega arith, λ e. absurd (omega arith))) (λ no. let same : g ≡ b = omega arith in subst (λ (z : ℕ). (z ≤ 5) × (a ≤ 2) × (z ≡ 4 → a ≡ 0)) same u))

-- of two stages that lead to one, the smaller leads to the greater
pub reach_between : (a b g : ℕ) → IsReachable a g → IsReachable b g → a ≤ b → IsReachable a b
reach_between a b g p q le = (order a b).1 (leads_between a b g ((order a g).0 p) ((order b g).0 q) le)

-- a stage below 3 leads to the next one, and each to itself
pub reach_next : (s t : ℕ) → (t ≡ s) ⊎ ((t ≡ s + 1) × (t ≤ 3)) → IsReachable s t
reach_next s t h = (order s t).1 (⊎_elim (λ (e : t ≡ s). (omega arith, λ l. absurd (omega arith))) (λ (e : (t ≡ s + 1) × (t ≤ 3)). let e₀ = e.0 in let e₁ = e.1 in (omega arith, λ l. (omega arith, omega arith, λ f. absurd (omega arith)))) h)
