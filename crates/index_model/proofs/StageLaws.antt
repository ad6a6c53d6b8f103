-- What is reachable is what the order of the numbers says.
use Rattle.std.proofs.Common.{◌≡◌, ℕ, zero, suc, ◌<◌, ◌≤◌, Bool, true, ◌&&◌, ◌||◌, eqb, refl, subst, arith, ⊎_elim}
use Rattle.std.proofs.lemmas.Bool.{or_cases, and_parts, eqb-true, false≢true}
use Rattle.std.specs.Prelude.{IsTrue}
use mathlib.Core.Logic.{dite}
use native.Mathlib.Decide.{dec_lt}
use Rattle.index_model.specs.Stages.{StageStep, IsReachable, same, after}
use Rattle.index_model.specs.LawsStages.{Leads, ReachableIsTheClosure, ReachableIsLeads, LastStagesStay}

leads_itself : (s : ℕ) → Leads s s
leads_itself s = (omega arith, λ l. absurd (omega (arith, l)))

leads_on : (s t u : ℕ) → Leads s t → Leads t u → Leads s u
leads_on s t u a b =
    let ab = a.0 in
    let bc = b.0 in (
      omega arith,
      λ l. dite (dec_lt s t)
          (λ (st : s < t). let p = a.1 st in let p₀ = p.0 in let p₁ = p.1 in dite (dec_lt t u)
          (λ (tu : t < u). let q = b.1 tu in let q₀ = q.0 in let q₁ = q.1 in (omega arith, omega arith, λ e. let z = q.2 e in absurd (omega arith)))
          (λ (no : ¬ (t < u)). let same : t ≡ u = omega arith in subst (λ (z : ℕ). (z ≤ 5) × (s ≤ 2) × (z ≡ 4 → s ≡ 0)) same p))
          (λ (no : ¬ (s < t)). let same : t ≡ s = omega arith in subst (λ (z : ℕ). (u ≤ 5) × (z ≤ 2) × (u ≡ 4 → z ≡ 0)) same (b.1 (omega arith))),
    )

lead : (a b : ℕ) → a < b → b ≤ 5 → a ≤ 2 → (b ≡ 4 → a ≡ 0) → Leads a b
lead a b l top low only = (omega arith, λ _. (top, low, only))

-- the pair is this one, or one of the others
this_or : (a b s t : ℕ) (others : Bool) → Leads a b → (others ≡ true → Leads s t) → ((eqb a s && eqb b t) || others) ≡ true → Leads s t
this_or a b s t others l later h = ⊎_elim (λ (e : (eqb a s && eqb b t) ≡ true). let p = and_parts _ _ e in subst (λ (x : ℕ). Leads x t) (eqb-true a s p.0) (subst (λ (y : ℕ). Leads a y) (eqb-true b t p.1) l)) later (or_cases _ _ h)

step_leads : (s t : ℕ) → StageStep s t → Leads s t
step_leads s t =
    this_or 0 1 s t _ (lead 0 1 (omega arith) (omega arith) (omega arith) (λ e. absurd (omega (arith, e))))
    (this_or 1 2 s t _ (lead 1 2 (omega arith) (omega arith) (omega arith) (λ e. absurd (omega (arith, e))))
    (this_or 2 3 s t _ (lead 2 3 (omega arith) (omega arith) (omega arith) (λ e. absurd (omega (arith, e))))
    (this_or 0 4 s t _ (lead 0 4 (omega arith) (omega arith) (omega arith) (λ _. refl))
    (this_or 0 5 s t _ (lead 0 5 (omega arith) (omega arith) (omega arith) (λ _. refl))
    (this_or 1 5 s t _ (lead 1 5 (omega arith) (omega arith) (omega arith) (λ e. absurd (omega (arith, e))))
    (this_or 2 5 s t _ (lead 2 5 (omega arith) (omega arith) (omega arith) (λ e. absurd (omega (arith, e)))) (λ h. absurd (false≢true h))))))))

on : (s t u : ℕ) → IsReachable s t → IsReachable t u → IsReachable s u
on s t u same r = r
on s t u (after step r) q = after step (on _ _ _ r q)

to_leads : (s t : ℕ) → IsReachable s t → Leads s t
to_leads s t same = leads_itself s
to_leads s t (after {t = m} step r) = leads_on s m t (step_leads s m step) (to_leads m t r)

above : (s t : ℕ) → s < t → t ≤ 5 → s ≤ 2 → (t ≡ 4 → s ≡ 0) → IsReachable s t
above zero zero l top low only = absurd (omega arith)
above zero (suc zero) l top low only = after refl same
above zero (suc (suc zero)) l top low only = after {t = 1} refl (after refl same)
above zero (suc (suc (suc zero))) l top low only = after {t = 1} refl (after {t = 2} refl (after refl same))
above zero (suc (suc (suc (suc zero)))) l top low only = after refl same
above zero (suc (suc (suc (suc (suc zero))))) l top low only = after refl same
above zero (suc (suc (suc (suc (suc (suc t)))))) l top low only = absurd (omega arith)
above (suc zero) zero l top low only = absurd (omega arith)
above (suc zero) (suc zero) l top low only = absurd (omega arith)
above (suc zero) (suc (suc zero)) l top low only = after refl same
above (suc zero) (suc (suc (suc zero))) l top low only = after {t = 2} refl (after refl same)
above (suc zero) (suc (suc (suc (suc zero)))) l top low only = let e = only refl in absurd (omega arith)
above (suc zero) (suc (suc (suc (suc (suc zero))))) l top low only = after refl same
above (suc zero) (suc (suc (suc (suc (suc (suc t)))))) l top low only = absurd (omega arith)
above (suc (suc zero)) zero l top low only = absurd (omega arith)
above (suc (suc zero)) (suc zero) l top low only = absurd (omega arith)
above (suc (suc zero)) (suc (suc zero)) l top low only = absurd (omega arith)
above (suc (suc zero)) (suc (suc (suc zero))) l top low only = after refl same
above (suc (suc zero)) (suc (suc (suc (suc zero)))) l top low only = let e = only refl in absurd (omega arith)
above (suc (suc zero)) (suc (suc (suc (suc (suc zero))))) l top low only = after refl same
above (suc (suc zero)) (suc (suc (suc (suc (suc (suc t)))))) l top low only = absurd (omega arith)
above (suc (suc (suc s))) t l top low only = absurd (omega arith)

from_leads : (s t : ℕ) → Leads s t → IsReachable s t
from_leads s t h = dite (dec_lt s t)
    (λ (l : s < t). let p = h.1 l in above s t l p.0 p.1 p.2)
    (λ (no : ¬ (s < t)). let le = h.0 in let e : s ≡ t = omega arith in subst (λ (u : ℕ). IsReachable s u) e same)

least_test : (holds : ℕ → ℕ → Bool) → ((s : ℕ) → IsTrue (holds s s)) → ((s t u : ℕ) → StageStep s t → IsTrue (holds t u) → IsTrue (holds s u)) → (s t : ℕ) → IsReachable s t → IsTrue (holds s t)
least_test holds itself by_step s t same = itself s
least_test holds itself by_step s t (after {t = m} step r) = by_step s m t step (least_test holds itself by_step m t r)

pub closure : ReachableIsTheClosure
closure = record {
  itself = λ s. same;
  by_step = λ s t step. after step same;
  onwards = on;
  least = least_test;
}

pub order : ReachableIsLeads
order s t = (to_leads s t, from_leads s t)

pub last : LastStagesStay
last s t low r = let l = to_leads s t r in let le = l.0 in dite (dec_lt s t) (λ (lt : s < t). let p = l.1 lt in let small = p.1 in absurd (omega arith)) (λ (no : ¬ (s < t)). omega arith)
