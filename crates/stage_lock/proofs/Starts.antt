-- The lock's first state has the rule.
use Rattle.std.proofs.Common.{◌≡◌, ℕ, zero, suc, ◌≤◌, List, [], ◌∷◌, Option, Some, sym, refl, subst, inr, arith}
use Rattle.std.proofs.lemmas.List.Elements.{All-nil}
use mathlib.Core.Option.{some, some-injective, some-ne-none}
use lib.ListN.{get_elem?}
use Rattle.atomic_table.specs.Table.{opening}
use Rattle.index_model.specs.Stages.{IsReachable}
use Rattle.stage_lock.specs.declared.known.Known.{Known}
use Rattle.stage_lock.specs.declared.known.Turn.TheVariants.{Without}
use Rattle.stage_lock.specs.Rule.{Holds, Knows, starting}
use Rattle.stage_lock.proofs.Stages.{reach_self}

module _ {V X : Type 0} (stage_of : V → ℕ) (subject : V → X) (fits : X → ℕ → Type 0) where
  first_state : (v : V) → fits (subject v) (stage_of v) → stage_of v ≤ 5 → Holds stage_of subject fits (subject v) (opening (0 ∷ stage_of v ∷ []) (Some v ∷ []) (starting (subject v) (stage_of v)))
  first_state v fit small = record {
    turn = Without;
    holder = 0;
    now = stage_of v;
    words = refl;
    home = λ _. (v, refl, refl, refl);
    away = λ e. absurd (cc);
    small = small;
    fitting = fit;
    held = λ l. absurd (l refl);
    scale = 0;
    fine = fine;
    whole = refl;
    each = one;
  }
    where
      fine : (j : ℕ) (u : Known V X) → get_elem? (starting (subject v) (stage_of v) ∷ []) j ≡ some u → u.share.halvings ≤ 0
      fine (suc j) u e = absurd (some-ne-none u (sym e))
      fine zero u e = subst (λ (z : Known V X). z.share.halvings ≤ 0) (some-injective _ _ e) (omega arith)

      one : (j : ℕ) (u : Known V X) → get_elem? (starting (subject v) (stage_of v) ∷ []) j ≡ some u → Knows stage_of subject fits (subject v) Without 0 (stage_of v) j u
      one (suc j) u e = absurd (some-ne-none u (sym e))
      one zero u e = subst (Knows stage_of subject fits (subject v) Without 0 (stage_of v) 0) (some-injective _ _ e) (inr (
        refl,
        record {
          has_share = omega arith;
          fitting = fit;
          reaches = reach_self (stage_of v);
          olds = All-nil (λ o. IsReachable o (stage_of v));
          marks = All-nil (fits (subject v));
          own = λ z. absurd (z refl);
          out = λ e. absurd (cc);
          back = λ e. absurd (cc);
        },
      ))

  -- the same, as `new` has the facts
  pub starts : (v key : V) (n : ℕ) (slots : List (Option V)) → key ≡ v → n ≡ stage_of v → slots ≡ Some v ∷ [] → fits (subject v) n → n ≤ 5
      → Holds stage_of subject fits (subject key) (opening (0 ∷ n ∷ []) slots (starting (subject key) (stage_of key)))
  starts v key n slots same is all fit small =
      subst (λ (z : V × ℕ × List (Option V)). Holds stage_of subject fits (subject z.0) (opening (0 ∷ z.1 ∷ []) z.2 (starting (subject z.0) (stage_of z.0)))) (λ i. (sym same i, sym is i, sym all i))
      (first_state v (subst (fits (subject v)) is fit) (subst (λ (j : ℕ). j ≤ 5) is small))
