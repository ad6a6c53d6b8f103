-- What holds of all values of a map, one of which is put in or taken out.
use Rattle.std.proofs.Common.{◌≡◌, ℕ, Bool, true, false, cond, Some, None, refl, sym, subst, ◌∙◌}
use Rattle.std.specs.Prelude.{nat_eq}
use Rattle.std.proofs.lemmas.Bool.{eqb-true}
use Rattle.std.proofs.lemmas.Option.{same_Some}
use Rattle.indexmap.specs.IndexMap.{IndexMap, get}

module _ {V S : Type 0} (P : ℕ → V → Type 0) where
  abbrev pub OfAll : IndexMap ℕ V S → Type 0
  OfAll m = (k : ℕ) (v : V) → get nat_eq m k ≡ Some v → P k v

  pub one_more : (old new : IndexMap ℕ V S) (k : ℕ) (v : V) → OfAll old → P k v → ((q : ℕ) → get nat_eq new q ≡ cond (nat_eq k q) (Some v) (get nat_eq old q)) → OfAll new
  one_more old new k v known own updates q x e = by (nat_eq k q) refl (sym (updates q) ∙ e)
    where
      by : (b : Bool) → nat_eq k q ≡ b → cond b (Some v) (get nat_eq old q) ≡ Some x → P q x
      by true same h = subst (λ (n : ℕ). P n x) (eqb-true k q same) (subst (P k) (same_Some v x h) own)
      by false other h = known q x h

  pub one_less : (old new : IndexMap ℕ V S) (k : ℕ) → OfAll old → ((q : ℕ) → get nat_eq new q ≡ cond (nat_eq k q) None (get nat_eq old q)) → OfAll new
  one_less old new k known updates q x e = by (nat_eq k q) (sym (updates q) ∙ e)
    where
      by : (b : Bool) → cond b None (get nat_eq old q) ≡ Some x → P q x
      by true h = absurd cc
      by false h = known q x h
