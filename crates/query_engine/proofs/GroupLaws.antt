-- One group more.
use Rattle.std.proofs.Common.{◌≡◌, ℕ, ◌+◌, ◌<◌, List, [], ◌∷◌, ◌++◌, length, get_or, sym, ap, ◌∙◌, inl, inr, arith}
use Rattle.std.proofs.lemmas.Bool.{cases_lt}
use Rattle.std.proofs.lemmas.List.{get_or_append_left, get_or_push}
use Rattle.query_engine.specs.declared.groups.Group.{Group}
use Rattle.query_engine.specs.Front.{IsFrontOf}
use Rattle.query_engine.specs.Groups.{group_at, IsGroupAt}
use Rattle.query_engine.specs.Marks.{text_with}

abbrev no_group : Group
no_group = record { front = 0; start = 0; end = 0 }

pub groups_more : (ts : List (List ℕ)) (ends : List ℕ) (gs : List Group) (k : ℕ) (g : Group) → length gs ≡ k → IsFrontOf g.front (text_with ts k) → g.start ≡ get_or (0 ∷ ends) k 0 → g.end ≡ get_or ends k 0
    → ((j : ℕ) → j < k → IsGroupAt ts ends gs j) → (j : ℕ) → j < k + 1 → IsGroupAt ts ends (gs ++ g ∷ []) j
groups_more ts ends gs k g size front start end each j lt = elim (cases_lt j (length gs)) [
  | inl low ↦
      let old : group_at (gs ++ g ∷ []) j ≡ group_at gs j = get_or_append_left gs (g ∷ []) no_group j low in
      let h = each j (omega arith) in
      record { front = rw old h.front; start = ap (λ (x : Group). x.start) old ∙ h.start; end = ap (λ (x : Group). x.end) old ∙ h.end }
  | inr high ↦
      let here : j ≡ k = omega arith in
      let new : group_at (gs ++ g ∷ []) j ≡ g = get_or_push gs g no_group j (omega arith) in
      record {
        front = rw (new, here) front;
        start = ap (λ (x : Group). x.start) new ∙ start ∙ ap (λ (w : ℕ). get_or (0 ∷ ends) w 0) (sym here);
        end = ap (λ (x : Group). x.end) new ∙ end ∙ ap (λ (w : ℕ). get_or ends w 0) (sym here);
      }
]
