-- Depths that are counted over all earlier tokens are those that a cursor keeps.
use Rattle.std.proofs.Common.{◌≡◌, ℕ, zero, suc, ◌+◌, ◌-◌, ◌<◌, ◌≤◌, Bool, true, false, cond, ltb, eqb, ◌||◌, List, [], ◌∷◌, ◌++◌, length, Result, Ok, Err, refl, ap, ◌∙◌, arith, length-append, zero-add}
use Rattle.std.specs.List.{count_by}
use Rattle.std.proofs.lemmas.Bool.{lt-ltb, eqb-false}
use Rattle.std.proofs.lemmas.List.Sums.{sum_by-append}
use Rattle.ix_base.specs.declared.fault.Fault.{Fault}
use Rattle.ix_base.specs.Reading.{Input}
use Rattle.index_model.specs.Walk.{Item, Token, Null, Entry, Levels, levels, is_over, begins_with_zero, is_null, has_children, behind, with_token, walk_from, tail_of}
use Rattle.index_model.specs.WalkLeft.{levels_after, left_from, left}

-- there are no more nulls than entries with children
abbrev IsBalanced : List Token → Type 0
IsBalanced ts = count_by is_null ts ≤ count_by has_children ts

count_push : (p : Token → Bool) (ts : List Token) (t : Token) → count_by p (ts ++ t ∷ []) ≡ count_by p ts + cond (p t) 1 0
count_push p ts t = sum_by-append (λ x. cond (p x) 1 0) ts (t ∷ []) ∙ ap (λ (n : ℕ). count_by p ts + n) (zero-add (cond (p t) 1 0))

abbrev made : Bool → ℕ → Levels
made root depth = record { root = root; depth = depth }

has_root : (ts : List Token) (t : Token) → ltb 0 (length (ts ++ t ∷ [])) ≡ true
has_root ts t = lt-ltb 0 (length (ts ++ t ∷ [])) (omega (arith, length-append ts (t ∷ [])))

push_by : (ts : List Token) (t : Token) (depth : ℕ) → count_by has_children (ts ++ t ∷ []) - count_by is_null (ts ++ t ∷ []) ≡ depth → levels (ts ++ t ∷ []) ≡ made true depth
push_by ts t depth e = ap (λ (b : Bool). made b (count_by has_children (ts ++ t ∷ []) - count_by is_null (ts ++ t ∷ []))) (has_root ts t) ∙ ap (made true) e

entry_push : (ts : List Token) (d : Item) (b : Bool) → d.children ≡ b → IsBalanced ts → count_by has_children (ts ++ Entry d ∷ []) - count_by is_null (ts ++ Entry d ∷ []) ≡ cond b ((levels ts).depth + 1) (levels ts).depth
entry_push ts d true e h = omega (arith, h, count_push has_children ts (Entry d), count_push is_null ts (Entry d), ap {B = ℕ} (λ (c : Bool). cond c 1 0) e)
entry_push ts d false e h = omega (arith, h, count_push has_children ts (Entry d), count_push is_null ts (Entry d), ap {B = ℕ} (λ (c : Bool). cond c 1 0) e)

levels_push : (ts : List Token) (t : Token) → IsBalanced ts → levels (ts ++ t ∷ []) ≡ levels_after (levels ts) t
levels_push ts (Null depth after) h = push_by ts (Null depth after) _ (omega (arith, count_push has_children ts (Null depth after), count_push is_null ts (Null depth after)))
levels_push ts (Entry d) h = push_by ts (Entry d) _ (entry_push ts d d.children refl h)

IsBalanced_push : (ts : List Token) (t : Token) → IsBalanced ts → (is_null t ≡ true → count_by is_null ts < count_by has_children ts) → IsBalanced (ts ++ t ∷ [])
IsBalanced_push ts (Null depth after) h deep = omega (arith, deep refl, count_push has_children ts (Null depth after), count_push is_null ts (Null depth after))
IsBalanced_push ts (Entry d) h deep = omega (arith, h, count_push has_children ts (Entry d), count_push is_null ts (Entry d))

not_closed : (a root : Bool) (depth : ℕ) (z : Bool) → (a || cond root (eqb depth 0) z) ≡ false → root ≡ true → eqb depth 0 ≡ false
not_closed true root depth z e r = absurd cc
not_closed false true depth z e r = e
not_closed false false depth z e r = absurd cc

-- where the tree goes on behind a root, a level is open
open_level : (ts : List Token) (i : Input) → is_over (levels ts) i ≡ false → (levels ts).root ≡ true → count_by is_null ts < count_by has_children ts
open_level ts i e root =
    let some = eqb-false _ _ (not_closed (eqb (length i.rest) 0) (levels ts).root (levels ts).depth (begins_with_zero i.rest) e root) in
    omega (arith, some)

module _ (read : Levels → Input → Result (Token × Input) Fault) (nulls : (open_ : Levels) (i : Input) (t : Token × Input) → read open_ i ≡ Ok t → is_null t.0 ≡ true → open_.root ≡ true) where
  counted : (n : ℕ) (earlier : List Token) (i : Input) → IsBalanced earlier → walk_from read n earlier i ≡ left_from read n (levels earlier) i
  unfolding walk_from left_from
  counted zero earlier i h = refl
  counted (suc n) earlier i h =
      elim (is_over (levels earlier) i) as (λ b. is_over (levels earlier) i ≡ b → cond b (tail_of i) (behind (read (levels earlier) i) (λ t. walk_from read n (earlier ++ t.0 ∷ []) t.1)) ≡ cond b (tail_of i) (behind (read (levels earlier) i) (λ t. left_from read n (levels_after (levels earlier) t.0) t.1))) [
        | true ↦ λ e. refl
        | false ↦ λ e. elim (read (levels earlier) i) as (λ r. read (levels earlier) i ≡ r → behind r (λ t. walk_from read n (earlier ++ t.0 ∷ []) t.1) ≡ behind r (λ t. left_from read n (levels_after (levels earlier) t.0) t.1)) [
          | Err f ↦ λ g. refl
          | Ok t ↦ λ g.
              ap (with_token t.0) (counted n (earlier ++ t.0 ∷ []) t.1 (IsBalanced_push earlier t.0 h (λ is. open_level earlier i e (nulls (levels earlier) i t g is))) ∙ ap (λ (l : Levels). left_from read n l t.1) (levels_push earlier t.0 h))
        ] refl
      ] refl

  -- the walk of a body is what is left at its beginning
  pub walk_is_left : (body : Input) → walk_from read (length body.rest) [] body ≡ left read (record { root = false; depth = 0 }) body
  walk_is_left body = counted (length body.rest) [] body (omega arith)
