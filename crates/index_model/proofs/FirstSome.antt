-- The first value of some.
use Rattle.std.proofs.Common.{◌≡◌, ℕ, zero, suc, ◌+◌, ◌<◌, ◌≤◌, Bool, cond, List, [], ◌∷◌, length, drop, get_or, map, Option, Some, None, leb, refl, sym, ap, subst, ◌∙◌, arith}
use Rattle.std.specs.Option.{option_or}
use Rattle.std.proofs.Math.Seq.{drop-cons}
use Rattle.std.specs.Prelude.{All, find, slice_get}
use Rattle.std.specs.Arc.{arc_value}
use Rattle.std.specs.declared.sync.Arc.{Arc}
use Rattle.std.proofs.lemmas.Bool.{le-leb, lt-leb}
use Rattle.index_model.specs.NodeSeen.{NodeSeen}
use Rattle.index_model.specs.ShardLanguages.{first_some}

module _ {A B : Type 0} (f : A → Option B) (xs : List A) (i : ℕ) (d : A) (within : i < length xs) where
  pub front : first_some f (drop i xs) ≡ option_or (f (get_or xs i d)) (first_some f (drop (i + 1) xs))
  front =
      let n : suc i ≡ i + 1 = omega arith in
      ap (first_some f) (drop-cons xs i d within) ∙ ap (λ (k : ℕ). option_or (f (get_or xs i d)) (first_some f (drop k xs))) n

  pub some_at : (y : B) → f (get_or xs i d) ≡ Some y → first_some f (drop i xs) ≡ Some y
  some_at y is = front ∙ ap (λ (o : Option B). option_or o (first_some f (drop (i + 1) xs))) is

  pub none_at : f (get_or xs i d) ≡ None → first_some f (drop i xs) ≡ first_some f (drop (i + 1) xs)
  none_at is = front ∙ ap (λ (o : Option B). option_or o (first_some f (drop (i + 1) xs))) is

pub first_map : {A B C : Type 0} (f : B → Option C) (g : A → B) (xs : List A) → first_some f (map g xs) ≡ first_some (λ x. f (g x)) xs
first_map f g [] = refl
first_map f g (x ∷ xs) = ap (option_or (f (g x))) (first_map f g xs)

pub drop_all : {A B : Type 0} (f : A → Option B) (xs : List A) (i : ℕ) → i ≡ length xs → first_some f (drop i xs) ≡ None
drop_all f [] zero is = refl
drop_all f [] (suc i) is = refl
drop_all f (x ∷ xs) zero is = absurd (omega (arith, is))
drop_all f (x ∷ xs) (suc i) is = drop_all f xs i (omega (arith, is))

-- ---- shared shards

module _ {S Z B : Type 0} (f : S → Option B) (shared : List (Arc S Z)) (i : ℕ) where
  -- the values before this place give nothing
  abbrev pub NoneBefore : Type 0
  NoneBefore = first_some (λ s. f (arc_value s)) shared ≡ first_some (λ s. f (arc_value s)) (drop i shared)

  pub none_ends : NoneBefore → i ≡ length shared → None ≡ first_some f (map arc_value shared)
  none_ends none is = sym (first_map f arc_value shared ∙ none ∙ drop_all (λ s. f (arc_value s)) shared i is)

  module _ (item : Arc S Z) (at : item ≡ get_or shared i item) (within : i < length shared) (r : Option B) (gives : r ≡ f (arc_value item)) where
    given : f (arc_value (get_or shared i item)) ≡ r
    given = ap (λ (s : Arc S Z). f (arc_value s)) (sym at) ∙ sym gives

    pub hit : NoneBefore → (y : B) → r ≡ Some y → Some y ≡ first_some f (map arc_value shared)
    hit none y is = sym (first_map f arc_value shared ∙ none ∙ some_at (λ s. f (arc_value s)) shared i item within y (given ∙ is))

    pub missed : NoneBefore → r ≡ None → first_some (λ s. f (arc_value s)) shared ≡ first_some (λ s. f (arc_value s)) (drop (i + 1) shared)
    missed none is = none ∙ none_at (λ s. f (arc_value s)) shared i item within (given ∙ is)

-- what holds of the values of all holds of each
pub shared_has : {S Z : Type 0} (P : S → Type 0) (shared : List (Arc S Z)) (i : ℕ) (item : Arc S Z) → i < length shared → item ≡ get_or shared i item → All P (map arc_value shared) → P (arc_value item)
shared_has P (x ∷ xs) zero item within at all = subst (λ s. P (arc_value s)) (sym at) (all 0 (arc_value x) (omega arith))
shared_has P (x ∷ xs) (suc i) item within at all = shared_has P xs i item (omega (arith, within)) at (λ k d lt. all (suc k) d (omega (arith, lt)))
shared_has P [] i item within at all = absurd (omega (arith, within))

-- ---- nodes

-- the first node that isn't before a unit, where so many are before it
pub first_from_point : (unit : ℕ) (nodes : List NodeSeen) (n : ℕ) → ((k : ℕ) (d : NodeSeen) → k < n → (get_or nodes k d).facts.unit < unit) → ((k : ℕ) (d : NodeSeen) → n ≤ k → k < length nodes → unit ≤ (get_or nodes k d).facts.unit) → find (λ d. leb unit d.facts.unit) nodes ≡ slice_get nodes n
first_from_point unit [] n before behind = refl
first_from_point unit (x ∷ xs) zero before behind = ap (λ (b : Bool). cond b (Some x) (find (λ d. leb unit d.facts.unit) xs)) (le-leb unit x.facts.unit (behind 0 x (omega arith) (omega arith)))
first_from_point unit (x ∷ xs) (suc n) before behind =
    ap (λ (b : Bool). cond b (Some x) (find (λ d. leb unit d.facts.unit) xs)) (lt-leb unit x.facts.unit (before 0 x (omega arith))) ∙
    first_from_point unit xs n (λ k d lt. before (suc k) d (omega (arith, lt))) (λ k d le lt. behind (suc k) d (omega (arith, le)) (omega (arith, lt)))
