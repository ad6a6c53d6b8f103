-- Lists of which one passes a test, and lists of what a function gives.
use Rattle.std.proofs.Common.{◌≡◌, ℕ, zero, suc, ◌<◌, Bool, true, false, cond, ◌||◌, List, [], ◌∷◌, length, map, get_or, Option, Some, None, refl, sym, ap, subst, ◌∙◌, arith, ⊎_elim}
use Rattle.std.specs.Prelude.{Contains, find, filter_map, slice_get}
use Rattle.std.specs.List.{list_any, cons_option}
use Rattle.std.proofs.lemmas.Bool.{true≢false}
use Rattle.std.proofs.lemmas.Option.{same_Some}
use Rattle.common_laws.proofs.Members.{contains_here, contains_later, contains_cases}

either : (a b : Bool) → b ≡ true → (a || b) ≡ true
either true b e = refl
either false b e = e

module _ {A : Type 0} where
  pub any_on : (p : A → Bool) (xs : List A) (x : A) → Contains xs x → p x ≡ true → list_any p xs ≡ true
  any_on p [] x c e = absurd (omega (arith, c.1))
  any_on p (y ∷ ys) x c e = ⊎_elim
      (λ (same : y ≡ x). ap (λ (b : Bool). b || list_any p ys) (ap p same ∙ e))
      (λ (later : Contains ys x). either (p y) (list_any p ys) (any_on p ys x later e))
      (contains_cases y ys x c)

  pub any_of : (p : A → Bool) (xs : List A) → list_any p xs ≡ true → (x : A) × Contains xs x × (p x ≡ true)
  any_of p [] e = absurd (true≢false (sym e))
  any_of p (y ∷ ys) e = by (any_of p ys) (p y) refl
    where
      by : (list_any p ys ≡ true → (x : A) × Contains ys x × (p x ≡ true)) → (b : Bool) → p y ≡ b → (x : A) × Contains (y ∷ ys) x × (p x ≡ true)
      by rest true on = (y, contains_here y ys, on)
      by rest false off =
          let r = rest (sym (ap (λ (b : Bool). b || list_any p ys) off) ∙ e) in
          (r.0, contains_later y ys r.0 r.1, r.2)

  -- what is found is the first that passes
  pub find_first : (p : A → Bool) (xs : List A) (k : ℕ) (x : A) → slice_get xs k ≡ Some x → p x ≡ true → ((j : ℕ) (y : A) → j < k → slice_get xs j ≡ Some y → p y ≡ false) → find p xs ≡ Some x
  find_first p [] k x is on off = absurd cc
  find_first p (y ∷ ys) zero x is on off =
      let same : y ≡ x = same_Some y x is in
      ap (λ (b : Bool). cond b (Some y) (find p ys)) (ap p same ∙ on) ∙ ap (λ (z : A). Some z) same
  find_first p (y ∷ ys) (suc k) x is on off =
      ap (λ (b : Bool). cond b (Some y) (find p ys)) (off 0 y (omega arith) refl) ∙
      find_first p ys k x is on (λ j z lt e. off (suc j) z (omega (arith, lt)) e)

  pub find_none : (p : A → Bool) (xs : List A) → ((k : ℕ) (x : A) → slice_get xs k ≡ Some x → p x ≡ false) → find p xs ≡ None
  find_none p [] off = refl
  find_none p (y ∷ ys) off = ap (λ (b : Bool). cond b (Some y) (find p ys)) (off 0 y refl) ∙ find_none p ys (λ k x e. off (suc k) x e)

  -- a member stands somewhere, and what stands somewhere is a member
  pub place_of : (xs : List A) (x : A) → Contains xs x → (k : ℕ) × (slice_get xs k ≡ Some x)
  place_of [] x c = absurd (omega (arith, c.1))
  place_of (y ∷ ys) x c = ⊎_elim
      (λ (same : y ≡ x). (0, ap (λ (z : A). Some z) same))
      (λ (later : Contains ys x). let r = place_of ys x later in (suc r.0, r.1))
      (contains_cases y ys x c)

  pub member_at : (xs : List A) (k : ℕ) (x : A) → slice_get xs k ≡ Some x → Contains xs x
  member_at [] k x is = absurd cc
  member_at (y ∷ ys) zero x is = subst (Contains (y ∷ ys)) (same_Some y x is) (contains_here y ys)
  member_at (y ∷ ys) (suc k) x is = contains_later y ys x (member_at ys k x is)

  -- what stands within a list
  pub item_within : (xs : List A) (k : ℕ) → k < length xs → (x : A) × (slice_get xs k ≡ Some x)
  item_within [] k lt = absurd (omega arith)
  item_within (y ∷ ys) zero lt = (y, refl)
  item_within (y ∷ ys) (suc k) lt = item_within ys k (omega (arith, lt))

module _ {A B : Type 0} where
  pub to_filter_map : (f : A → Option B) (xs : List A) (x : A) (y : B) → Contains xs x → f x ≡ Some y → Contains (filter_map f xs) y
  to_filter_map f [] x y c e = absurd (omega (arith, c.1))
  to_filter_map f (z ∷ zs) x y c e = ⊎_elim
      (λ (same : z ≡ x). subst (λ (o : Option B). Contains (cons_option o (filter_map f zs)) y) (sym (ap f same ∙ e)) (contains_here y (filter_map f zs)))
      (λ (later : Contains zs x). behind (f z) (filter_map f zs) (to_filter_map f zs x y later e))
      (contains_cases z zs x c)
    where
      behind : (o : Option B) (ys : List B) → Contains ys y → Contains (cons_option o ys) y
      behind None ys m = m
      behind (Some b) ys m = contains_later b ys y m

  pub of_filter_map : (f : A → Option B) (xs : List A) (y : B) → Contains (filter_map f xs) y → (x : A) × Contains xs x × (f x ≡ Some y)
  of_filter_map f [] y c = absurd (omega (arith, c.1))
  of_filter_map f (z ∷ zs) y c = by (λ l. let r = of_filter_map f zs y l in (r.0, contains_later z zs r.0 r.1, r.2)) (f z) refl
    where
      by : (Contains (filter_map f zs) y → (x : A) × Contains (z ∷ zs) x × (f x ≡ Some y)) → (o : Option B) → f z ≡ o → (x : A) × Contains (z ∷ zs) x × (f x ≡ Some y)
      by further None e = further (subst (λ (o : Option B). Contains (cons_option o (filter_map f zs)) y) e c)
      by further (Some b) e = ⊎_elim
          (λ (same : b ≡ y). (z, contains_here z zs, e ∙ ap (λ (v : B). Some v) same))
          (λ (later : Contains (filter_map f zs) y). further later)
          (contains_cases b (filter_map f zs) y (subst (λ (o : Option B). Contains (cons_option o (filter_map f zs)) y) e c))

  -- a list that is a map, place by place
  pub map_by_place : (f : A → Option B) (xs : List A) (ys : List (Option B)) → length ys ≡ length xs → ((k : ℕ) (x : A) → slice_get xs k ≡ Some x → get_or ys k None ≡ f x) → ys ≡ map f xs
  map_by_place f [] [] long each = refl
  map_by_place f [] (y ∷ ys) long each = absurd (omega (arith, long))
  map_by_place f (x ∷ xs) [] long each = absurd (omega (arith, long))
  map_by_place f (x ∷ xs) (y ∷ ys) long each =
      ap (λ (z : Option B). z ∷ ys) (each 0 x refl) ∙
      ap (λ (zs : List (Option B)). f x ∷ zs) (map_by_place f xs ys (omega (arith, long)) (λ k v e. each (suc k) v e))
