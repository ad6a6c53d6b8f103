-- Lists of what passes a test, and maps of them.
use Rattle.std.proofs.Common.{◌≡◌, Bool, true, false, cond, ◌&&◌, List, [], ◌∷◌, map, filter, refl, sym, ap, ◌∙◌}
use Rattle.std.specs.Prelude.{Contains}
use Rattle.std.proofs.lemmas.Bool.{true≢false}
use Rattle.common_laws.proofs.Members.{contains_here, contains_later}

module _ {A : Type 0} where
  pub filter_agree : (p q : A → Bool) (xs : List A) → ((x : A) → Contains xs x → p x ≡ q x) → filter p xs ≡ filter q xs
  filter_agree p q [] same = refl
  filter_agree p q (x ∷ xs) same =
      ap (λ (b : Bool). cond b (x ∷ filter p xs) (filter p xs)) (same x (contains_here x xs)) ∙
      ap (λ (ys : List A). cond (q x) (x ∷ ys) ys) (filter_agree p q xs (λ y c. same y (contains_later x xs y c)))

  pub filter_none : (p : A → Bool) (xs : List A) → ((x : A) → Contains xs x → p x ≡ false) → filter p xs ≡ []
  filter_none p [] none = refl
  filter_none p (x ∷ xs) none =
      ap (λ (b : Bool). cond b (x ∷ filter p xs) (filter p xs)) (none x (contains_here x xs)) ∙
      filter_none p xs (λ y c. none y (contains_later x xs y c))

  -- a test that is stronger needs no weaker one before it
  pub filter_within : (p q : A → Bool) (xs : List A) → ((x : A) → Contains xs x → q x ≡ true → p x ≡ true) → filter q (filter p xs) ≡ filter q xs
  filter_within p q [] up = refl
  filter_within p q (x ∷ xs) up = by (filter_within p q xs (λ y c. up y (contains_later x xs y c))) (p x) refl (q x) refl
    where
      by : filter q (filter p xs) ≡ filter q xs → (b : Bool) → p x ≡ b → (d : Bool) → q x ≡ d → filter q (cond b (x ∷ filter p xs) (filter p xs)) ≡ filter q (x ∷ xs)
      by rest true e d f = ap (λ (ys : List A). cond (q x) (x ∷ ys) ys) rest
      by rest false e true f = absurd (true≢false (sym (up x (contains_here x xs) f) ∙ e))
      by rest false e false f = rest ∙ ap (λ (b : Bool). cond b (x ∷ filter q xs) (filter q xs)) (sym f)

  -- two tests, one after the other, are both together
  pub filter_both : (q i t : A → Bool) (xs : List A) → ((x : A) → Contains xs x → (q x && i x) ≡ t x) → filter q (filter i xs) ≡ filter t xs
  filter_both q i t [] same = refl
  filter_both q i t (x ∷ xs) same =
      by (filter_both q i t xs (λ y c. same y (contains_later x xs y c))) (i x) (q x) refl ∙
      ap (λ (b : Bool). cond b (x ∷ filter t xs) (filter t xs)) (same x (contains_here x xs))
    where
      by : filter q (filter i xs) ≡ filter t xs → (a b : Bool) → q x ≡ b → filter q (cond a (x ∷ filter i xs) (filter i xs)) ≡ cond (b && a) (x ∷ filter t xs) (filter t xs)
      by rest true true f = ap (λ (b : Bool). cond b (x ∷ filter q (filter i xs)) (filter q (filter i xs))) f ∙ ap (λ (ys : List A). x ∷ ys) rest
      by rest true false f = ap (λ (b : Bool). cond b (x ∷ filter q (filter i xs)) (filter q (filter i xs))) f ∙ rest
      by rest false true f = rest
      by rest false false f = rest

pub map_filter : {A B : Type 0} (f : A → B) (p : B → Bool) (xs : List A) → map f (filter (λ x. p (f x)) xs) ≡ filter p (map f xs)
map_filter f p [] = refl
map_filter {B = B} f p (x ∷ xs) = by (map_filter f p xs) (p (f x))
  where
    by : map f (filter (λ y. p (f y)) xs) ≡ filter p (map f xs) → (b : Bool) → map f (cond b (x ∷ filter (λ y. p (f y)) xs) (filter (λ y. p (f y)) xs)) ≡ cond b (f x ∷ filter p (map f xs)) (filter p (map f xs))
    by rest true = ap (λ (ys : List B). f x ∷ ys) rest
    by rest false = rest

pub map_map : {A B C : Type 0} (f : A → B) (g : B → C) (xs : List A) → map g (map f xs) ≡ map (λ x. g (f x)) xs
map_map f g [] = refl
map_map {C = C} f g (x ∷ xs) = ap (λ (ys : List C). g (f x) ∷ ys) (map_map f g xs)
