-- What a loop finds in a list whose members are numbered.
use Rattle.std.proofs.Common.{◌≡◌, ℕ, zero, suc, ◌+◌, ◌<◌, ◌≤◌, List, [], ◌∷◌, ◌++◌, length, map, take, drop, get_or, Option, Some, None, refl, sym, ap, ◌∙◌, arith, append_assoc}
use Rattle.std.specs.Prelude.{filter_map}
use Rattle.std.specs.List.{enumerate_from, cons_option}
use Rattle.std.proofs.Math.Seq.{drop-cons, take-append_seam}

module _ {X : Type 0} where
  pub numbered_more : (us : List X) (n : ℕ) (d : X) → n < length us → enumerate_from n (drop n us) ≡ (n, get_or us n d) ∷ enumerate_from (n + 1) (drop (n + 1) us)
  numbered_more us n d within =
      let next : suc n ≡ n + 1 = omega arith in
      ap (enumerate_from n) (drop-cons us n d within) ∙ ap (λ (k : ℕ). (n, get_or us n d) ∷ enumerate_from (n + 1) (drop k us)) next

  pub numbered_none : (us : List X) (n k : ℕ) → length us ≤ n → enumerate_from k (drop n us) ≡ []
  numbered_none [] zero k le = refl
  numbered_none [] (suc n) k le = refl
  numbered_none (u ∷ us) zero k le = absurd (omega arith)
  numbered_none (u ∷ us) (suc n) k le = numbered_none us n k (omega (arith, le))

  module _ {B : Type 0} (f : ℕ × X → Option B) where
    abbrev pub found_from : ℕ → List X → List B
    found_from n us = filter_map f (enumerate_from n us)

    -- what was found and the next, which is one or none
    pub found_one : (us : List X) (n : ℕ) (d : X) (found all : List B) (b : B) → n < length us → f (n, get_or us n d) ≡ Some b → found ++ found_from n (drop n us) ≡ all → (found ++ b ∷ []) ++ found_from (n + 1) (drop (n + 1) us) ≡ all
    found_one us n d found all b lt is h =
        let rest = found_from (n + 1) (drop (n + 1) us) in
        append_assoc found (b ∷ []) rest ∙
        ap (λ (x : Option B). found ++ cons_option x rest) (sym is) ∙
        ap (λ (xs : List (ℕ × X)). found ++ filter_map f xs) (sym (numbered_more us n d lt)) ∙
        h

    pub found_no : (us : List X) (n : ℕ) (d : X) (found all : List B) → n < length us → f (n, get_or us n d) ≡ None → found ++ found_from n (drop n us) ≡ all → found ++ found_from (n + 1) (drop (n + 1) us) ≡ all
    found_no us n d found all lt is h =
        let rest = found_from (n + 1) (drop (n + 1) us) in
        ap (λ (x : Option B). found ++ cons_option x rest) (sym is) ∙
        ap (λ (xs : List (ℕ × X)). found ++ filter_map f xs) (sym (numbered_more us n d lt)) ∙
        h

    pub found_none : (us : List X) (n : ℕ) → length us ≤ n → found_from n (drop n us) ≡ []
    found_none us n le = ap (filter_map f) (numbered_none us n n le)

  module _ {B : Type 0} (f : ℕ × X → B) where
    abbrev pub each_from : ℕ → List X → List B
    each_from n us = map f (enumerate_from n us)

    pub each_one : (us : List X) (n : ℕ) (d : X) (made all : List B) → n < length us → made ++ each_from n (drop n us) ≡ all → (made ++ f (n, get_or us n d) ∷ []) ++ each_from (n + 1) (drop (n + 1) us) ≡ all
    each_one us n d made all lt h =
        append_assoc made (f (n, get_or us n d) ∷ []) (each_from (n + 1) (drop (n + 1) us)) ∙
        ap (λ (xs : List (ℕ × X)). made ++ map f xs) (sym (numbered_more us n d lt)) ∙
        h

    pub each_none : (us : List X) (n : ℕ) → length us ≤ n → each_from n (drop n us) ≡ []
    each_none us n le = ap (map f) (numbered_none us n n le)

-- what stands in a vector once all of it was written
pub settled : {X : Type 0} (n : ℕ) (new items : List X) → length new ≡ length items → n ≡ length items → take n (new ++ drop (length new) items) ≡ new
settled n new items same all =
    let end : n ≡ length new = omega (arith, same, all) in
    ap (λ (k : ℕ). take k (new ++ drop (length new) items)) end ∙ take-append_seam new (drop (length new) items)
