-- What a search finds in a producer.
use Rattle.std.proofs.Common.{◌≡◌, ℕ, zero, suc, ◌+◌, ◌<◌, ◌≤◌, Bool, true, false, ◌||◌, List, [], ◌∷◌, ◌++◌, length, take, drop, Option, Some, None, refl, sym, ap, ◌∙◌, arith, length-take, length-drop}
use Rattle.std.specs.Prelude.{is_some}
use Rattle.std.proofs.Math.Seq.{take-append_seam}
use Rattle.std.proofs.lemmas.Bool.{true≢false}
use Rattle.std.proofs.lemmas.Bool.Decides.{Decides-eqb}
use Rattle.std.proofs.lemmas.List.{take-append-drop}
use Rattle.std.proofs.lemmas.Slice.Eq.{starts_is}
use Rattle.memchr.specs.Find.{FindsNeedle}
use Rattle.memchr.proofs.lemmas.MatchLemmas.{OccursAt-part, OccursAt-from_part}
use Rattle.index_model.specs.Sections.{begins_with}
use Rattle.gdb_entries.specs.Owners.{mentions}

module _ (n : List ℕ) where
  abbrev Begins : List ℕ → Type 0
  Begins s = take (length n) s ≡ n

  begun : (s : List ℕ) → Begins s → begins_with n s ≡ true
  begun s part = (starts_is Decides-eqb s n (begins_with n s) refl).1 (drop (length n) s) (sym (take-append-drop (length n) s) ∙ ap (λ (t : List ℕ). t ++ drop (length n) s) part)

  begins : (s : List ℕ) → begins_with n s ≡ true → Begins s
  begins s on = ap (take (length n)) ((starts_is Decides-eqb s n (begins_with n s) refl).0 on) ∙ take-append_seam n (drop (length n) s)

  mentioned : (s : List ℕ) (k : ℕ) → k < length s → Begins (drop k s) → mentions n s ≡ true
  unfolding mentions
  mentioned [] k lt part = absurd (omega arith)
  mentioned (b ∷ bs) zero lt part = ap (λ (x : Bool). x || mentions n bs) (begun (b ∷ bs) part)
  mentioned (b ∷ bs) (suc k) lt part = right (begins_with n (b ∷ bs)) (mentions n bs) (mentioned bs k (omega (arith, lt)) part)
    where
      right : (x y : Bool) → y ≡ true → (x || y) ≡ true
      right true y e = refl
      right false y e = e

  place_in : (s : List ℕ) → mentions n s ≡ true → (k : ℕ) × (k < length s) × Begins (drop k s)
  unfolding mentions
  place_in [] on = absurd (true≢false (sym on))
  place_in (b ∷ bs) on = by (place_in bs) (begins_with n (b ∷ bs)) refl
    where
      by : (mentions n bs ≡ true → (k : ℕ) × (k < length bs) × Begins (drop k bs)) → (x : Bool) → begins_with n (b ∷ bs) ≡ x → (k : ℕ) × (k < length (b ∷ bs)) × Begins (drop k (b ∷ bs))
      by rest true e = (0, omega arith, begins (b ∷ bs) e)
      by rest false e =
          let r = rest (sym (ap (λ (x : Bool). x || mentions n bs) e) ∙ on) in
          (suc r.0, omega (arith, r.1), r.2)

  -- the search finds something exactly where the text mentions it
  pub found_if : (s : List ℕ) (r : Option ℕ) → 0 < length n → FindsNeedle s n 0 r → is_some r ≡ mentions n s
  found_if s (Some k) some h = sym (mentioned s k (omega (arith, h.1.fits, some)) (OccursAt-part s n k h.1))
  found_if s None some h = by (mentions n s) refl
    where
      by : (x : Bool) → mentions n s ≡ x → false ≡ mentions n s
      by false e = sym e
      by true e =
          let p = place_in s e in
          let size : length n ≡ length (take (length n) (drop p.0 s)) = ap (λ (t : List ℕ). length t) (sym p.2) in
          let fits : p.0 + length n ≤ length s = omega (arith, p.1, size, length-take (length n) (drop p.0 s), length-drop p.0 s) in
          absurd (h p.0 (omega arith) (omega (arith, fits)) (OccursAt-from_part s n p.0 fits p.2))
