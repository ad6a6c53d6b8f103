-- The length of a decoded name: each `__` becomes one byte.
use Rattle.std.proofs.Common.{◌≡◌, ℕ, ◌+◌, ◌<◌, ◌≤◌, Bool, true, false, ◌&&◌, List, [], ◌∷◌, ◌++◌, length, take, drop, ◌-◌, flat_map, cond, refl, sym, subst, arith, length-append, length-take, length-drop, ⊎_elim}
use Rattle.std.specs.Prelude.{codes}
use Rattle.std.specs.List.{onto_first, suffix_len}
use Rattle.std.proofs.lemmas.Bool.{cases_Bool}
use Rattle.index_model.specs.AdaNames.{pieces, is_line, is_digit, before_digits, without_number, without_prefix, shortened}
use Rattle.index_model.specs.Sections.{begins_with}
use Rattle.name_forms.specs.Pieces.{pointed}
use Rattle.name_forms.proofs.CutLaws.{step_on, step_off, one, nothing}

abbrev pub points : List (List ℕ) → List ℕ
points ps = flat_map (λ piece. codes "." ++ piece) ps

-- there are pieces, and the name has so many bytes: each piece but the last is followed by two
pub record AddsUp (ps : List (List ℕ)) (n : ℕ) : Type 0 where
  pub some : 0 < length ps
  pub adds : length (pointed ps) + length ps ≡ n + 1

points_length : (ps : List (List ℕ)) → 0 < length ps → length (points ps) ≡ length (pointed ps) + 1
points_length [] some = absurd (omega arith)
points_length (p ∷ ps) some = omega (arith, length-append p (points ps), length-append (codes "." ++ p) (points ps))

behind_cut : (ps : List (List ℕ)) (n : ℕ) → AddsUp ps n → AddsUp ([] ∷ ps) (n + 2)
behind_cut ps n h = record { some = omega arith; adds = omega (arith, h.adds, points_length ps h.some) }

with_first : (a : ℕ) (ps : List (List ℕ)) (n : ℕ) → AddsUp ps n → AddsUp (onto_first a ps) (n + 1)
with_first a [] n h = absurd (omega (arith, h.some))
with_first a (p ∷ ps) n h = record { some = omega arith; adds = omega (arith, h.adds) }

pub adds_up : (xs : List ℕ) → AddsUp (pieces xs) (length xs)
adds_up [] = subst (λ (ps : List (List ℕ)). AddsUp ps 0) (sym nothing) (record { some = omega arith; adds = refl })
adds_up (a ∷ []) = subst (λ (ps : List (List ℕ)). AddsUp ps 1) (sym (one a)) (record { some = omega arith; adds = refl })
adds_up (a ∷ b ∷ bs) =
    let two : length bs + 2 ≡ length (a ∷ b ∷ bs) = omega arith in
    let next : length (b ∷ bs) + 1 ≡ length (a ∷ b ∷ bs) = omega arith in
    ⊎_elim
    (λ on. subst (λ (ps : List (List ℕ)). AddsUp ps (length (a ∷ b ∷ bs))) (sym (step_on a b bs on)) (subst (AddsUp ([] ∷ pieces bs)) two (behind_cut (pieces bs) (length bs) (adds_up bs))))
    (λ off. subst (λ (ps : List (List ℕ)). AddsUp ps (length (a ∷ b ∷ bs))) (sym (step_off a b bs off)) (subst (AddsUp (onto_first a (pieces (b ∷ bs)))) next (with_first a (pieces (b ∷ bs)) (length (b ∷ bs)) (adds_up (b ∷ bs)))))
    (cases_Bool (is_line a && is_line b))

at_most : (b : Bool) (xs ys : List ℕ) (n : ℕ) → length xs ≤ n → length ys ≤ n → length (cond b xs ys) ≤ n
at_most true xs ys n h k = h
at_most false xs ys n h k = k

pub without_number_length : (name : List ℕ) → length (without_number name) ≤ length name
unfolding without_number
without_number_length name =
    let stem = before_digits name in
    let most : length stem ≤ length name = omega (arith, length-take (length name - suffix_len is_digit name) name) in
    at_most _ (take (length stem - 2) stem) name (length name) (omega (arith, most, length-take (length stem - 2) stem)) (omega arith)

pub without_prefix_length : (name : List ℕ) → length (without_prefix name) ≤ length name
without_prefix_length name = at_most (begins_with (codes "_ada_") name) (drop 5 name) name (length name) (omega (arith, length-drop 5 name)) (omega arith)

pub shortened_length : (name : List ℕ) → length (shortened name) ≤ length name
shortened_length name = omega (arith, without_number_length (without_prefix name), without_prefix_length name)
