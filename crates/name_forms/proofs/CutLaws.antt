-- The first `__` of a name ends its first piece.
use Rattle.std.proofs.Common.{◌≡◌, ℕ, zero, suc, ◌+◌, Bool, true, false, ◌&&◌, eqb, List, [], ◌∷◌, take, drop, cond, refl, ap, ◌∙◌, arith, ⊎_elim}
use Rattle.std.specs.Prelude.{slice_index}
use Rattle.std.specs.List.{onto_first}
use Rattle.std.proofs.lemmas.Bool.{cases_Bool, eqb-true, eq-eqb}
use Rattle.name_forms.specs.Pieces.{HasNoCut, HasNoCutBefore, IsCut, IsFirstCut}
use Rattle.index_model.specs.AdaNames.{pieces, is_line}

pub step_on : (a b : ℕ) (bs : List ℕ) → (is_line a && is_line b) ≡ true → pieces (a ∷ b ∷ bs) ≡ [] ∷ pieces bs
unfolding pieces
step_on a b bs e = ap (λ (t : Bool). cond t ([] ∷ pieces bs) (onto_first a (pieces (b ∷ bs)))) e

pub step_off : (a b : ℕ) (bs : List ℕ) → (is_line a && is_line b) ≡ false → pieces (a ∷ b ∷ bs) ≡ onto_first a (pieces (b ∷ bs))
unfolding pieces
step_off a b bs e = ap (λ (t : Bool). cond t ([] ∷ pieces bs) (onto_first a (pieces (b ∷ bs)))) e

pub one : (a : ℕ) → pieces (a ∷ []) ≡ (a ∷ []) ∷ []
unfolding pieces
one a = refl

pub nothing : pieces [] ≡ [] ∷ []
unfolding pieces
nothing = refl

both : (s t : Bool) → (s && t) ≡ true → (s ≡ true) × (t ≡ true)
both true true e = (refl, refl)
both true false e = (refl, e)
both false t e = absurd (cc)

-- two lines in front are a `__`
cut_in_front : (a b : ℕ) (bs : List ℕ) → (is_line a && is_line b) ≡ true → IsCut (a ∷ b ∷ bs) 0
cut_in_front a b bs e =
    let parts = both (is_line a) (is_line b) e in
    record { within = omega arith; first = eqb-true a 95 parts.0; second = eqb-true b 95 parts.1 }

lines : (a b : ℕ) (bs : List ℕ) → IsCut (a ∷ b ∷ bs) 0 → (is_line a && is_line b) ≡ true
lines a b bs h =
    let e : eqb a 95 ≡ true = eq-eqb a 95 h.first in
    let f : eqb b 95 ≡ true = eq-eqb b 95 h.second in
    rw (e, f) refl

-- a `__` behind the first byte
cut_behind : (a : ℕ) (xs : List ℕ) (k : ℕ) → IsCut xs k → IsCut (a ∷ xs) (suc k)
cut_behind a xs k h =
    let moved : suc k + 1 ≡ suc (k + 1) = omega arith in
    record { within = omega (arith, h.within); first = h.first; second = ap (λ (i : ℕ). slice_index (a ∷ xs) i) moved ∙ h.second }

cut_after : (a : ℕ) (xs : List ℕ) (k : ℕ) → IsCut (a ∷ xs) (suc k) → IsCut xs k
cut_after a xs k h =
    let moved : suc (k + 1) ≡ suc k + 1 = omega arith in
    record { within = omega (arith, h.within); first = h.first; second = ap (λ (i : ℕ). slice_index (a ∷ xs) i) moved ∙ h.second }

-- a name without `__` is one piece
uncut : (xs : List ℕ) → ((k : ℕ) → ¬ IsCut xs k) → pieces xs ≡ xs ∷ []
uncut [] absent = nothing
uncut (a ∷ []) absent = one a
uncut (a ∷ b ∷ bs) absent =
    let rest = uncut (b ∷ bs) (λ k h. absent (suc k) (cut_behind a (b ∷ bs) k h)) in
    ⊎_elim (λ on. absurd (absent 0 (cut_in_front a b bs on))) (λ off. step_off a b bs off ∙ ap (onto_first a) rest) (cases_Bool (is_line a && is_line b))

-- the first `__` ends the first piece
cut : (xs : List ℕ) (k : ℕ) → IsCut xs k → HasNoCutBefore xs k → pieces xs ≡ take k xs ∷ pieces (drop (k + 2) xs)
cut [] k h absent = absurd (omega (arith, h.within))
cut (a ∷ []) k h absent = absurd (omega (arith, h.within))
cut (a ∷ b ∷ bs) zero h absent = step_on a b bs (lines a b bs h)
cut (a ∷ b ∷ bs) (suc k) h absent =
    let moved : suc (k + 2) ≡ suc k + 2 = omega arith in
    let rest = cut (b ∷ bs) k (cut_after a (b ∷ bs) k h) (λ j lt other. absent (suc j) (omega arith) (cut_behind a (b ∷ bs) j other)) in
    ⊎_elim
    (λ on. absurd (absent 0 (omega arith) (cut_in_front a b bs on)))
    (λ off. step_off a b bs off ∙ ap (onto_first a) rest ∙ ap (λ (m : ℕ). (a ∷ take k (b ∷ bs)) ∷ pieces (drop m (a ∷ b ∷ bs))) moved)
    (cases_Bool (is_line a && is_line b))

-- where there is no `__`, the name is one piece
pub found_none : (xs : List ℕ) → HasNoCut xs → pieces xs ≡ xs ∷ []
found_none xs h = uncut xs (λ k is. h k (omega (arith, is.within)) is)

-- where there is one, the first ends the first piece
pub found_some : (xs : List ℕ) (k : ℕ) → IsFirstCut xs k → pieces xs ≡ take k xs ∷ pieces (drop (k + 2) xs)
found_some xs k h = cut xs k h.0 h.1
