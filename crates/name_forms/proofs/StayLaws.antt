-- A name of Ada that is as long as its decoded form stays as it stood.
use Rattle.std.proofs.Common.{◌≡◌, ℕ, ◌-◌, ◌<◌, ◌≤◌, Bool, true, false, ◌&&◌, List, [], ◌∷◌, length, take, drop, cond, refl, sym, ap, ◌∙◌, arith, length-take, length-drop, ⊎_elim}
use Rattle.std.specs.Prelude.{codes}
use Rattle.std.specs.List.{onto_first, suffix_len}
use Rattle.std.proofs.lemmas.Bool.{cases_Bool}
use Rattle.std.proofs.lemmas.List.{take_all}
use Rattle.index_model.specs.Sections.{begins_with}
use Rattle.index_model.specs.AdaNames.{pieces, is_line, is_digit, before_digits, without_number, without_prefix, shortened, is_coded, decoded}
use Rattle.name_forms.specs.Pieces.{pointed}
use Rattle.name_forms.proofs.CutLaws.{step_on, step_off, one, nothing}
use Rattle.name_forms.proofs.LengthLaws.{adds_up, shortened_length, without_number_length}
use Rattle.name_forms.proofs.ScopeLaws.{empty}

-- a front as long as the whole is the whole
whole : (k : ℕ) (xs : List ℕ) → length xs ≤ length (take k xs) → take k xs ≡ xs
whole k xs h = take_all k xs (omega (arith, h, length-take k xs))

chosen : (b : Bool) (xs ys : List ℕ) → (length ys ≤ length xs → xs ≡ ys) → length ys ≤ length (cond b xs ys) → cond b xs ys ≡ ys
chosen true xs ys same h = same h
chosen false xs ys same h = refl

kept_number : (name : List ℕ) → length name ≤ length (without_number name) → without_number name ≡ name
unfolding without_number
kept_number name h =
    let n = length name - suffix_len is_digit name in
    let stem = before_digits name in
    chosen _ (take (length stem - 2) stem) name (λ long.
    let all : stem ≡ name = whole n name (omega (arith, long, length-take (length stem - 2) stem)) in
    whole (length stem - 2) stem (omega (arith, long, ap length all)) ∙ all) h

kept_prefix : (name : List ℕ) → length name ≤ length (without_prefix name) → without_prefix name ≡ name
kept_prefix name h =
    chosen (begins_with (codes "_ada_") name) (drop 5 name) name (λ long.
    let none : length name ≡ 0 = omega (arith, long, length-drop 5 name) in
    empty (drop 5 name) (omega (arith, none, length-drop 5 name)) ∙ sym (empty name none)) h

kept : (name : List ℕ) → length name ≤ length (shortened name) → shortened name ≡ name
kept name h =
    let front = without_prefix name in
    let all : front ≡ name = kept_prefix name (omega (arith, h, without_number_length front)) in
    kept_number front (omega (arith, h, ap length all)) ∙ all

grows : (a : ℕ) (ps : List (List ℕ)) → 0 < length ps → length (onto_first a ps) ≡ length ps
grows a [] h = absurd (omega (arith, h))
grows a (p ∷ ps) h = refl

begins : (a : ℕ) (ps : List (List ℕ)) → 0 < length ps → pointed (onto_first a ps) ≡ a ∷ pointed ps
begins a [] h = absurd (omega (arith, h))
begins a (p ∷ ps) h = refl

-- a single piece is the whole
single : (xs : List ℕ) → length (pieces xs) ≡ 1 → pointed (pieces xs) ≡ xs
single [] e = ap pointed nothing
single (a ∷ []) e = ap pointed (one a)
single (a ∷ b ∷ bs) e =
    let rest = pieces (b ∷ bs) in
    let some = (adds_up (b ∷ bs)).some in
    ⊎_elim
    (λ on. absurd (omega (arith, e, ap length (step_on a b bs on), (adds_up bs).some)))
    (λ off.
    let long : length rest ≡ 1 = omega (arith, e, ap length (step_off a b bs off), grows a rest some) in
    ap pointed (step_off a b bs off) ∙ begins a rest some ∙ ap (λ (t : List ℕ). a ∷ t) (single (b ∷ bs) long))
    (cases_Bool (is_line a && is_line b))

stays_coded : (name : List ℕ) → length (pointed (pieces (shortened name))) ≡ length name → pointed (pieces (shortened name)) ≡ name
stays_coded name e =
    let short = shortened name in
    let sum = adds_up short in
    let most = shortened_length name in
    single short (omega (arith, e, sum.some, sum.adds, most)) ∙ kept name (omega (arith, e, sum.some, sum.adds, most))

pub stays : (name : List ℕ) → length (decoded name) ≡ length name → decoded name ≡ name
unfolding decoded
stays name e = go (is_coded name) e
  where
    go : (b : Bool) → length (cond b (pointed (pieces (shortened name))) name) ≡ length name → cond b (pointed (pieces (shortened name))) name ≡ name
    go true e = stays_coded name e
    go false e = refl

pub decoded_is : (name short : List ℕ) → is_coded name ≡ true → short ≡ shortened name → decoded name ≡ pointed (pieces short)
unfolding decoded
decoded_is name short e s = ap (λ (b : Bool). cond b (pointed (pieces (shortened name))) name) e ∙ ap (λ (x : List ℕ). pointed (pieces x)) (sym s)

pub decoded_not : (name : List ℕ) → is_coded name ≡ false → decoded name ≡ name
unfolding decoded
decoded_not name e = ap (λ (b : Bool). cond b (pointed (pieces (shortened name))) name) e
