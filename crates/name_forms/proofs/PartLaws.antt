-- A name that is read byte by byte is good exactly where its bytes and its pieces are.
use Rattle.std.proofs.Common.{◌≡◌, ℕ, suc, ◌-◌, ◌<◌, Bool, true, false, not, ◌&&◌, ◌||◌, eqb, List, [], ◌∷◌, ◌++◌, length, drop, cond, Some, None, refl, sym, ap, ◌∙◌, arith, ⊎_elim}
use Rattle.std.specs.Prelude.{codes, nat_eq}
use Rattle.std.specs.Cmp.Lexicographic.{pointwise}
use Rattle.std.specs.List.{onto_first, ends_with, list_all}
use Rattle.std.proofs.lemmas.Bool.{cases_Bool, eqb-true, eq-eqb, ne_eqb}
use Rattle.common_laws.proofs.Booleans.{second_off}
use Rattle.index_model.specs.AdaNames.{pieces, is_digit, is_letter, is_line, is_good_byte, is_good_piece}
use Rattle.name_forms.specs.declared.parts.Before.{Before}
use Rattle.name_forms.specs.declared.parts.Before.TheVariants as of
use Rattle.name_forms.specs.Coded.{front, is_good, part_after}
use Rattle.name_forms.proofs.CutLaws.{step_on, step_off, one, nothing}
use Rattle.name_forms.proofs.LengthLaws.{adds_up}

abbrev all_good : List (List ℕ) → Bool
all_good ps = list_all is_good_piece ps

abbrev ends_in_line : List ℕ → Bool
ends_in_line xs = ends_with nat_eq xs (codes "_")

ends_more : (a q : ℕ) (qs : List ℕ) → ends_in_line (a ∷ q ∷ qs) ≡ ends_in_line (q ∷ qs)
ends_more a q qs =
    let less : length (a ∷ q ∷ qs) - 1 ≡ suc (length (q ∷ qs) - 1) = omega arith in
    ap (λ (n : ℕ). pointwise nat_eq (codes "_") (drop n (a ∷ q ∷ qs))) less

not_line : (b : ℕ) → is_line b ≡ false → ends_in_line (b ∷ []) ≡ false
not_line b e = ap (λ (t : Bool). t && true) (turned b 95 e)
  where
    turned : (a b : ℕ) → eqb a b ≡ false → eqb b a ≡ false
    turned a b e = ne_eqb b a (λ same. clash (eqb a b) e (eq-eqb a b (sym same)))
      where
        clash : (t : Bool) → t ≡ false → t ≡ true → ⊥
        clash true x y = cc
        clash false x y = cc

-- a byte that is no line stands before the first piece
plain : (b : ℕ) (xs : List ℕ) → is_line b ≡ false → pieces (b ∷ xs) ≡ onto_first b (pieces xs)
plain b [] e = one b ∙ sym (ap (onto_first b) nothing)
plain b (x ∷ xs) e = step_off b x xs (rw e refl)

letter_line : (b : ℕ) → (is_letter b || is_digit b) ≡ true → is_line b ≡ false
letter_line b e = by (is_line b) refl
  where
    by : (t : Bool) → is_line b ≡ t → t ≡ false
    by false is = refl
    by true is =
        let same : b ≡ 95 = eqb-true b 95 is in
        let clash : false ≡ true = sym (ap (λ (c : ℕ). is_letter c || is_digit c) same) ∙ e in
        absurd (cc)

-- what stands behind a first letter counts alone where it isn't nothing
swapped : (a b : ℕ) (ps : List (List ℕ)) → is_letter a ≡ true → is_letter b ≡ true → is_line a ≡ false → is_line b ≡ false → 0 < length ps → all_good (onto_first a ps) ≡ all_good (onto_first b ps)
swapped a b [] la lb na nb some = absurd (omega (arith, some))
swapped a b ([] ∷ ps) la lb na nb some = rw (la, lb, not_line a na, not_line b nb) refl
swapped a b ((q ∷ qs) ∷ ps) la lb na nb some = rw (la, lb, ends_more a q qs, ends_more b q qs) refl

absorbed : (a b : ℕ) (ps : List (List ℕ)) → is_line a ≡ false → is_line b ≡ false → 0 < length ps → all_good (onto_first a (onto_first b ps)) ≡ all_good (onto_first a ps)
absorbed a b [] na nb some = absurd (omega (arith, some))
absorbed a b ([] ∷ ps) na nb some = rw (ends_more a b [], not_line a na, not_line b nb) refl
absorbed a b ((q ∷ qs) ∷ ps) na nb some = rw (ends_more a b (q ∷ qs), ends_more b q qs, ends_more a q qs) refl

-- ---- one byte more

some_pieces : (xs : List ℕ) → 0 < length (pieces xs)
some_pieces xs = (adds_up xs).some

letter_first : (b : ℕ) (xs : List ℕ) → is_letter b ≡ true → is_line b ≡ false → all_good (pieces (b ∷ xs)) ≡ all_good (pieces (97 ∷ xs))
letter_first b xs letter not =
    ap all_good (plain b xs not)
    ∙ swapped b 97 (pieces xs) letter refl not refl (some_pieces xs)
    ∙ sym (ap all_good (plain 97 xs refl))

inside_on : (b : ℕ) (xs : List ℕ) → is_line b ≡ false → all_good (pieces (97 ∷ b ∷ xs)) ≡ all_good (pieces (97 ∷ xs))
inside_on b xs not =
    ap all_good (plain 97 (b ∷ xs) refl ∙ ap (onto_first 97) (plain b xs not))
    ∙ absorbed 97 b (pieces xs) refl not (some_pieces xs)
    ∙ sym (ap all_good (plain 97 xs refl))

with_line : (b : ℕ) (ps : List (List ℕ)) → is_line b ≡ false → 0 < length ps → all_good (onto_first 97 (onto_first 95 (onto_first b ps))) ≡ all_good (onto_first 97 ps)
with_line b [] nb some = absurd (omega (arith, some))
with_line b ([] ∷ ps) nb some = rw (ends_more 97 95 (b ∷ []), ends_more 95 b [], not_line b nb) refl
with_line b ((q ∷ qs) ∷ ps) nb some = rw (ends_more 97 95 (b ∷ q ∷ qs), ends_more 95 b (q ∷ qs), ends_more b q qs, ends_more 97 q qs) refl

line_on : (b : ℕ) (xs : List ℕ) → is_line b ≡ false → all_good (pieces (97 ∷ 95 ∷ b ∷ xs)) ≡ all_good (pieces (97 ∷ xs))
line_on b xs not =
    ap all_good (plain 97 (95 ∷ b ∷ xs) refl ∙ ap (onto_first 97) (step_off 95 b xs not ∙ ap (onto_first 95) (plain b xs not)))
    ∙ with_line b (pieces xs) not (some_pieces xs)
    ∙ sym (ap all_good (plain 97 xs refl))

line_cut : (xs : List ℕ) → all_good (pieces (97 ∷ 95 ∷ 95 ∷ xs)) ≡ all_good (pieces xs)
line_cut xs = ap all_good (plain 97 (95 ∷ 95 ∷ xs) refl ∙ ap (onto_first 97) (step_on 95 95 xs refl))

-- a piece that begins with another byte than a letter isn't good
begins_wrong : (b : ℕ) (xs : List ℕ) → is_letter b ≡ false → all_good (pieces (b ∷ xs)) ≡ false
begins_wrong b [] e = ap all_good (one b) ∙ rw e refl
begins_wrong b (x ∷ xs) e = ⊎_elim (λ on. ap all_good (step_on b x xs on)) (λ off. ap all_good (step_off b x xs off) ∙ onto (pieces (x ∷ xs)) (some_pieces (x ∷ xs))) (cases_Bool (is_line b && is_line x))
  where
    onto : (ps : List (List ℕ)) → 0 < length ps → all_good (onto_first b ps) ≡ false
    onto [] some = absurd (omega (arith, some))
    onto (p ∷ ps) some = rw e refl

-- ---- from part to part

three : (x y z : Bool) → (x || y) ≡ true → (x || y || z) ≡ true
three true y z e = refl
three false true z e = refl
three false false z e = absurd cc

no_three : (x y z : Bool) → (x || y) ≡ false → z ≡ false → (x || y || z) ≡ false
no_three true y z e f = absurd cc
no_three false true z e f = absurd cc
no_three false false z e f = f

both_same : (g h bs x y : Bool) → g ≡ h → x ≡ y → ((g && bs) && x) ≡ ((h && bs) && y)
both_same g h bs x y e f = rw (e, f) refl

abbrev behind : Before → List ℕ → Bool
behind p xs = is_good (front p ++ xs)

inner : (b : ℕ) (xs : List ℕ) (q : Before) → (x : Bool) → all_good (pieces (97 ∷ xs)) ≡ x → is_line b ≡ false → cond (is_letter b || is_digit b) (Some of.Inside) None ≡ Some q → ((is_good_byte b && list_all is_good_byte xs) && x) ≡ behind q xs
inner b xs q x same not e = by (is_letter b || is_digit b) refl e
  where
    by : (t : Bool) → (is_letter b || is_digit b) ≡ t → cond t (Some of.Inside) None ≡ Some q → ((is_good_byte b && list_all is_good_byte xs) && x) ≡ behind q xs
    by true is e =
        let to : of.Inside ≡ q = cc in
        both_same (is_good_byte b) true (list_all is_good_byte xs) x (all_good (pieces (97 ∷ xs))) (three (is_letter b) (is_digit b) (is_line b) is) (sym same) ∙ ap (λ (p : Before). behind p xs) to
    by false is e = absurd cc

pub goes : (p q : Before) (b : ℕ) (xs : List ℕ) → Some q ≡ part_after p b → is_good (front p ++ b ∷ xs) ≡ is_good (front q ++ xs)
goes of.Begin q b xs e = by (is_letter b) refl e
  where
    by : (t : Bool) → is_letter b ≡ t → Some q ≡ cond t (Some of.Inside) None → is_good (b ∷ xs) ≡ behind q xs
    by true is e =
        let to : of.Inside ≡ q = cc in
        let either : (is_letter b || is_digit b) ≡ true = rw is refl in
        both_same (is_good_byte b) true (list_all is_good_byte xs) (all_good (pieces (b ∷ xs))) (all_good (pieces (97 ∷ xs))) (three (is_letter b) (is_digit b) (is_line b) either) (letter_first b xs is (letter_line b either)) ∙ ap (λ (p : Before). behind p xs) to
    by false is e = absurd cc
goes of.Inside q b xs e = by (is_line b) refl e
  where
    by : (t : Bool) → is_line b ≡ t → Some q ≡ cond t (Some of.Line) (cond (is_letter b || is_digit b) (Some of.Inside) None) → is_good (97 ∷ b ∷ xs) ≡ behind q xs
    by true is e =
        let to : of.Line ≡ q = cc in
        ap (λ (c : ℕ). is_good (97 ∷ c ∷ xs)) (eqb-true b 95 is) ∙ ap (λ (p : Before). behind p xs) to
    by false is e = inner b xs q (all_good (pieces (97 ∷ b ∷ xs))) (sym (inside_on b xs is)) is (sym e)
goes of.Line q b xs e = by (is_line b) refl e
  where
    by : (t : Bool) → is_line b ≡ t → Some q ≡ cond t (Some of.Begin) (cond (is_letter b || is_digit b) (Some of.Inside) None) → is_good (97 ∷ 95 ∷ b ∷ xs) ≡ behind q xs
    by true is e =
        let to : of.Begin ≡ q = cc in
        ap (λ (c : ℕ). is_good (97 ∷ 95 ∷ c ∷ xs)) (eqb-true b 95 is) ∙ ap (λ (x : Bool). list_all is_good_byte xs && x) (line_cut xs) ∙ ap (λ (p : Before). behind p xs) to
    by false is e = inner b xs q (all_good (pieces (97 ∷ 95 ∷ b ∷ xs))) (sym (line_on b xs is)) is (sym e)

wrong_byte : (b : ℕ) (xs : List ℕ) (x : Bool) → None ≡ cond (is_line b) (Some of.Line) (cond (is_letter b || is_digit b) (Some of.Inside) None) → ((is_good_byte b && list_all is_good_byte xs) && x) ≡ false
wrong_byte b xs x e = by (is_line b) (is_letter b || is_digit b) refl refl e
  where
    by : (s t : Bool) → is_line b ≡ s → (is_letter b || is_digit b) ≡ t → None ≡ cond s (Some of.Line) (cond t (Some of.Inside) None) → ((is_good_byte b && list_all is_good_byte xs) && x) ≡ false
    by true t a c e = absurd cc
    by false true a c e = absurd cc
    by false false a c e = ap (λ (g : Bool). (g && list_all is_good_byte xs) && x) (no_three (is_letter b) (is_digit b) (is_line b) c a)

pub stops : (p : Before) (b : ℕ) (xs : List ℕ) → None ≡ part_after p b → is_good (front p ++ b ∷ xs) ≡ false
stops of.Begin b xs e = by (is_letter b) refl e
  where
    by : (t : Bool) → is_letter b ≡ t → None ≡ cond t (Some of.Inside) None → is_good (b ∷ xs) ≡ false
    by true is e = absurd cc
    by false is e = second_off (list_all is_good_byte (b ∷ xs)) (all_good (pieces (b ∷ xs))) (begins_wrong b xs is)
stops of.Inside b xs e = wrong_byte b xs (all_good (pieces (97 ∷ b ∷ xs))) e
stops of.Line b xs e = wrong_byte b xs (all_good (pieces (97 ∷ 95 ∷ b ∷ xs))) (lined (is_line b) e)
  where
    lined : (t : Bool) → None ≡ cond t (Some of.Begin) (cond (is_letter b || is_digit b) (Some of.Inside) None) → None ≡ cond t (Some of.Line) (cond (is_letter b || is_digit b) (Some of.Inside) None)
    lined true e = absurd cc
    lined false e = e

-- ---- the end

pub ends_begin : is_good (front of.Begin ++ []) ≡ false
ends_begin = ap all_good nothing

pub ends_inside : is_good (front of.Inside ++ []) ≡ true
ends_inside = ap all_good (one 97)

pub ends_line : is_good (front of.Line ++ []) ≡ false
ends_line = ap all_good (step_off 97 95 [] refl ∙ ap (onto_first 97) (one 95))

pub ends_elsewhere : (p : Before) → (p ≡ of.Inside → ⊥) → is_good (front p ++ []) ≡ false
ends_elsewhere of.Begin not = ends_begin
ends_elsewhere of.Inside not = absurd (not refl)
ends_elsewhere of.Line not = ends_line
