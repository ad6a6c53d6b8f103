-- Newlines, and the lines that they end.
use Rattle.std.proofs.Common.{◌≡◌, ℕ, zero, suc, ◌+◌, ◌<◌, ◌++◌, List, [], ◌∷◌, length, take, drop, get_or, true, false, eqb, Option, Some, None, refl, sym, ap, ◌∙◌, append_assoc, append-nil, arith}
use Rattle.std.specs.Prelude.{◌≢◌, flat_map}
use Rattle.std.specs.List.{AllByRecursion}
use Rattle.std.proofs.lemmas.Bool.Decides.{nat_tests}
use Rattle.std.proofs.lemmas.Grind.{flat_map-append}
use Rattle.memchr.specs.Find.{IsFirstByte, is_byte}
use Rattle.index_model.specs.Texts.{newline}
use Rattle.index_model.specs.Transcripts.{lines_of, onto_first}
use Rattle.query_text.specs.WholeLines.{HasNoNewline, IsFirstNewline, Spells, whole_lines_of}

same_byte : (x : ℕ) → eqb x 10 ≡ true → x ≡ 10
same_byte x e = grind (arith, nat_tests)

pub other_byte : (x : ℕ) → x ≢ 10 → eqb x 10 ≡ false
other_byte x e = grind (arith, nat_tests)

not_newline : (x : ℕ) → (eqb x 10 ≡ true → ⊥) → x ≢ 10
not_newline x h e = h (rw e refl)

none : (xs : List ℕ) → ((k : ℕ) → k < length xs → eqb (get_or xs k 0) 10 ≡ true → ⊥) → HasNoNewline xs
none [] h = tt
none (x ∷ xs) h = (not_newline x (h 0 (omega arith)), none xs (λ k lt. h (suc k) (omega (arith, lt))))

first : (xs : List ℕ) (k : ℕ) → k < length xs → eqb (get_or xs k 0) 10 ≡ true → ((j : ℕ) → j < k → eqb (get_or xs j 0) 10 ≡ true → ⊥) → IsFirstNewline xs (Some k)
first [] k lt e before = absurd (omega (arith, lt))
first (x ∷ xs) zero lt e before = (tt, ap (λ (y : ℕ). y ∷ xs) (same_byte x e))
first (x ∷ xs) (suc k) lt e before =
    let r = first xs k (omega (arith, lt)) e (λ j below. before (suc j) (omega (arith, below))) in
    ((not_newline x (before 0 (omega arith)), r.0), ap (λ (l : List ℕ). x ∷ l) r.1 ∙ ap (λ (n : ℕ). x ∷ (take k xs ++ (newline ++ drop n (x ∷ xs)))) {x = suc (k + 1)} {y = suc k + 1} (omega arith))

-- what `memchr` finds is the first newline
pub found_is_newline : (xs : List ℕ) (r : Option ℕ) → IsFirstByte (is_byte 10) xs r → IsFirstNewline xs r
found_is_newline xs None h = none xs (λ k lt e. h k (omega arith) lt e)
found_is_newline xs (Some k) h = first xs k h.0.high h.1 (λ j lt e. h.0.before j (omega arith) lt e)

-- ---- bytes within a line

pub no_newline_more : (xs ys : List ℕ) → HasNoNewline xs → HasNoNewline ys → HasNoNewline (xs ++ ys)
no_newline_more [] ys p q = q
no_newline_more (x ∷ xs) ys p q = (p.0, no_newline_more xs ys p.1 q)

-- within a line, no line is whole
pub whole_none : (part : List ℕ) → HasNoNewline part → whole_lines_of part ≡ []
unfolding whole_lines_of
whole_none [] p = refl
whole_none (x ∷ xs) p = rw (other_byte x p.0, whole_none xs p.1) refl

-- a line with its newline, before others
pub whole_line : (line rest : List ℕ) → HasNoNewline line → whole_lines_of (line ++ (newline ++ rest)) ≡ line ∷ whole_lines_of rest
unfolding whole_lines_of
whole_line [] rest p = refl
whole_line (x ∷ xs) rest p = rw (other_byte x p.0, whole_line xs rest p.1) refl

pub line_first : (line rest : List ℕ) → HasNoNewline line → lines_of (line ++ (newline ++ rest)) ≡ line ∷ lines_of rest
unfolding lines_of
line_first [] rest p = refl
line_first (x ∷ xs) rest p = rw (other_byte x p.0, line_first xs rest p.1) refl

-- bytes without a newline are one line, unless there are none
pub last_none : [] ≡ lines_of []
unfolding lines_of
last_none = refl

pub last_line : (x : ℕ) (xs : List ℕ) → HasNoNewline (x ∷ xs) → lines_of (x ∷ xs) ≡ (x ∷ xs) ∷ []
unfolding lines_of
last_line x [] p = rw (other_byte x p.0) refl
last_line x (y ∷ ys) p = rw (other_byte x p.0) (ap (onto_first x) (last_line y ys p.1))

-- ---- texts of lines

pub spells_none : Spells [] []
spells_none = record { spelled = refl; each = tt }

each_more : (lines more : List (List ℕ)) → AllByRecursion HasNoNewline lines → AllByRecursion HasNoNewline more → AllByRecursion HasNoNewline (lines ++ more)
each_more [] more p q = q
each_more (l ∷ lines) more p q = (p.0, each_more lines more p.1 q)

abbrev ended : List ℕ → List ℕ
ended line = line ++ newline

pub spells_more : (text more : List ℕ) (lines others : List (List ℕ)) → Spells text lines → Spells more others → Spells (text ++ more) (lines ++ others)
spells_more text more lines others p q = record {
  spelled = ap (λ (l : List ℕ). l ++ more) p.spelled ∙ ap (λ (l : List ℕ). flat_map ended lines ++ l) q.spelled ∙ sym (flat_map-append ended lines others);
  each = each_more lines others p.each q.each;
}

pub spells_line : (line : List ℕ) → HasNoNewline line → Spells (line ++ newline) (line ∷ [])
spells_line line p = record { spelled = sym (append-nil (line ++ newline)); each = (p, tt) }

spelled_whole : (lines : List (List ℕ)) (rest : List ℕ) → AllByRecursion HasNoNewline lines → whole_lines_of (flat_map ended lines ++ rest) ≡ lines ++ whole_lines_of rest
spelled_whole [] rest p = refl
spelled_whole (line ∷ lines) rest p =
    ap whole_lines_of (append_assoc (line ++ newline) (flat_map ended lines) rest ∙ append_assoc line newline (flat_map ended lines ++ rest))
    ∙ whole_line line (flat_map ended lines ++ rest) p.0
    ∙ ap (λ (ls : List (List ℕ)). line ∷ ls) (spelled_whole lines rest p.1)

spelled_lines : (lines : List (List ℕ)) (rest : List ℕ) → AllByRecursion HasNoNewline lines → lines_of (flat_map ended lines ++ rest) ≡ lines ++ lines_of rest
spelled_lines [] rest p = refl
spelled_lines (line ∷ lines) rest p =
    ap lines_of (append_assoc (line ++ newline) (flat_map ended lines) rest ∙ append_assoc line newline (flat_map ended lines ++ rest))
    ∙ line_first line (flat_map ended lines ++ rest) p.0
    ∙ ap (λ (ls : List (List ℕ)). line ∷ ls) (spelled_lines lines rest p.1)

module _ (text rest : List ℕ) (lines : List (List ℕ)) (p : Spells text lines) where
  -- the lines of a text are whole before what stands behind it
  pub whole_behind : whole_lines_of (text ++ rest) ≡ lines ++ whole_lines_of rest
  whole_behind = ap (λ (t : List ℕ). whole_lines_of (t ++ rest)) p.spelled ∙ spelled_whole lines rest p.each

  pub lines_behind : lines_of (text ++ rest) ≡ lines ++ lines_of rest
  lines_behind = ap (λ (t : List ℕ). lines_of (t ++ rest)) p.spelled ∙ spelled_lines lines rest p.each
