-- The whole lines of bytes are shorter than the bytes are.
use Rattle.std.proofs.Common.{◌≡◌, ℕ, suc, ◌+◌, ◌≤◌, ◌<◌, ◌++◌, Bool, true, false, cond, List, [], ◌∷◌, length, eqb, sym, ap, ◌∙◌, subst, append-nil, arith}
use Rattle.std.specs.Prelude.{All}
use Rattle.std.proofs.lemmas.List.Elements.{All-nil, All-cons, All-head, All-tail, All-weaker}
use Rattle.index_model.specs.Transcripts.{lines_of}
use Rattle.query_text.specs.Buffers.{longest_line}
use Rattle.query_text.specs.Sessions.{IsShort}
use Rattle.query_text.specs.WholeLines.{HasNoNewline, Spells, onto_whole, whole_lines_of}
use Rattle.query_text.proofs.NewlineLaws.{last_line, last_none, whole_behind, whole_none}

abbrev IsBelow : ℕ → List ℕ → Type 0
IsBelow n line = length line < n

below_more : (n : ℕ) (lines : List (List ℕ)) → All (IsBelow n) lines → All (IsBelow (suc n)) lines
below_more n lines h = All-weaker (IsBelow n) (IsBelow (suc n)) (λ line lt. omega (arith, lt)) lines h

-- a byte in front, which may be a newline
byte_below : (ends : Bool) (c n : ℕ) (lines : List (List ℕ)) → All (IsBelow n) lines → All (IsBelow (suc n)) (cond ends ([] ∷ lines) (onto_whole c lines))
byte_below true c n lines h = All-cons (IsBelow (suc n)) [] lines (omega arith) (below_more n lines h)
byte_below false c n [] h = All-nil (IsBelow (suc n))
byte_below false c n (line ∷ lines) h =
    let first = All-head (IsBelow n) line lines h in
    All-cons (IsBelow (suc n)) (c ∷ line) lines (omega (arith, first)) (below_more n lines (All-tail (IsBelow n) line lines h))

whole_below : (bytes : List ℕ) → All (IsBelow (length bytes)) (whole_lines_of bytes)
unfolding whole_lines_of
whole_below [] = All-nil (IsBelow 0)
whole_below (c ∷ cs) = byte_below (eqb c 10) c (length cs) (whole_lines_of cs) (whole_below cs)

-- the whole lines in a buffer, which has room for the longest and its newline
pub whole_short : (bytes : List ℕ) → length bytes ≤ longest_line + 1 → All IsShort (whole_lines_of bytes)
whole_short bytes fits = All-weaker (IsBelow (length bytes)) IsShort (λ line lt. omega (arith, fits, lt)) (whole_lines_of bytes) (whole_below bytes)

pub lines_short : (bytes text rest : List ℕ) (lines : List (List ℕ)) → length bytes ≤ longest_line + 1 → bytes ≡ text ++ rest → Spells text lines → HasNoNewline rest → All IsShort lines
lines_short bytes text rest lines fits is spells one =
    let whole = ap whole_lines_of is ∙ whole_behind text rest lines spells ∙ ap (λ (ls : List (List ℕ)). lines ++ ls) (whole_none rest one) ∙ append-nil lines in
    subst (All IsShort) whole (whole_short bytes fits)

-- a last line that lacks its newline
pub last_short : (part : List ℕ) → HasNoNewline part → length part ≤ longest_line → All IsShort (lines_of part)
last_short [] p le = subst (All IsShort) last_none (All-nil IsShort)
last_short (x ∷ xs) p le = subst (All IsShort) (sym (last_line x xs p)) (All-cons IsShort (x ∷ xs) [] le (All-nil IsShort))
