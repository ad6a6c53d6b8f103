-- A line that is too long is too long in all of an input of which it was taken.
use Rattle.std.proofs.Common.{◌≡◌, ℕ, suc, ◌≤◌, ◌++◌, Bool, true, false, cond, List, [], ◌∷◌, length, eqb, ap, ◌∙◌, subst, append_assoc, arith}
use Rattle.std.specs.Prelude.{All}
use Rattle.std.proofs.lemmas.List.Elements.{All-nil, All-cons, All-head, All-tail}
use Rattle.index_model.specs.Transcripts.{lines_of, onto_first}
use Rattle.query_text.specs.Sessions.{HasLongLine, IsShort}
use Rattle.query_text.specs.WholeLines.{HasNoNewline}
use Rattle.query_text.proofs.NewlineLaws.{other_byte}

-- ---- the first line

-- the first of some lines; where there is none, no bytes
abbrev first_of : List (List ℕ) → List ℕ
first_of [] = []
first_of (line ∷ lines) = line

first_short : (lines : List (List ℕ)) → All IsShort lines → IsShort (first_of lines)
first_short [] h = omega arith
first_short (line ∷ lines) h = All-head IsShort line lines h

onto_first_more : (c n : ℕ) (lines : List (List ℕ)) → n ≤ length (first_of lines) → suc n ≤ length (first_of (onto_first c lines))
onto_first_more c n [] le = omega (arith, le)
onto_first_more c n (line ∷ lines) le = omega (arith, le)

-- it is no shorter than the bytes before the first newline
first_least : (part rest : List ℕ) → HasNoNewline part → length part ≤ length (first_of (lines_of (part ++ rest)))
unfolding lines_of
first_least [] rest p = omega arith
first_least (x ∷ xs) rest p = rw (other_byte x p.0) (onto_first_more x (length xs) (lines_of (xs ++ rest)) (first_least xs rest p.1))

-- ---- bytes in front

byte_front : (ends : Bool) (c : ℕ) (lines : List (List ℕ)) → All IsShort (cond ends ([] ∷ lines) (onto_first c lines)) → All IsShort lines
byte_front true c lines h = All-tail IsShort [] lines h
byte_front false c [] h = All-nil IsShort
byte_front false c (line ∷ lines) h =
    let first = All-head IsShort (c ∷ line) lines h in
    All-cons IsShort line lines (omega (arith, first)) (All-tail IsShort (c ∷ line) lines h)

-- the lines behind are no longer than those of all
behind_short : (before rest : List ℕ) → All IsShort (lines_of (before ++ rest)) → All IsShort (lines_of rest)
unfolding lines_of
behind_short [] rest h = h
behind_short (c ∷ cs) rest h = behind_short cs rest (byte_front (eqb c 10) c (lines_of (cs ++ rest)) h)

-- an input whose lines are all short has no line that is too long in front of any place
pub no_long_line : (script taken rest : List ℕ) → script ≡ taken ++ rest → All IsShort (lines_of script) → HasLongLine taken → ⊥
no_long_line script taken rest is short long =
    let whole : script ≡ long.before ++ (long.part ++ rest) = is ∙ ap (λ (l : List ℕ). l ++ rest) long.whole ∙ append_assoc long.before long.part rest in
    let behind = behind_short long.before (long.part ++ rest) (subst (λ (l : List ℕ). All IsShort (lines_of l)) whole short) in
    let first = first_short (lines_of (long.part ++ rest)) behind in
    let least = first_least long.part rest long.one_line in
    let more = long.long in
    omega (arith, first, least, more)
