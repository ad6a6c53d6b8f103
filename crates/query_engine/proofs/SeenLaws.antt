-- What contracts see of texts, one text more.
use Rattle.std.proofs.Common.{◌≡◌, ℕ, suc, ◌+◌, ◌<◌, List, [], ◌∷◌, ◌++◌, length, get_or, take, sym, ap, ◌∙◌, arith}
use Rattle.std.specs.List.{enumerate_from}
use Rattle.std.proofs.lemmas.List.{get_or-map, map-append, take_more, length-take, length-map}
use Rattle.query_engine.specs.declared.spelling.FrontedText.{FrontedText}
use Rattle.query_engine.specs.Marks.{text_with}
use Rattle.query_engine.specs.Seen.{texts_seen}

pub text_seen : (ss : List FrontedText) (k : ℕ) (x : FrontedText) → k < length ss → x ≡ get_or ss k x → text_with (texts_seen ss) k ≡ x.bytes.now
text_seen ss k x lt is = get_or-map (λ (s : FrontedText). s.bytes.now) ss k x [] lt ∙ ap (λ (s : FrontedText). s.bytes.now) (sym is)

pub enumerate_append : {X : Type 0} (n : ℕ) (xs ys : List X) → enumerate_from n (xs ++ ys) ≡ enumerate_from n xs ++ enumerate_from (n + length xs) ys
enumerate_append n [] ys = ap (λ (k : ℕ). enumerate_from k ys) (omega arith)
enumerate_append n (x ∷ xs) ys =
    let step : n + 1 + length xs ≡ n + suc (length xs) = omega arith in
    ap (λ w. (n, x) ∷ w) (enumerate_append (n + 1) xs ys ∙ ap (λ (k : ℕ). enumerate_from (n + 1) xs ++ enumerate_from k ys) step)

pub listed_more : (ss : List FrontedText) (i : ℕ) (x : FrontedText) → i < length ss → x ≡ get_or ss i x → enumerate_from 0 (texts_seen (take i ss)) ++ (i, x.bytes.now) ∷ [] ≡ enumerate_from 0 (texts_seen (take (i + 1) ss))
listed_more ss i x lt is =
    let front : List (List ℕ) = texts_seen (take i ss) in
    let size : i ≡ 0 + length front = omega (arith, length-take i ss, length-map (take i ss) (λ (s : FrontedText). s.bytes.now)) in
    let more : texts_seen (take (i + 1) ss) ≡ front ++ x.bytes.now ∷ [] =
    ap texts_seen (take_more ss i x lt) ∙ map-append (λ (s : FrontedText). s.bytes.now) (take i ss) (get_or ss i x ∷ []) ∙ ap (λ (s : FrontedText). front ++ s.bytes.now ∷ []) (sym is) in
    ap (λ (k : ℕ). enumerate_from 0 front ++ (k, x.bytes.now) ∷ []) size ∙ sym (enumerate_append 0 front (x.bytes.now ∷ [])) ∙ ap (enumerate_from 0) (sym more)
