-- Words that are joined one after the other.
use Rattle.std.proofs.Common.{◌≡◌, ℕ, ◌+◌, ◌<◌, List, [], ◌∷◌, ◌++◌, length, take, get_or, refl, ap, ◌∙◌, sym, append_assoc, length-take, arith}
use Rattle.std.specs.Prelude.{String}
use Rattle.std.specs.String.{string_bytes}
use Rattle.std.proofs.lemmas.List.{map_more, length-map}
use Rattle.command_words.specs.Words.{query_text}
use Rattle.command_words.specs.SeenWords.{words_of}

push : (w : List ℕ) (ws : List (List ℕ)) (last : List ℕ) → query_text ((w ∷ ws) ++ last ∷ []) ≡ query_text (w ∷ ws) ++ (32 ∷ last)
push w [] last = refl
push w (v ∷ ws) last = ap (λ (t : List ℕ). w ++ (32 ∷ t)) (push v ws last) ∙ sym (append_assoc w (32 ∷ query_text (v ∷ ws)) (32 ∷ last))

pushed : (ws : List (List ℕ)) (last : List ℕ) → 0 < length ws → query_text (ws ++ last ∷ []) ≡ query_text ws ++ (32 ∷ last)
pushed [] last some = absurd (omega arith)
pushed (w ∷ ws) last some = push w ws last

module _ {Z : Type 0} (words : List (String Z)) (i : ℕ) (word : String Z) (lt : i < length words) (is : word ≡ get_or words i word) where
  more : words_of (take (i + 1) words) ≡ words_of (take i words) ++ string_bytes word ∷ []
  more = map_more string_bytes words i word lt ∙ ap (λ (w : String Z). words_of (take i words) ++ string_bytes w ∷ []) (sym is)

  -- no word is before the first
  pub none_before : i ≡ 0 → query_text (words_of (take i words)) ≡ []
  none_before zero = ap (λ (k : ℕ). query_text (words_of (take k words))) zero

  -- the first word stands alone
  pub first_word : i ≡ 0 → query_text (words_of (take (i + 1) words)) ≡ string_bytes word
  first_word zero = ap query_text more ∙ rw zero refl

  -- each other one stands behind a space
  pub next_word : 0 < i → query_text (words_of (take (i + 1) words)) ≡ query_text (words_of (take i words)) ++ (32 ∷ string_bytes word)
  next_word some = ap query_text more ∙ pushed (words_of (take i words)) (string_bytes word) (omega (arith, length-map (take i words) (string_bytes {Z = Z}), length-take i words))

-- a space, and then the bytes
pub behind_a_space : (new spaced text so_far bytes : List ℕ) → new ≡ spaced ++ bytes → spaced ≡ text ++ 32 ∷ [] → text ≡ so_far → new ≡ so_far ++ (32 ∷ bytes)
behind_a_space new spaced text so_far bytes a b e = a ∙ ap (λ (t : List ℕ). t ++ bytes) (b ∙ ap (λ (t : List ℕ). t ++ 32 ∷ []) e) ∙ append_assoc so_far (32 ∷ []) bytes

-- the bytes alone
pub at_front : (new before so_far bytes : List ℕ) → new ≡ before ++ bytes → before ≡ so_far → so_far ≡ [] → new ≡ bytes
at_front new before so_far bytes a b e = a ∙ ap (λ (t : List ℕ). t ++ bytes) (b ∙ e)
