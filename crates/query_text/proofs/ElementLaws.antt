-- The lines of elements, one after the other.
use Rattle.std.proofs.Common.{◌≡◌, ℕ, ◌+◌, ◌<◌, List, [], ◌∷◌, ◌++◌, length, get_or, take, drop, sym, ap, ◌∙◌, append_assoc, append-nil, take-append-drop}
use Rattle.std.specs.Prelude.{flat_map, decimal, codes}
use Rattle.std.proofs.lemmas.List.{take_more}
use Rattle.std.proofs.lemmas.List.Concat.{flat_map-append}
use Rattle.index_model.specs.Texts.{line, newline}
use Rattle.index_model.specs.LookTexts.{text_of_element, text_of_elements}
use Rattle.query_text.specs.LookHeads.{element_head}

pub element_text : (name : List ℕ) (e : ℕ) → element_head e ++ (name ++ newline) ≡ text_of_element name e
unfolding text_of_element
element_text name e = simp append_assoc

pub elements_text : (name es : List ℕ) (count : ℕ) → count ≡ length es → line (codes "found" ∷ decimal count ∷ []) ++ flat_map (text_of_element name) es ≡ text_of_elements name es
unfolding text_of_elements
elements_text name es count is = ap (λ (n : ℕ). line (codes "found" ∷ decimal n ∷ []) ++ flat_map (text_of_element name) es) is

module _ (name es : List ℕ) where
  abbrev pub texts : List ℕ → List ℕ
  texts xs = flat_map (text_of_element name) xs

  module _ (i e : ℕ) (lt : i < length es) (is : get_or es i 0 ≡ e) where
    one : texts (get_or es i 0 ∷ []) ≡ text_of_element name e
    one = append-nil (text_of_element name (get_or es i 0)) ∙ ap (text_of_element name) is

    -- one more element
    pub texts_more : texts (take (i + 1) es) ≡ texts (take i es) ++ text_of_element name e
    texts_more =
        ap texts (take_more es i 0 lt) ∙ flat_map-append (text_of_element name) (take i es) (get_or es i 0 ∷ [])
        ∙ ap (λ (t : List ℕ). texts (take i es) ++ t) one

    -- what is left behind that
    pub texts_whole : texts es ≡ (texts (take i es) ++ text_of_element name e) ++ texts (drop (i + 1) es)
    texts_whole =
        ap texts (sym (take-append-drop (i + 1) es)) ∙ flat_map-append (text_of_element name) (take (i + 1) es) (drop (i + 1) es)
        ∙ ap (λ (t : List ℕ). t ++ texts (drop (i + 1) es)) texts_more
