-- The lines of the entries of a name, one after the other.
use Rattle.std.proofs.Common.{◌≡◌, ℕ, List, [], ◌∷◌, ◌++◌, length, sym, ap, ◌∙◌, append_assoc, append-nil}
use Rattle.std.specs.Prelude.{flat_map, decimal, codes}
use Rattle.std.proofs.lemmas.List.Concat.{flat_map-append}
use Rattle.index_model.specs.NameIndexRead.{NameHit}
use Rattle.index_model.specs.Texts.{line, newline}
use Rattle.index_model.specs.LookTexts.{text_of_hit, text_of_hits}
use Rattle.query_text.specs.LookHeads.{hit_head}

pub hit_text : (name : List ℕ) (h : NameHit) → hit_head h ++ (name ++ newline) ≡ text_of_hit name h
unfolding text_of_hit
hit_text name h = simp append_assoc

pub hits_text : (name : List ℕ) (hs : List NameHit) (count : ℕ) → count ≡ length hs → line (codes "found" ∷ decimal count ∷ []) ++ flat_map (text_of_hit name) hs ≡ text_of_hits name hs
unfolding text_of_hits
hits_text name hs count is = ap (λ (n : ℕ). line (codes "found" ∷ decimal n ∷ []) ++ flat_map (text_of_hit name) hs) is

module _ (name : List ℕ) where
  abbrev pub lines : List NameHit → List ℕ
  lines hs = flat_map (text_of_hit name) hs

  -- one more entry
  pub lines_more : (done : List NameHit) (h : NameHit) → lines (done ++ h ∷ []) ≡ lines done ++ text_of_hit name h
  lines_more done h = flat_map-append (text_of_hit name) done (h ∷ []) ∙ ap (λ (t : List ℕ). lines done ++ t) (append-nil (text_of_hit name h))

  -- what is left behind that
  pub lines_whole : (done : List NameHit) (h : NameHit) (left : List NameHit) → lines (done ++ h ∷ left) ≡ (lines done ++ text_of_hit name h) ++ lines left
  lines_whole done h left = flat_map-append (text_of_hit name) done (h ∷ left) ∙ sym (append_assoc (lines done) (text_of_hit name h) (lines left))
