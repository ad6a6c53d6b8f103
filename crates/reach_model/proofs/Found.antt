-- Sections by their names.
use Rattle.std.proofs.Common.{◌≡◌, ℕ, ◌+◌, ◌<◌, length, subst, Bool, true, false, cond, List, [], ◌∷◌, find, Option, Some, None, refl, ap, ◌∙◌, bytes_eq, arith}
use Rattle.std.specs.Prelude.{unwrap_or, option_map}
use Rattle.std.specs.List.{enumerate_from}
use Rattle.index_model.specs.Sections.{Section, section_bytes}

abbrev pub is_named : List ℕ → Section → Bool
is_named name s = bytes_eq s.name name

abbrev pub is_named_there : List ℕ → ℕ × Section → Bool
is_named_there name e = bytes_eq e.1.name name

abbrev pub content_of : Option Section → List ℕ
content_of o = unwrap_or (option_map (λ s. s.content) o) []

-- with the indexes, the same is found
found_there : (name : List ℕ) (n : ℕ) (ss : List Section) → find (is_named name) ss ≡ option_map (λ e. e.1) (find (is_named_there name) (enumerate_from n ss))
found_there name n [] = refl
found_there name n (s ∷ ss) =
    elim (bytes_eq s.name name) as (λ b. cond b (Some s) (find (is_named name) ss) ≡ option_map (λ e. e.1) (cond b (Some (n, s)) (find (is_named_there name) (enumerate_from (n + 1) ss)))) [
      | true ↦ refl
      | false ↦ found_there name (n + 1) ss
    ]

-- the bytes of the section that is found with its index
pub bytes_there : (sections : List Section) (name : List ℕ) (e : ℕ × Section) → find (is_named_there name) (enumerate_from 1 sections) ≡ Some e → section_bytes sections name ≡ e.1.content
bytes_there sections name e is = ap content_of (found_there name 1 sections ∙ ap (λ (o : Option (ℕ × Section)). option_map (λ d. d.1) o) is)

-- where none is found there are no bytes
pub no_bytes : (sections : List Section) (name : List ℕ) → find (is_named_there name) (enumerate_from 1 sections) ≡ None → section_bytes sections name ≡ []
no_bytes sections name none = ap content_of (found_there name 1 sections ∙ ap (λ (o : Option (ℕ × Section)). option_map (λ d. d.1) o) none)

-- bytes are those of a section that is found
pub found_by : (sections : List Section) (name : List ℕ) → 0 < length (section_bytes sections name) → (e : ℕ × Section) × (find (is_named_there name) (enumerate_from 1 sections) ≡ Some e) × (0 < length e.1.content)
found_by sections name some = by (find (is_named_there name) (enumerate_from 1 sections)) refl
  where
    by : (o : Option (ℕ × Section)) → find (is_named_there name) (enumerate_from 1 sections) ≡ o → (e : ℕ × Section) × (find (is_named_there name) (enumerate_from 1 sections) ≡ Some e) × (0 < length e.1.content)
    by (Some e) is = (e, is, subst (λ (w : List ℕ). 0 < length w) (bytes_there sections name e is) some)
    by None is = absurd (omega (arith, ap length (no_bytes sections name is), some))
