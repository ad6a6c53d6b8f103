-- The first section of a name, among those that were found.
use Rattle.std.proofs.Common.{◌≡◌, ◌≤◌, ℕ, Bool, true, false, cond, List, [], ◌∷◌, ◌++◌, length, Option, Some, None, refl, sym, subst, ap, ◌∙◌, arith}
use Rattle.std.specs.Prelude.{find, map, bytes_eq, unwrap_or, option_map}
use Rattle.index_model.specs.Sections.{Section, section_bytes}
use Rattle.file_image.specs.declared.found.NamedSection.{NamedSection}
use Rattle.file_image.specs.Found.{section, AreSmall}

abbrev is_named : List ℕ → NamedSection → Bool
is_named name f = bytes_eq f.name.now name

-- what is found among the sections is what is found among their views
named : (fs : List NamedSection) (name : List ℕ) → find (λ s. bytes_eq s.name name) (map section fs) ≡ option_map section (find (is_named name) fs)
named [] name = refl
named (f ∷ fs) name =
    elim (bytes_eq f.name.now name) as (λ b. cond b (Some (section f)) (find (λ s. bytes_eq s.name name) (map section fs)) ≡ option_map section (cond b (Some f) (find (is_named name) fs))) [
      | true ↦ refl
      | false ↦ named fs name
    ]

small_named : (p : NamedSection → Bool) (fs : List NamedSection) (f : NamedSection) → AreSmall fs → Some f ≡ find p fs → length f.content.now ≤ 1073741824
small_named p [] f small e = absurd cc
small_named p (g ∷ gs) f small e =
    elim (p g) as (λ b. Some f ≡ cond b (Some g) (find p gs) → length f.content.now ≤ 1073741824) [
      | true ↦ λ h. let same : f ≡ g = cc in subst (λ (x : NamedSection). length x.content.now ≤ 1073741824) (sym same) small.0
      | false ↦ λ h. small_named p gs f small.1 h
    ] e

abbrev content_of : Option Section → List ℕ
content_of o = unwrap_or (option_map (λ s. s.content) o) []

pub named_some : (fs : List NamedSection) (name : List ℕ) (f : NamedSection) → AreSmall fs → Some f ≡ find (is_named name) fs → record { value : f.content.now ≡ section_bytes (map section fs) name; small : length f.content.now ≤ 1073741824 }
named_some fs name f small e = record { value = sym (ap content_of (named fs name ∙ ap (option_map section) (sym e))); small = small_named (is_named name) fs f small e }

pub named_none : (fs : List NamedSection) (name : List ℕ) → None ≡ find (is_named name) fs → record { value : [] ≡ section_bytes (map section fs) name; small : 0 ≤ 1073741824 }
named_none fs name e = record { value = sym (ap content_of (named fs name ∙ ap (option_map section) (sym e))); small = omega arith }

-- ---- one section more

pub map_push : (fs : List NamedSection) (f : NamedSection) → map section (fs ++ f ∷ []) ≡ map section fs ++ section f ∷ []
map_push [] f = refl
map_push (g ∷ gs) f = ap (λ (ss : List Section). section g ∷ ss) (map_push gs f)

pub small_push : (fs : List NamedSection) (f : NamedSection) → AreSmall fs → length f.content.now ≤ 1073741824 → AreSmall (fs ++ f ∷ [])
small_push [] f small is = (is, tt)
small_push (g ∷ gs) f small is = (small.0, small_push gs f small.1 is)
