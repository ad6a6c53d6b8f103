-- Components and a name, joined by a separator.
use Rattle.std.proofs.Common.{◌≡◌, ℕ, ◌+◌, List, [], ◌∷◌, ◌++◌, length, flat_map, refl, sym, ap, ◌∙◌, length-append, append-nil}
use Rattle.std.specs.Prelude.{Option, Some, None}
use Rattle.std.proofs.lemmas.List.{append_assoc}
use Rattle.gdb_entries.specs.declared.separator.Separator.{Separator}
use Rattle.gdb_entries.specs.Classes.{separator_text}
use Rattle.gdb_entries.specs.Components.{joined}
use Rattle.gdb_names.specs.Seen.{joined_by}

-- ---- one component more

behind_separator : (s : List ℕ) (cs : List (List ℕ)) (name : List ℕ) → flat_map (λ piece. s ++ piece) (cs ++ name ∷ []) ≡ s ++ joined_by s cs name
behind_separator s [] name = append_assoc s name []
behind_separator s (c ∷ cs) name = append_assoc s c (flat_map (λ piece. s ++ piece) (cs ++ name ∷ []))

-- a component stands before the separator, and this before what follows
joined_more : (s c : List ℕ) (cs : List (List ℕ)) (name : List ℕ) → joined_by s (c ∷ cs) name ≡ (c ++ s) ++ joined_by s cs name
joined_more s c cs name = ap (λ (r : List ℕ). c ++ r) (behind_separator s cs name) ∙ sym (append_assoc c s (joined_by s cs name))

-- a name stands behind what stands before every name
joined_front : (s : List ℕ) (cs : List (List ℕ)) (name : List ℕ) → joined_by s cs name ≡ joined_by s cs [] ++ name
joined_front s [] name = append-nil name
joined_front s (c ∷ cs) name =
    joined_more s c cs name
    ∙ ap (λ (r : List ℕ). (c ++ s) ++ r) (joined_front s cs name)
    ∙ sym (append_assoc (c ++ s) (joined_by s cs []) name)
    ∙ ap (λ (r : List ℕ). r ++ name) (sym (joined_more s c cs []))

-- the same, whatever the separator, if there is one
pub front : (s : Option Separator) (cs : List (List ℕ)) (name : List ℕ) → joined s (cs ++ name ∷ []) name ≡ joined s (cs ++ [] ∷ []) [] ++ name
front (Some s) cs name = joined_front (separator_text s) cs name
front None cs name = refl

-- ---- lengths

-- a name counts its own bytes
pub joined_length : (s : List ℕ) (cs : List (List ℕ)) (name : List ℕ) → length (joined_by s cs name) ≡ length (joined_by s cs []) + length name
joined_length s cs name = ap length (joined_front s cs name) ∙ length-append (joined_by s cs []) name
