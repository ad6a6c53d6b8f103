-- What the files hold, where they held the same before.
use Rattle.std.proofs.Common.{ℕ, List, length, Option, Some, None, inl, inr, sym, ap, ◌∙◌, arith}
use Rattle.std.proofs.lemmas.List.{take_all}
use Rattle.outside.specs.Files.{Files, SameFiles, HeldOrPrefix, OthersStay, Stored, StoredOrPrefix}
use Rattle.outside.proofs.FileLaws.{same_files-trans}
use Rattle.cached_command.specs.Places.{Spot}
use Rattle.cached_command.specs.Savings.{IsSaved}
use Rattle.cached_command.specs.declared.save.Saved.{Saved}
use Rattle.cached_command.specs.declared.save.Saved.TheVariants as saves

module _ (name bytes : List ℕ) where
  others : (f g h : Files) → SameFiles (Some f) (Some g) → OthersStay g h name → OthersStay f h name
  others f g h same stay = λ other ne. stay other ne ∙ same other

  held : (f g h : Files) → SameFiles (Some f) (Some g) → HeldOrPrefix (g name) (h name) bytes → HeldOrPrefix (f name) (h name) bytes
  held f g h same (inl e) = inl (e ∙ same name)
  held f g h same (inr p) = inr p

  pub stored_since : (a b c : Option Files) → SameFiles a b → Stored b c name bytes → Stored a c name bytes
  stored_since None None c same s = s
  stored_since None (Some g) c same s = absurd same
  stored_since (Some f) None c same s = absurd same
  stored_since (Some f) (Some g) None same s = absurd s
  stored_since (Some f) (Some g) (Some h) same s = (s.0, others f g h same s.1)

  pub left_since : (a b c : Option Files) → SameFiles a b → StoredOrPrefix b c name bytes → StoredOrPrefix a c name bytes
  left_since None None c same s = s
  left_since None (Some g) c same s = absurd same
  left_since (Some f) None c same s = absurd same
  left_since (Some f) (Some g) None same s = absurd s
  left_since (Some f) (Some g) (Some h) same s = (held f g h same s.0, others f g h same s.1)

  -- what is stored whole is a prefix of itself
  pub stored-prefix : (a b : Option Files) → Stored a b name bytes → StoredOrPrefix a b name bytes
  stored-prefix None None s = s
  stored-prefix None (Some g) s = absurd s
  stored-prefix (Some f) None s = absurd s
  stored-prefix (Some f) (Some g) s = (inr (length bytes, s.0 ∙ ap (λ (xs : List ℕ). Some xs) (sym (take_all (length bytes) bytes (omega arith)))), s.1)

-- an index was kept or not
pub saved_since : (a b c : Option Files) → SameFiles a b → (stores : Type 0) (spot : Option Spot) (index : List ℕ) (saved : Saved) → IsSaved b c stores spot index saved → IsSaved a c stores spot index saved
saved_since a b c same stores (Some spot) index saves.Stored s = stored_since spot.name _ a b c same s
saved_since a b c same stores (Some spot) index saves.Unsaved s = (s.0, left_since spot.name _ a b c same s.1)
saved_since a b c same stores None index saves.Stored s = absurd s
saved_since a b c same stores None index saves.Unsaved s = same_files-trans a b c same s
