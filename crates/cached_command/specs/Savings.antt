-- An index that was built is kept, or isn't.
use Rattle.std.specs.Prelude.{ℕ, List, Option, Some, None}
use Rattle.outside.specs.Files.{Files, SameFiles, Stored, StoredOrPrefix}
use Rattle.reach_model.specs.KeptIndexes.{kept_bytes}
use Rattle.reach_model.specs.KeptTexts.{text_of_stored, text_of_unsaved}
use Rattle.cached_command.specs.Places.{Spot}
use Rattle.cached_command.specs.declared.save.Saved.{Saved}
use Rattle.cached_command.specs.declared.save.Saved.TheVariants as saves

-- the line
abbrev pub text_of_saved : Saved → List ℕ
text_of_saved saves.Stored = text_of_stored
text_of_saved saves.Unsaved = text_of_unsaved

-- what the files hold then, by whether a store failed
abbrev pub IsSaved : Option Files → Option Files → Type 0 → Option Spot → List ℕ → Saved → Type 0
IsSaved before after stores (Some spot) index saves.Stored = Stored before after spot.name (kept_bytes spot.id index)
IsSaved before after stores (Some spot) index saves.Unsaved = stores × StoredOrPrefix before after spot.name (kept_bytes spot.id index)
IsSaved before after stores None index saves.Stored = ⊥
IsSaved before after stores None index saves.Unsaved = SameFiles before after
