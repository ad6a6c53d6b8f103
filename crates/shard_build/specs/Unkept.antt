-- Entries of which nothing is kept.
use Rattle.std.specs.Prelude.{◌≡◌, ℕ, Bool, not, ◌&&◌, ◌==◌, ◌⊎◌, List, Option, Some, None, Ok}
use Rattle.index_model.specs.Forms.{Value, Str}
use Rattle.index_model.specs.Sections.{Section}
use Rattle.index_model.specs.Strings.{Texts, str, string_at}
use Rattle.index_model.specs.Tags.{imported_unit}
use Rattle.index_model.specs.Walk.{Item}
use Rattle.file_image.specs.TextLimits.{tested}
use Rattle.shard_build.specs.Texts.{texts_by}

-- an entry below the root with neither children nor an import
abbrev pub is_leaf : Item → Bool
is_leaf d = (not (d.depth == 0) && not d.children) && not (d.tag == imported_unit)

-- a value that isn't there, or that of a sound text in `.debug_str`
abbrev pub IsSoundText : List Section → Option Value → Type 0
IsSoundText ss v = (v ≡ None) ⊎ ((at : ℕ) × (v ≡ Some (Str at)) × (tested (string_at (str ss) at) ≡ Ok tt))

-- nothing is wrong with the texts of an entry, whatever the base is
abbrev pub AreSoundTexts : List Section → Bool → Item → Type 0
AreSoundTexts ss wide d = (base : Option ℕ) → (t : Texts) × (texts_by ss base wide d ≡ Ok t)
