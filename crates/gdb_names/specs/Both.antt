-- What contracts see of the names of both releases of gdb.
use Rattle.std.specs.Prelude.{◌≡◌, ℕ, List, ◌∷◌, option_map, option_to_list, unwrap_or}
use Rattle.cxx_spelling.specs.declared.release.Release.{Release}
use Rattle.cxx_spelling.specs.declared.release.Release.TheVariants.{Gdb13, Gdb16}
use Rattle.cxx_spelling.specs.Spelling.{spelling_bytes}
use Rattle.gdb_entries.specs.Entries.{by_both}
use Rattle.gdb_names.specs.declared.both.BothNames.{BothNames}
use Rattle.gdb_names.specs.declared.both.BothComponents.{BothComponents}
use Rattle.gdb_names.specs.Seen.{contents}

-- a text of each release
abbrev pub in_turn : List ℕ → List ℕ → Release → List ℕ
in_turn older newer Gdb13 = older
in_turn older newer Gdb16 = newer

-- the text of a release
abbrev pub text_by : Release → BothNames → List ℕ
text_by Gdb13 names = spelling_bytes names.older
text_by Gdb16 names = unwrap_or (option_map spelling_bytes names.newer) (spelling_bytes names.older)

-- the texts, once where both are the same
abbrev pub both_texts : BothNames → List (List ℕ)
both_texts names = spelling_bytes names.older ∷ option_to_list (option_map spelling_bytes names.newer)

-- the names are these texts, and the second stands there only where it is another
abbrev pub AreBoth : (Release → List ℕ) → BothNames → Type 0
AreBoth text names = ((release : Release) → text_by release names ≡ text release) × (both_texts names ≡ by_both text)

-- the components that a release spells
abbrev pub components_by : Release → BothComponents → List (List ℕ)
components_by Gdb13 components = contents components.older.now
components_by Gdb16 components = unwrap_or (option_map (λ newer. contents newer.now) components.newer) (contents components.older.now)
