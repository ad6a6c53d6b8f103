-- What contracts see of the texts of components.
use Rattle.std.specs.Prelude.{ℕ, List, Option, Some, None, option_map, unwrap_or}
use Rattle.std.specs.Arc.{arc_value}
use Rattle.cxx_spelling.specs.declared.release.Release.{Release}
use Rattle.cxx_spelling.specs.declared.release.Release.TheVariants.{Gdb13, Gdb16}
use Rattle.gdb_names.specs.Seen.{contents}
use Rattle.gdb_index.specs.declared.both_texts.BothTexts.{BothTexts}
use Rattle.gdb_index.specs.declared.text.ComponentText.{ComponentText}
use Rattle.gdb_index.specs.declared.text.ComponentText.TheVariants.{Lent, Shared}
use Rattle.gdb_index.specs.declared.turned.TurnedTexts.{TurnedTexts}

-- the bytes of a component
abbrev pub text_bytes : ComponentText → List ℕ
text_bytes (Lent bytes) = bytes.now
text_bytes (Shared text) = (arc_value text).items

-- those that gdb 16 has: another text, or that of gdb 13
abbrev pub newer_or : Option ComponentText → List ℕ → List ℕ
newer_or None older = older
newer_or (Some text) older = text_bytes text

-- the bytes of a component as a release of gdb spells it
abbrev pub text_by : Release → BothTexts → List ℕ
text_by Gdb13 texts = text_bytes texts.older
text_by Gdb16 texts = newer_or texts.newer (text_bytes texts.older)

-- the components of a path, the outermost first, as a release spells them
abbrev pub turned_by : Release → TurnedTexts → List (List ℕ)
turned_by Gdb13 turned = contents turned.older.items
turned_by Gdb16 turned = unwrap_or (option_map (λ newer. contents newer.items) turned.newer) (contents turned.older.items)
