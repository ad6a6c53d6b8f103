-- The texts in front of names.
use Rattle.std.specs.Prelude.{ℕ, List, ◌++◌, decimal, codes}
use Rattle.index_model.specs.declared.entry.Entry.{Entry}
use Rattle.index_model.specs.Texts.{hex, kind_word, scope_word, way_word}

-- what stands before the name of an entry, and how many bytes that has at most
abbrev pub head_of : Entry → List ℕ
head_of e = decimal e.unit ++ codes " " ++ hex e.offset ++ codes " " ++ hex e.tag ++ codes " " ++ kind_word e.kind ++ codes " " ++ scope_word e.local ++ codes " " ++ way_word e.linkage ++ codes " "
