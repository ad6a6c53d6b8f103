-- The shortcut to main.
use Rattle.index_model.specs.declared.answer.Main.{Main}
use Rattle.gdbindex_read.specs.declared.shortcut.Shortcut.{Shortcut}

-- main, by its language and its name
abbrev pub shortcut_seen : Shortcut → Main
shortcut_seen s = record { language = s.language; name = s.name.now }
