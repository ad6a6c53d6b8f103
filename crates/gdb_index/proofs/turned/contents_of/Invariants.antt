use Rattle.std.proofs.Common.{◌≡◌, ◌++◌, drop, map}
use Rattle.gdb_names.specs.Seen.{contents}
use Rattle.gdb_index.specs.Texts.{text_by}
use Rattle.gdb_index.proofs.turned.contents_of.Given as goal

-- those so far and those that are left make the whole
abbrev pub invariant-loop-text : goal.invariant-loop-text
invariant-loop-text l = contents l.parts.items ++ map (text_by l.release) (drop l.text-index l.texts) ≡ map (text_by l.release) l.texts
