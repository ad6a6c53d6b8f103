use Rattle.std.proofs.Common.{◌≡◌, ◌≤◌, ◌+◌, ◌-◌, length}
use Rattle.ada_spelling.specs.Parts.{parts_from, parts_of}
use Rattle.ada_spelling.proofs.PartLaws.{joined}
use Rattle.ada_spelling.proofs.parts.parts_of.Given as goal

-- what was written, and the parts from a place on, are all parts
abbrev pub invariant-loop-given : goal.invariant-loop-given
invariant-loop-given l = record {
  within : l.at ≤ length l.name;
  left : joined l.text.items (parts_from (length l.name + 1 - l._given) l.name l.at) ≡ parts_of l.name;
}
