use Rattle.std.proofs.Common.{◌≡◌, ◌++◌, take}
use Rattle.index_model.specs.Answers.{entries_at}
use Rattle.gdbindex_write.specs.Elements.{elements_by}
use Rattle.gdbindex_write.proofs.elements.push_elements.Given as goal

abbrev pub invariant-loop-place : goal.invariant-loop-place
invariant-loop-place l = l.elements.items ≡ l.initial.elements.items ++ elements_by l.numbers (entries_at l.entries (take l.place-index l.places))
