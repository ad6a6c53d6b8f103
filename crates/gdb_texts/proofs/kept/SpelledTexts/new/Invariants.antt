use Rattle.std.proofs.Common.{◌≡◌, All}
use Rattle.std.specs.Prelude.{IfOk}
use Rattle.gdb_texts.specs.Spelled.{IsPlaced}
use Rattle.gdb_texts.proofs.kept.SpelledTexts.new.Given as goal

-- those that are left are of the file's texts, and so are those that are kept
abbrev pub invariant-loop-name : goal.invariant-loop-name
invariant-loop-name g l = record {
  same : l.texts ≡ l.sections;
  left : All (λ name. IfOk name (IsPlaced l.sections)) l.name-iterator.rest.items;
}
