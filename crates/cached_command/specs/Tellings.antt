-- The answer of an index to a query that it answers.
use Rattle.std.specs.Prelude.{◌≡◌, ℕ, List, Some}
use Rattle.index_model.specs.GdbIndexRead.{GdbIndex}
use Rattle.query_text.specs.Questions.{Question}
use Rattle.command_base.specs.GdbLooks.{gdb_text}

-- what holds of the text of the answer
abbrev pub Tells : GdbIndex → Question → (List ℕ → Type 0) → Type 0
Tells index q P = (answer : List ℕ) × (gdb_text index q ≡ Some answer) × P answer
