use Rattle.std.proofs.Common.{◌∷◌, [], ◌∙◌, arith}
use Rattle.gdb_units.proofs.GoLaws.{found_if}
use Rattle.gdb_units.proofs.language.is_go_compiler.Goals as goal

pub returns : goal.returns
returns c = c.is_some.ensures ∙ found_if (71 ∷ 78 ∷ 85 ∷ 32 ∷ 71 ∷ 111 ∷ 32 ∷ []) c.args.producer.now c.find.result (omega arith) c.find.ensures
