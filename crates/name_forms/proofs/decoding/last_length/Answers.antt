use Rattle.std.proofs.Common.{length, Some, None, ap, ◌∙◌}
use Rattle.index_model.specs.AdaNames.{last_of}
use Rattle.name_forms.proofs.LastLaws.{last_is}
use Rattle.name_forms.proofs.decoding.last_length.Goals as goal

pub returns-in-Some : goal.returns-in-Some
returns-in-Some c = ap length (last_is c.of.result (Some c.in-Some.piece) c.in-Some.ensures.ran ∙ ap last_of c.of.ensures)

pub returns-in-None : goal.returns-in-None
returns-in-None c = ap length (last_is c.of.result None c.in-None.ensures.ran ∙ ap last_of c.of.ensures)
