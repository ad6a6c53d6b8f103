use Rattle.std.proofs.lemmas.List.{append_assoc}
use Rattle.index_model.specs.Texts.{text_of_fault}
use Rattle.reach_model.specs.AddressTexts.{text_of_aranges_fault}
use Rattle.aranges_command.proofs.line.refusal_line.Goals as goal

pub returns : goal.returns
unfolding text_of_aranges_fault text_of_fault
returns c = rw (c.in_ok-line.ensures.ok, c.in_ok-place.ensures) (simp append_assoc)
