use Rattle.std.proofs.lemmas.List.{append_assoc}
use Rattle.reach_model.specs.AddressTexts.{text_of_comparison}
use Rattle.aranges_command.proofs.line.difference_line.Goals as goal

pub returns : goal.returns
unfolding text_of_comparison
returns c = rw (c.in_ok-line.ensures.ok, c.in_ok-address.ensures, c.in_ok-table.ensures, c.in_ok-own.ensures) (simp append_assoc)
