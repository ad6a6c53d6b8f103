use Rattle.std.proofs.lemmas.List.{append_assoc}
use Rattle.reach_model.specs.FileTexts.{text_of_hit}
use Rattle.files_command.proofs.text.push_hit.Goals as goal

pub returns : goal.returns
unfolding text_of_hit
returns c = rw (c.in_ok-push.ensures.items, c.in_ok-extend_from_slice-2.ensures.items, c.in_ok-extend_from_slice.ensures.items, c.as_bytes.ensures.value, c.in_ok-front.ensures.ok) (simp append_assoc)
