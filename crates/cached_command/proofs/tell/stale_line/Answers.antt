use Rattle.std.proofs.lemmas.List.{append_assoc}
use Rattle.cached_command.proofs.tell.stale_line.Goals as goal

pub returns : goal.returns
returns c = rw (c.in_ok-line.ensures.ok, c.in_ok-place.ensures) (simp append_assoc)
