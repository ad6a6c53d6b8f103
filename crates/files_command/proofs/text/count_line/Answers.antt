use Rattle.std.proofs.Common.{ℕ, Vec, ap}
use Rattle.std.proofs.lemmas.List.{append_assoc}
use Rattle.files_command.proofs.text.count_line.Goals as goal

pub returns : goal.returns
returns c = rw (ap (λ (v : Vec ℕ _). v.items) c.into_bytes.ensures.value, c.in_ok-line.ensures.ok) (simp append_assoc)
