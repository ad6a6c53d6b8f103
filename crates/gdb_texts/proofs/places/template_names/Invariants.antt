use Rattle.std.proofs.Common.{length}
use Rattle.gdb_texts.proofs.places.template_names.Given as goal

abbrev pub decreases-loop-length : goal.decreases-loop-length
decreases-loop-length l = length l.rest
