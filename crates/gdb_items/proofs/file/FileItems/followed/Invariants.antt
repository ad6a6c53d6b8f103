use Rattle.std.proofs.Common.{◌≡◌, ◌≤◌, ◌-◌}
use Rattle.arrayvec.specs.ArrayVec.{array_vec_len}
use Rattle.index_model.specs.Program.{Located}
use Rattle.gdb_entries.specs.Files.{ForProgram}
use Rattle.gdb_items.specs.Items.{IsItemOf}
use Rattle.gdb_items.proofs.ChainLaws.{IsFollowedTo}
use Rattle.gdb_items.proofs.file.FileItems.followed.Given as goal

-- the file is the same, and its targets so far were followed
abbrev pub invariant-loop-last : goal.invariant-loop-last
invariant-loop-last l = record {
  same : l.self ≡ l.fn.self;
  few : array_vec_len l.chain.targets ≤ 8;
  followed : ForProgram l.fn.self.file (λ p. (d : Located) → IsItemOf p.sections l.item d → IsFollowedTo p d l.chain l.last);
}

abbrev pub decreases-loop-last : goal.decreases-loop-last
decreases-loop-last l = 8 - array_vec_len l.chain.targets
