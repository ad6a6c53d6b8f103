use Rattle.std.proofs.Common.{◌≡◌, ◌-◌}
use Rattle.std.specs.Prelude.{map}
use Rattle.index_model.specs.Sections.{sections_from, headers_from}
use Rattle.file_image.specs.Found.{section, AreSmall}
use Rattle.file_image.specs.Front.{with_front}
use Rattle.file_image.proofs.found.sections_of_table.Given as goal

-- the sections so far, and those that are still to come, are the sections of the table
abbrev pub invariant-loop-index : goal.invariant-loop-index
invariant-loop-index l = record {
  so_far : with_front (map section l.found.items) (sections_from l.file l.index (headers_from l.file l.index (l.table.count - l.index))) ≡ sections_from l.file 1 (headers_from l.file 1 (l.table.count - 1));
  small : AreSmall l.found.items;
}
