use Rattle.std.proofs.Common.{◌≡◌, ◌++◌, drop, map}
use Rattle.reach_model.specs.Added.{new_headers}
use Rattle.reach_model.specs.AddedSections.{HavePlaces}
use Rattle.elf_add.specs.Pieces.{section_of}
use Rattle.elf_add.proofs.new_headers.push_new_headers.Given as goal

-- the headers of the other sections are still to come, and their names have places
abbrev pub invariant-loop-section : goal.invariant-loop-section
invariant-loop-section l = record {
  headers : l.bytes.items ++ new_headers l.name l.place (map section_of (drop l.section-index l.sections)) ≡ l.initial.bytes.items ++ new_headers l.first_name l.end (map section_of l.sections);
  places : HavePlaces l.name (map section_of (drop l.section-index l.sections));
}
