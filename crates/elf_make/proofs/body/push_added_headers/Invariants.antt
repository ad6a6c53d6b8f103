use Rattle.std.proofs.Common.{◌≡◌, ◌+◌, ◌++◌, length, drop}
use Rattle.elf_make.specs.Packed.{added_headers, contents, names}
use Rattle.elf_make.proofs.body.push_added_headers.Given as goal

-- the headers of the other sections are still to come, and so are their names and contents
abbrev pub invariant-loop-section : goal.invariant-loop-section
invariant-loop-section l = record {
  headers : l.file.items ++ added_headers l.name l.place (drop l.section-index l.sections) ≡ l.initial.file.items ++ added_headers 1 64 l.sections;
  names : l.name + length (names (drop l.section-index l.sections)) ≡ 1 + length (names l.sections);
  contents : l.place + length (contents (drop l.section-index l.sections)) ≡ 64 + length (contents l.sections);
}
