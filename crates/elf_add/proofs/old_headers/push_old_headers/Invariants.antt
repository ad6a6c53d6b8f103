use Rattle.std.proofs.Common.{◌≡◌, ◌+◌, ◌*◌, ◌++◌}
use Rattle.std.specs.Prelude.{flat_map}
use Rattle.index_model.specs.Layout.{below}
use Rattle.index_model.specs.Sections.{bytes_from, table_at}
use Rattle.elf_add.specs.Headers.{header_then}
use Rattle.elf_add.proofs.old_headers.push_old_headers.Given as goal

-- the headers so far stand behind what the bytes began with
abbrev pub invariant-loop-index : goal.invariant-loop-index
invariant-loop-index l = l.bytes.items ≡ l.initial.bytes.items ++ flat_map (λ i. header_then (bytes_from (table_at l.file + 64 * i) 64 l.file) l.changes i) (below l.index)
