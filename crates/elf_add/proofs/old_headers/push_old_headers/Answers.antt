use Rattle.elf_add.proofs.OldHeaders.{next_header}
use Rattle.elf_add.proofs.old_headers.push_old_headers.Goals as goal

pub loop-index-preserved : goal.loop-index-preserved
loop-index-preserved c =
    next_header c.args.file.now c.args.changes.now c.table_offset-table.result c.loop-index.index c.args.bytes.now.items c.loop-index.bytes.items c.extend_from_slice.new.self.items c.changed_header-header.result
    c.table_offset-table.ensures c.changed_header-header.ensures c.loop-index.invariant c.in_ok-extend_from_slice.ensures.items
