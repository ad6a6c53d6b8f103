use Rattle.std.proofs.Common.{◌≡◌}
use Rattle.gdbindex_read.specs.Header.{header_length}
use Rattle.gdbindex_read.proofs.Offsets.{offset_fault}
use Rattle.gdbindex_read.proofs.header.check_offsets.Given as goal

-- the first fault is that of the offsets that are left
abbrev pub invariant-loop-number : goal.invariant-loop-number
invariant-loop-number l = offset_fault l.section l.least l.number l.count ≡ offset_fault l.section (header_length l.fn.version) 0 l.count
