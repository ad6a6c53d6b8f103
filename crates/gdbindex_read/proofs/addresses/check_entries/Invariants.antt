use Rattle.std.proofs.Common.{◌≡◌}
use Rattle.index_model.specs.GdbIndexRead.{address}
use Rattle.gdbindex_read.specs.Areas.{areas_seen, item}
use Rattle.gdbindex_read.proofs.Loops.{fault_from}
use Rattle.gdbindex_read.proofs.addresses.check_entries.Given as goal

-- the first fault is that of the entries that are left
abbrev pub invariant-loop-number : goal.invariant-loop-number
invariant-loop-number l = fault_from (address (areas_seen l.areas)) (item 20 (areas_seen l.areas).addresses) l.number l.count ≡ fault_from (address (areas_seen l.areas)) (item 20 (areas_seen l.areas).addresses) 0 l.count
