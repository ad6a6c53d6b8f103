use Rattle.std.proofs.Common.{◌≡◌}
use Rattle.gdbindex_read.specs.Addresses.{address_of, contains_of}
use Rattle.gdbindex_read.proofs.Loops.{found_from}
use Rattle.gdbindex_read.proofs.addresses.AddressArea.unit_at.Given as goal

-- the first entry that contains the address is among those that are left
abbrev pub invariant-loop-number : goal.invariant-loop-number
invariant-loop-number l = found_from (contains_of l.address) (address_of l.self) l.number l.count ≡ found_from (contains_of l.address) (address_of l.self) 0 l.count
