-- The entries of the address area.
use Rattle.std.specs.Prelude.{ℕ, Bool, ◌/◌, ◌%◌, ◌&&◌, nat_le, nat_lt, ◌==◌, List, length, map, Result}
use Rattle.ix_base.specs.declared.fault.Fault.{Fault}
use Rattle.ix_base.specs.Reading.{Input}
use Rattle.index_model.specs.declared.index_code.TheConstants.{GDB_ADDRESS_AREA}
use Rattle.index_model.specs.Meaning.{◌>>◌, each, fault, holds_or}
use Rattle.index_model.specs.Layout.{below, field}
use Rattle.index_model.specs.GdbAreas.{Areas, items}
use Rattle.index_model.specs.GdbIndexRead.{Address, address}
use Rattle.gdbindex_read.specs.declared.addresses.AddressArea.{AddressArea}
use Rattle.gdbindex_read.specs.declared.addresses.AddressEntry.{AddressEntry}
use Rattle.gdbindex_read.specs.Areas.{area_seen, item}

-- the area
abbrev pub area_of : AddressArea → Input
area_of a = area_seen a.area

-- an entry
abbrev pub entry_seen : AddressEntry → Address
entry_seen e = record { low = e.low; end = e.end; number = e.unit }

-- the entry in these bytes
abbrev pub address_in : List ℕ → Address
address_in entry = record { low = field 8 0 entry; end = field 8 8 entry; number = field 4 16 entry }

-- the entry with this number
abbrev pub address_of : AddressArea → ℕ → Address
address_of a k = address_in (item 20 (area_of a) k).rest

-- all entries
abbrev pub addresses_seen : AddressArea → List Address
addresses_seen a = map (address_of a) (below (length (area_of a).rest / 20))

-- an entry contains an address; its end isn't in it
abbrev pub contains_of : ℕ → Address → Bool
contains_of a e = nat_le e.low a && nat_lt a e.end

-- the entries, or the first fault of the area
unfoldable pub checked_addresses : Areas → Result (List Address) Fault
checked_addresses a = do
  holds_or (length a.addresses.rest % 20 == 0) (fault GDB_ADDRESS_AREA a.addresses.at)
  each (address a) (items 20 a.addresses)
