-- A unit, by its header and what a shard keeps of its root.
use Rattle.std.specs.Prelude.{ℕ, false, List, [], ◌∷◌, ◌++◌, Option, Some, None, option_map}
use Rattle.index_model.specs.declared.shard.Raw.{Raw}
use Rattle.index_model.specs.declared.shard.Raw.TheVariants.{Address, AddressIndex, Constant, Offset as OffsetRaw, RangeIndex as RangeIndexRaw}
use Rattle.index_model.specs.Forms.{Value, Addr, Unsigned, AddrIndex, Offset, RangeIndex}
use Rattle.index_model.specs.Attributes.{High, EndsAt, Bytes}
use Rattle.index_model.specs.Walk.{Item, Entry}
use Rattle.index_model.specs.Program.{Walked}
use Rattle.range_lists.specs.declared.home.RangeUnit.{RangeUnit}

-- the value that a shard keeps of a low_pc or of ranges
abbrev pub as_value : Raw → Value
as_value (Address a) = Addr a
as_value (AddressIndex i) = AddrIndex i
as_value (Constant n) = Unsigned n
as_value (OffsetRaw o) = Offset o
as_value (RangeIndexRaw i) = RangeIndex i

-- the high end that a shard keeps of a high_pc
abbrev pub as_high : Raw → High
as_high (Address a) = EndsAt (Addr a)
as_high (AddressIndex i) = EndsAt (AddrIndex i)
as_high (Constant n) = Bytes n
as_high (OffsetRaw o) = EndsAt (Offset o)
as_high (RangeIndexRaw i) = EndsAt (RangeIndex i)

-- an attribute, if there is one
abbrev pub attribute_of : ℕ → Option Value → List (ℕ × Value)
attribute_of number None = []
attribute_of number (Some value) = (number, value) ∷ []

-- a root with the bases and the low_pc
abbrev pub root_with : Option ℕ → Option ℕ → Option Raw → Item
root_with addr_base rnglists_base low = record {
  at = 0;
  after = 0;
  depth = 0;
  children = false;
  tag = 0;
  values = attribute_of 0x73 (option_map Offset addr_base) ++ (attribute_of 0x74 (option_map Offset rnglists_base) ++ attribute_of 0x11 (option_map as_value low));
}

-- A unit with this header and a root of which this is known. The ranges of an entry depend on nothing else of its unit.
unfoldable pub unit_with : RangeUnit → Walked
unit_with h = record { number = 0; unit = h.header; walk = record { tokens = Entry (root_with h.addr_base h.rnglists_base h.low) ∷ []; end = None } }
