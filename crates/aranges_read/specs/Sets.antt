-- What is read of an address table, set by set and pair by pair.
use Rattle.std.specs.Prelude.{◌≤◌, ◌+◌, ℕ, List, [], ◌∷◌, ◌++◌, map, flat_map, Option, Some, None, Result, Ok, ⊤}
use Rattle.ix_base.specs.declared.fault.Fault.{Fault}
use Rattle.ix_base.specs.Reading.{Input, number, ◌>>=◌ as ◌>>=?◌}
use Rattle.index_model.specs.declared.range.Range.{Range}
use Rattle.index_model.specs.declared.range.UnitRange.{UnitRange}
use Rattle.index_model.specs.declared.unit.Unit.{Unit as UnitHeader}
use Rattle.index_model.specs.Meaning.{◌>>=◌, fault, some_or}
use Rattle.reach_model.specs.declared.code.TheConstants.{ARANGES_NO_END}
use Rattle.reach_model.specs.AddressSets.{AddressSet, Pair, SetHeader, SetParts, kept_ranges}
use Rattle.aranges_read.specs.declared.header.SetHeader.{SetHeader as HeaderFound}
use Rattle.aranges_read.specs.declared.header.SetParts.{SetParts as PartsFound}
use Rattle.aranges_read.specs.declared.pairs.Pair.{Pair as PairFound}

-- ---- what the definitions see

-- a header
abbrev pub header_seen : HeaderFound → SetHeader
header_seen h = record { version = h.version; unit_offset = h.unit_offset; address_size = h.address_size; segment_size = h.segment_size }

-- a header with the bytes of pairs
abbrev pub parts_seen : PartsFound → SetParts
parts_seen p = record { header = header_seen p.header; pairs = p.pairs.now }

-- a pair
abbrev pub pair_seen : PairFound → Pair
pair_seen p = record { address = p.address; length = p.length }

-- ---- pairs

-- the pair at the front: an address, and how many bytes from it on
abbrev pub next_pair : Input → Option (Pair × Input)
next_pair i = number 8 i >>=? λ address. number 8 address.1 >>=? λ size. Some (record { address = address.0; length = size.0 }, size.1)

-- a range, if there is one
abbrev pub as_list : Option Range → List Range
as_list None = []
as_list (Some r) = r ∷ []

-- ranges of a unit
abbrev pub of_unit : ℕ → List Range → List UnitRange
of_unit unit rs = map (λ r. record { unit = unit; range = r }) rs

-- ranges, and behind them those of the pairs of a unit; a fault at the set's place, where the pairs have no end
abbrev pub with_pairs : List UnitRange → ℕ → ℕ → Option (List Pair) → Result (List UnitRange) Fault
with_pairs front unit place pairs = some_or pairs (fault ARANGES_NO_END place) >>= λ ps. Ok (front ++ of_unit unit (kept_ranges ps))

-- ---- sets

-- the ranges of sets, each with its unit, in the order of the sets
abbrev pub ranges_in : List AddressSet → List UnitRange
ranges_in sets = flat_map (λ s. of_unit s.unit s.ranges) sets

-- ranges, and behind them those of a set; and what stands behind the set
abbrev pub with_set : List UnitRange → Result (AddressSet × Input) Fault → Result (List UnitRange × Input) Fault
with_set front set = set >>= λ s. Ok (front ++ of_unit s.0.unit s.0.ranges, s.1)

-- ranges, and behind them those of sets
abbrev pub with_sets : List UnitRange → Result (List AddressSet) Fault → Result (List UnitRange) Fault
with_sets front sets = sets >>= λ ss. Ok (front ++ ranges_in ss)

-- ---- units

-- each unit begins behind the one before it, and none below from
abbrev pub Rise : ℕ → List UnitHeader → Type 0
Rise from [] = ⊤
Rise from (u ∷ us) = (from ≤ u.start) × Rise (u.start + 1) us
