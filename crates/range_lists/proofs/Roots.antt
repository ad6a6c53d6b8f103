-- What is known of a unit's root.
use Rattle.std.proofs.Common.{◌≡◌, ℕ, Option, Some, None, refl, ap, ◌∙◌}
use Rattle.std.specs.Prelude.{Bool, ◌+◌, ◌*◌, List, Result, Ok, codes}
use Rattle.ix_base.specs.declared.code.TheConstants.{NO_BASE, BAD_RANGE}
use Rattle.ix_base.specs.Reading.{number, offset, input}
use Rattle.index_model.specs.Meaning.{◌>>=◌, some_or}
use Rattle.index_model.specs.Sections.{Section, section_bytes}
use Rattle.index_model.specs.RangeLists.{indexed_address, list_offset}
use Rattle.std.specs.Prelude.{option_and_then}
use Rattle.std.specs.Option.{option_map}
use Rattle.index_model.specs.declared.unit.Unit.{Unit as UnitHeader}
use Rattle.index_model.specs.declared.shard.Raw.{Raw}
use Rattle.index_model.specs.Attributes.{read_as, as_address, as_offset, low_pc}
use Rattle.index_model.specs.Program.{root_of}
use Rattle.index_model.specs.Strings.{base_of, offset_size}
use Rattle.range_lists.specs.declared.home.RangeUnit.{RangeUnit}
use Rattle.range_lists.specs.Homes.{as_value, root_with, unit_with}

addresses : (a l : Option ℕ) (low : Option Raw) → read_as as_offset 0x73 (root_with a l low) ≡ a
addresses (Some a) l low = refl
addresses None (Some l) (Some low) = refl
addresses None (Some l) None = refl
addresses None None (Some low) = refl
addresses None None None = refl

lists : (a l : Option ℕ) (low : Option Raw) → read_as as_offset 0x74 (root_with a l low) ≡ l
lists (Some a) (Some l) low = refl
lists (Some a) None (Some low) = refl
lists (Some a) None None = refl
lists None (Some l) low = refl
lists None None (Some low) = refl
lists None None None = refl

lows : (a l : Option ℕ) (low : Option Raw) → low_pc (root_with a l low) ≡ option_and_then as_address (option_map as_value low)
lows (Some a) (Some l) (Some low) = refl
lows (Some a) (Some l) None = refl
lows (Some a) None (Some low) = refl
lows (Some a) None None = refl
lows None (Some l) (Some low) = refl
lows None (Some l) None = refl
lows None None (Some low) = refl
lows None None None = refl

pub addresses_at : (h : RangeUnit) → base_of 0x73 (unit_with h) ≡ h.addr_base
unfolding unit_with
addresses_at h = addresses h.addr_base h.rnglists_base h.low

pub lists_at : (h : RangeUnit) → base_of 0x74 (unit_with h) ≡ h.rnglists_base
unfolding unit_with
lists_at h = lists h.addr_base h.rnglists_base h.low

pub low_at : (h : RangeUnit) → option_and_then low_pc (root_of (unit_with h)) ≡ option_and_then as_address (option_map as_value h.low)
unfolding unit_with
low_at h = lows h.addr_base h.rnglists_base h.low

-- the address at an index behind this base
abbrev pub address_behind : List Section → ℕ → Option ℕ → Result ℕ ℕ
address_behind ss n base = some_or base NO_BASE >>= λ b. some_or (number 8 (input (section_bytes ss (codes ".debug_addr")) (b + 8 * n))) BAD_RANGE >>= λ a. Ok a.0

pub indexed_at : (h : RangeUnit) (ss : List Section) (n : ℕ) → indexed_address ss (unit_with h) n ≡ address_behind ss n h.addr_base
unfolding indexed_address
indexed_at h ss n = ap (address_behind ss n) (addresses_at h)

pub header_at : (h : RangeUnit) → (unit_with h).unit ≡ h.header
unfolding unit_with
header_at h = refl

-- where the list of an index begins behind this base
abbrev pub list_behind : List Section → Bool → ℕ → Option ℕ → Result ℕ ℕ
list_behind ss wide n base = some_or base NO_BASE >>= λ b. some_or (offset wide (input (section_bytes ss (codes ".debug_rnglists")) (b + offset_size wide * n))) BAD_RANGE >>= λ o. Ok (b + o.0)

pub list_offset_at : (h : RangeUnit) (ss : List Section) (n : ℕ) → list_offset ss (unit_with h) n ≡ list_behind ss h.header.wide n h.rnglists_base
unfolding list_offset
list_offset_at h ss n = ap (list_behind ss (unit_with h).unit.wide n) (lists_at h) ∙ ap (λ (wide : Bool). list_behind ss wide n h.rnglists_base) (ap (λ (u : UnitHeader). u.wide) (header_at h))
