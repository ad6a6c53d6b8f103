-- The entries of the address area.
use Rattle.std.proofs.Common.{◌≡◌, ℕ, ◌/◌, ◌<◌, ◌≤◌, true, false, length, map, find, Option, Some, None, Ok, ltb, refl, ap, sym, ◌∙◌}
use Rattle.std.specs.Prelude.{option_map}
use Rattle.std.specs.List.{range_with_len}
use Rattle.std.proofs.lemmas.Bool.{lt-ltb, le-ltb}
use Rattle.ix_base.specs.Reading.{Input}
use Rattle.index_model.specs.declared.index_code.TheConstants.{GDB_ADDRESS_AREA}
use Rattle.index_model.specs.Meaning.{◌>>◌, fault, holds_or, wrong_in}
use Rattle.index_model.specs.Layout.{field}
use Rattle.index_model.specs.GdbAreas.{Areas, unit_count}
use Rattle.index_model.specs.GdbIndexRead.{Address, address}
use Rattle.gdbindex_read.specs.declared.addresses.AddressArea.{AddressArea}
use Rattle.gdbindex_read.specs.Addresses.{area_of, address_in, address_of, addresses_seen, contains_of}
use Rattle.gdbindex_read.proofs.Loops.{found_from, found_from_all}

module _ (a : Areas) (entry : Input) where
  pub past_units : unit_count a ≤ field 4 16 entry.rest → wrong_in (address a entry) ≡ Some (fault GDB_ADDRESS_AREA entry.at)
  unfolding address
  past_units le = rw (le-ltb (field 4 16 entry.rest) (unit_count a) le) refl

  pub of_a_unit : field 4 16 entry.rest < unit_count a → wrong_in (address a entry) ≡ None
  unfolding address
  of_a_unit lt = rw (lt-ltb (field 4 16 entry.rest) (unit_count a) lt) refl

  -- an entry without a fault is what its bytes say
  pub address_is : (y : Address) → address a entry ≡ Ok y → y ≡ address_in entry.rest
  unfolding address
  address_is y e = elim (ltb (field 4 16 entry.rest) (unit_count a)) as (λ b. (holds_or b (fault GDB_ADDRESS_AREA entry.at) >> Ok (address_in entry.rest)) ≡ Ok y → y ≡ address_in entry.rest) [
    | true ↦ λ h. cc
    | false ↦ λ h. absurd cc
  ] e

module _ (a : AddressArea) (at count : ℕ) (size : count ≡ length (area_of a).rest / 20) where
  all_entries : found_from (contains_of at) (address_of a) 0 count ≡ find (contains_of at) (addresses_seen a)
  all_entries = found_from_all (contains_of at) (address_of a) count ∙ ap (λ (n : ℕ). find (contains_of at) (map (address_of a) (range_with_len 0 n))) size

  -- the unit of the first entry that contains the address is that of what was found
  pub unit_of : (found : Option Address) → found_from (contains_of at) (address_of a) 0 count ≡ found → option_map (λ e. e.number) (find (contains_of at) (addresses_seen a)) ≡ option_map (λ e. e.number) found
  unit_of found e = ap (option_map (λ (e : Address). e.number)) (sym all_entries ∙ e)
