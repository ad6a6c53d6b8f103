-- The map of the sorted ranges of sets.
use Rattle.std.proofs.Common.{◌≡◌, ℕ, List, [], Result, Ok, Err, sym, ap, subst, ◌∙◌}
use Rattle.std.specs.Prelude.{IsOkAnd}
use Rattle.std.specs.List.Sorted.{IsNonDecreasingBy, IsPermutation}
use Rattle.ix_base.specs.declared.fault.Fault.{Fault}
use Rattle.index_model.specs.Gives.{Stop}
use Rattle.ix_base.specs.Reading.{input}
use Rattle.std.specs.Prelude.{codes}
use Rattle.index_model.specs.declared.range.UnitRange.{UnitRange}
use Rattle.index_model.specs.declared.unit.Unit.{Unit as UnitHeader}
use Rattle.index_model.specs.Gives.{StopsAs}
use Rattle.index_model.specs.Pieces.{IsPieces}
use Rattle.index_model.specs.Sections.{Section, section_bytes}
use Rattle.index_model.specs.Tiling.{tiles}
use Rattle.index_model.proofs.Meanings.{same_ok}
use Rattle.reach_model.specs.AddressSets.{AddressSet, next_set, address_sets}
use Rattle.aranges_read.specs.Sets.{ranges_in, with_sets}
use Rattle.aranges_read.specs.Tables.{HasTheUnitsOf}
use Rattle.aranges_read.proofs.LeastUnits.{least_of_sets}
use Rattle.aranges_read.proofs.SetSteps.{of_sets_stop}

by_sets : (sets : Result (List AddressSet) Fault) (ranges sorted pieces : List UnitRange) → with_sets [] sets ≡ Ok ranges → IsPermutation ranges sorted → IsNonDecreasingBy (λ (u : UnitRange). u.unit) sorted → IsPieces sorted pieces → IsOkAnd sets (HasTheUnitsOf pieces)
by_sets (Ok ss) ranges sorted pieces is same up are = λ a. are.same a ∙ least_of_sets a ss sorted (subst (λ (rs : List UnitRange). IsPermutation rs sorted) (sym (same_ok (ranges_in ss) ranges is)) same) up
by_sets (Err f) ranges sorted pieces is same up are = absurd cc

module _ (ss : List Section) (units us : List UnitHeader) (of_units : us ≡ units) (bytes : List ℕ) (of_bytes : bytes ≡ section_bytes ss (codes ".debug_aranges")) where
  abbrev sets : Result (List AddressSet) Fault
  sets = tiles (next_set us) 0 (input bytes 0)

  are_the_sets : sets ≡ address_sets ss units
  unfolding address_sets
  are_the_sets = ap (λ (vs : List UnitHeader). tiles (next_set vs) 0 (input bytes 0)) of_units ∙ ap (λ (bs : List ℕ). tiles (next_set units) 0 (input bs 0)) of_bytes

  pub stops_as : (stop : Stop) → StopsAs stop (with_sets [] sets) → StopsAs stop (address_sets ss units)
  stops_as stop h = subst (StopsAs stop) are_the_sets (of_sets_stop stop sets h)

  pub map_is : (ranges sorted pieces : List UnitRange) → with_sets [] sets ≡ Ok ranges → IsPermutation ranges sorted → IsNonDecreasingBy (λ (u : UnitRange). u.unit) sorted → IsPieces sorted pieces → IsOkAnd (address_sets ss units) (HasTheUnitsOf pieces)
  map_is ranges sorted pieces is same up are = subst (λ (r : Result (List AddressSet) Fault). IsOkAnd r (HasTheUnitsOf pieces)) are_the_sets (by_sets sets ranges sorted pieces is same up are)
