-- The ranges of all units stay.
use Rattle.std.proofs.Common.{ℕ, ◌+◌, List, [], ◌∷◌, filter, map, flat_map, Option, Some, None, Result, Ok}
use Rattle.std.specs.Prelude.{option_and_then}
use Rattle.index_model.specs.declared.range.Range.{Range}
use Rattle.index_model.specs.declared.range.UnitRange.{UnitRange}
use Rattle.index_model.specs.Sections.{Section}
use Rattle.index_model.specs.Forms.{Value}
use Rattle.index_model.specs.Attributes.{High, EndsAt, Bytes, low_pc, high_pc, ranges_value}
use Rattle.index_model.specs.Walk.{Item}
use Rattle.index_model.specs.Program.{Walked, Program, root_of}
use Rattle.index_model.specs.Links.{Link}
use Rattle.index_model.specs.RangeLists.{address_of}
use Rattle.index_model.specs.Ranges.{bounds, first_base, ranges_by, is_kept, entry_ranges, entries_with_ranges, ranges_of, unit_ranges, ranges_in}
use Rattle.index_model.specs.Faults.{all_ranges}
use Rattle.grown_alike.specs.Grown.{Grows}
use Rattle.grown_alike.proofs.Kept.{Keeps, keeps_itself, keeps_then, keeps_each, keeps_place}
use Rattle.grown_alike.proofs.SameUnits.{with_walks}
use Rattle.grown_alike.proofs.ListReads.{address_keeps, list_keeps}

module _ (first second : List Section) (grows : Grows first second) where
  -- ---- one entry

  module _ (w : Walked) where
    bounds_keep : (low : ℕ) (high : High) → Keeps (bounds first w low high) (bounds second w low high)
    unfolding bounds
    bounds_keep low (EndsAt v) = keeps_then (address_of first w v) (address_of second w v) _ _ (address_keeps first second grows w v) (λ end _. keeps_itself (Ok (record { low = low; end = end } ∷ [])))
    bounds_keep low (Bytes n) = keeps_itself (Ok (record { low = low; end = low + n } ∷ []))

    base_keeps : (low : Option Value) → Keeps (first_base first w low) (first_base second w low)
    base_keeps (Some low) = address_keeps first second grows w low
    base_keeps None = keeps_itself (Ok 0)

    by_keeps : (list low : Option Value) (high : Option High) → Keeps (ranges_by first w list low high) (ranges_by second w list low high)
    unfolding ranges_by
    by_keeps (Some list) low high =
        keeps_then (first_base first w (option_and_then low_pc (root_of w))) (first_base second w (option_and_then low_pc (root_of w))) _ _ (base_keeps (option_and_then low_pc (root_of w))) (λ base _.
        list_keeps first second grows w base list)
    by_keeps None (Some low) (Some high) = keeps_then (address_of first w low) (address_of second w low) _ _ (address_keeps first second grows w low) (λ a _. bounds_keep a high)
    by_keeps None (Some low) None = keeps_itself (Ok [])
    by_keeps None None high = keeps_itself (Ok [])

    entry_keeps : (d : Item) → Keeps (entry_ranges first w d) (entry_ranges second w d)
    unfolding entry_ranges
    entry_keeps d =
        let by : List Section → Result (List Range) ℕ = λ ss. ranges_by ss w (ranges_value w.unit.version d) (low_pc d) (high_pc d) in
        keeps_place d.at _ _ (keeps_then (by first) (by second) _ _ (by_keeps (ranges_value w.unit.version d) (low_pc d) (high_pc d)) (λ rs _.
        keeps_itself (Ok (filter is_kept rs))))

  -- ---- all units

  module _ (ws : List Walked) (ks : List Link) where
    abbrev before : Program
    before = with_walks first ws

    abbrev after : Program
    after = with_walks second ws

    of_unit_keep : (w : Walked) → Keeps (ranges_of before ks w) (ranges_of after ks w)
    unfolding ranges_of
    of_unit_keep w =
        keeps_then _ _ _ _ (keeps_each (entry_ranges first w) (entry_ranges second w) (entries_with_ranges ks w (root_of w)) (λ d _. entry_keeps w d)) (λ rs _.
        keeps_itself (Ok (flat_map (λ r. r) rs)))

    unit_keeps : (w : Walked) → Keeps (unit_ranges before ks w) (unit_ranges after ks w)
    unfolding unit_ranges
    unit_keeps w =
        keeps_then (ranges_of before ks w) (ranges_of after ks w) _ _ (of_unit_keep w) (λ rs _.
        keeps_itself (Ok (map (λ (r : Range). let u : UnitRange = record { unit = w.number; range = r } in u) rs)))

    pub ranges_keep : Keeps (all_ranges before ks) (all_ranges after ks)
    unfolding all_ranges ranges_in
    ranges_keep =
        keeps_then _ _ _ _ (keeps_each (unit_ranges before ks) (unit_ranges after ks) ws (λ w _. unit_keeps w)) (λ rs _.
        keeps_itself (Ok (flat_map (λ r. r) rs)))
