-- What a node says of the ranges of its entry.
use Rattle.std.proofs.Common.{◌≡◌, ℕ, Bool, true, false, cond, eqb, leb, ◌&&◌, ◌||◌, Option, Some, None, List, refl, sym, ap, ◌∙◌}
use Rattle.std.specs.Prelude.{pos, negsuc, is_some, option_and_then}
use Rattle.std.specs.Option.{option_map}
use Rattle.common_laws.proofs.Options.{some_of_map}
use Rattle.index_model.specs.declared.shard.Node.{Node}
use Rattle.index_model.specs.Meaning.{at_place}
use Rattle.index_model.specs.Sections.{Section}
use Rattle.index_model.specs.Forms.{Value, Addr, Unsigned, AddrIndex, Offset, RangeIndex, Signed}
use Rattle.index_model.specs.Attributes.{High, attribute, as_address, as_high as high_of, as_ranges, as_unsigned, low_pc, high_pc, ranges_value}
use Rattle.index_model.specs.Program.{Located}
use Rattle.index_model.specs.Ranges.{ranges_by, entry_ranges, has_ranges}
use Rattle.index_model.specs.ShardParts.{raw_of, raw_of_high, node_facts}
use Rattle.range_lists.specs.Homes.{as_value, as_high}
use Rattle.range_lists.specs.Lists.{kept}
use Rattle.range_lists.specs.Nodes.{node_ranges, has_node_ranges}

-- ---- values that were kept

low_back : (o : Option Value) → option_map as_value (option_and_then raw_of (option_and_then as_address o)) ≡ option_and_then as_address o
low_back None = refl
low_back (Some (Addr a)) = refl
low_back (Some (AddrIndex i)) = refl
low_back (Some other) = refl

high_back : (o : Option Value) → option_map as_high (option_and_then raw_of_high (option_and_then high_of o)) ≡ option_and_then high_of o
high_back None = refl
high_back (Some (Addr a)) = refl
high_back (Some (AddrIndex i)) = refl
high_back (Some (Unsigned n)) = refl
high_back (Some (Signed (pos n))) = refl
high_back (Some (Signed (negsuc n))) = refl
high_back (Some other) = refl

index_back : (five : Bool) (i : ℕ) → option_map as_value (option_and_then raw_of (cond five (Some (RangeIndex i)) None)) ≡ cond five (Some (RangeIndex i)) None
index_back true i = refl
index_back false i = refl

old_back : (old : Bool) (o : Option ℕ) → option_map as_value (option_and_then raw_of (cond old (option_map Offset o) None)) ≡ cond old (option_map Offset o) None
old_back true (Some n) = refl
old_back true None = refl
old_back false o = refl

ranges_back : (version : ℕ) (o : Option Value) → option_map as_value (option_and_then raw_of (option_and_then (as_ranges version) o)) ≡ option_and_then (as_ranges version) o
ranges_back version None = refl
ranges_back version (Some (Offset o)) = refl
ranges_back version (Some (RangeIndex i)) = index_back (eqb version 5) i
ranges_back version (Some other) = old_back (leb version 3) (as_unsigned other)

-- ---- nodes

module _ (d : Located) (n : Node) (is : n ≡ node_facts d) where
  pub node_place : n.offset ≡ d.item.at
  unfolding node_facts
  node_place = ap (λ (x : Node). x.offset) is

  pub node_unit : n.unit ≡ d.home.number
  unfolding node_facts
  node_unit = ap (λ (x : Node). x.unit) is

  pub node_tag : n.tag ≡ d.item.tag
  unfolding node_facts
  node_tag = ap (λ (x : Node). x.tag) is

  pub node_low : option_map as_value n.low ≡ low_pc d.item
  unfolding node_facts
  node_low = ap (λ (x : Node). option_map as_value x.low) is ∙ low_back (attribute 0x11 d.item)

  pub node_high : option_map as_high n.high ≡ high_pc d.item
  unfolding node_facts
  node_high = ap (λ (x : Node). option_map as_high x.high) is ∙ high_back (attribute 0x12 d.item)

  pub node_list : option_map as_value n.ranges ≡ ranges_value d.home.unit.version d.item
  unfolding node_facts
  node_list = ap (λ (x : Node). option_map as_value x.ranges) is ∙ ranges_back d.home.unit.version (attribute 0x55 d.item)

  -- the ranges of the node are those of the entry
  pub node_is_entry : (ss : List Section) → node_ranges ss d.home n ≡ entry_ranges ss d.home d.item
  unfolding node_ranges entry_ranges
  node_is_entry ss =
      ap (λ (k : ℕ). at_place k (kept (ranges_by ss d.home (option_map as_value n.ranges) (option_map as_value n.low) (option_map as_high n.high)))) node_place ∙
      ap (λ (o : Option Value). at_place d.item.at (kept (ranges_by ss d.home o (option_map as_value n.low) (option_map as_high n.high)))) node_list ∙
      ap (λ (o : Option Value). at_place d.item.at (kept (ranges_by ss d.home (ranges_value d.home.unit.version d.item) o (option_map as_high n.high)))) node_low ∙
      ap (λ (o : Option High). at_place d.item.at (kept (ranges_by ss d.home (ranges_value d.home.unit.version d.item) (low_pc d.item) o))) node_high

  pub node_has : has_node_ranges n ≡ has_ranges d.home.unit.version d.item
  node_has =
      ap (λ (b : Bool). b || (is_some n.low && is_some n.high)) (sym (some_of_map as_value n.ranges) ∙ ap is_some node_list) ∙
      ap (λ (b : Bool). is_some (ranges_value d.home.unit.version d.item) || (b && is_some n.high)) (sym (some_of_map as_value n.low) ∙ ap is_some node_low) ∙
      ap (λ (b : Bool). is_some (ranges_value d.home.unit.version d.item) || (is_some (low_pc d.item) && b)) (sym (some_of_map as_high n.high) ∙ ap is_some node_high)
