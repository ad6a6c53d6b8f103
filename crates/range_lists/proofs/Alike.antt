-- Walks of which a shard keeps the same have the same ranges.
use Rattle.std.proofs.Common.{◌≡◌, ℕ, List, [], ◌∷◌, Option, Some, None, Result, Ok, refl, sym, ap, subst, ◌∙◌, cond, eqb, flat_map}
use Rattle.std.specs.Prelude.{option_and_then, codes}
use Rattle.std.specs.Option.{option_map}
use Rattle.ix_base.specs.declared.code.TheConstants.{BAD_RANGE}
use Rattle.ix_base.specs.declared.fault.Fault.{Fault}
use Rattle.ix_base.specs.Reading.{Input, number, uleb}
use Rattle.index_model.specs.declared.unit.Unit.{Unit as UnitHeader}
use Rattle.index_model.specs.declared.range.Range.{Range}
use Rattle.index_model.specs.declared.shard.Node.{Node}
use Rattle.index_model.specs.Meaning.{◌>>=◌, some_or, at_place, each}
use Rattle.index_model.specs.Sections.{Section, section_bytes}
use Rattle.index_model.specs.Forms.{Value, Addr, AddrIndex, Offset, RangeIndex}
use Rattle.index_model.specs.Attributes.{High, EndsAt, Bytes, low_pc, as_address}
use Rattle.index_model.specs.Program.{Walked, root_of}
use Rattle.index_model.specs.Strings.{base_of}
use Rattle.index_model.specs.RangeLists.{End, Base, Bounds, Offsets, EntryReader, indexed_address, address_of, one, two, long, plain, fixed, kind_reader, kind_at, pair_at, list_at, list_offset, list_of}
use Rattle.index_model.specs.Ranges.{bounds, first_base, ranges_by}
use Rattle.range_lists.specs.Lists.{kept, reader_for}
use Rattle.range_lists.specs.declared.list_entry.ListFormat.{ListFormat}
use Rattle.range_lists.specs.declared.list_entry.ListFormat.TheVariants.{Pairs, Kinds}
use Rattle.range_lists.specs.Homes.{as_value, as_high, unit_with}
use Rattle.range_lists.specs.declared.home.RangeUnit.{RangeUnit}
use Rattle.index_model.specs.declared.shard.Raw.{Raw}
use Rattle.index_model.specs.declared.shard.LinkedEntry.{LinkedEntry}
use Rattle.index_model.specs.ShardParts.{root_facts}
use Rattle.range_lists.specs.Nodes.{node_ranges, all_node_ranges, nodes_with_ranges}
use Rattle.range_lists.proofs.Roots.{address_behind, list_behind, header_at, addresses_at, lists_at, low_at}

-- what ranges depend on is the same
pub record Alike (w v : Walked) : Type 0 where
  pub unit : w.unit ≡ v.unit
  pub addresses : base_of 0x73 w ≡ base_of 0x73 v
  pub lists : base_of 0x74 w ≡ base_of 0x74 v
  pub low : option_and_then low_pc (root_of w) ≡ option_and_then low_pc (root_of v)

-- a reader of an index, by the look-up
abbrev index_by : (ℕ → Result ℕ ℕ) → Input → Result (ℕ × Input) ℕ
index_by look i = some_or (uleb i) BAD_RANGE >>= λ n. look n.0 >>= λ a. Ok (a, n.1)

-- a reader of an entry, by the look-up
abbrev kind_by : (ℕ → Result ℕ ℕ) → EntryReader
kind_by look i = some_or (number 1 i) BAD_RANGE >>= λ kind. kind_reader (
    (0, λ i. Ok (End, i)) ∷
    (1, one Base (index_by look)) ∷
    (2, two Bounds (index_by look) (index_by look)) ∷
    (3, two long (index_by look) plain) ∷
    (4, two Offsets plain plain) ∷
    (5, one Base fixed) ∷
    (6, two Bounds fixed fixed) ∷
    (7, two long fixed plain) ∷
    []) kind.0 kind.1

module _ (ss : List Section) (w v : Walked) (addresses : base_of 0x73 w ≡ base_of 0x73 v) where
  indexed_same : (n : ℕ) → indexed_address ss w n ≡ indexed_address ss v n
  unfolding indexed_address
  indexed_same n = ap (address_behind ss n) addresses

  look_same : indexed_address ss w ≡ indexed_address ss v
  look_same = λ i n. indexed_same n i

  kind_same : kind_at ss w ≡ kind_at ss v
  unfolding kind_at
  kind_same = ap kind_by look_same

  -- lists of units with one base of addresses are read alike
  pub reader_same : (format : ListFormat) → reader_for format ss w ≡ reader_for format ss v
  reader_same Pairs = refl
  reader_same Kinds = kind_same

module _ (ss : List Section) (w v : Walked) (h : Alike w v) where
  address_same : (x : Value) → address_of ss w x ≡ address_of ss v x
  unfolding address_of
  address_same (Addr a) = refl
  address_same (AddrIndex n) = indexed_same ss w v h.addresses n
  address_same other = refl

  offset_same : (n : ℕ) → list_offset ss w n ≡ list_offset ss v n
  unfolding list_offset
  offset_same n = ap (list_behind ss w.unit.wide n) h.lists ∙ ap (λ (u : UnitHeader). list_behind ss u.wide n (base_of 0x74 v)) h.unit

  list_same : (base : ℕ) (x : Value) → list_of ss w base x ≡ list_of ss v base x
  unfolding list_of
  list_same base (RangeIndex n) =
      ap (λ (o : Result ℕ ℕ). o >>= list_at (kind_at ss w) base (section_bytes ss (codes ".debug_rnglists"))) (offset_same n) ∙
      ap (λ (read : EntryReader). list_offset ss v n >>= list_at read base (section_bytes ss (codes ".debug_rnglists"))) (kind_same ss w v h.addresses)
  list_same base (Offset o) =
      ap (λ (read : EntryReader). cond (eqb w.unit.version 5) (list_at read base (section_bytes ss (codes ".debug_rnglists")) o) (list_at pair_at base (section_bytes ss (codes ".debug_ranges")) o)) (kind_same ss w v h.addresses) ∙
      ap (λ (u : UnitHeader). cond (eqb u.version 5) (list_at (kind_at ss v) base (section_bytes ss (codes ".debug_rnglists")) o) (list_at pair_at base (section_bytes ss (codes ".debug_ranges")) o)) h.unit
  list_same base other = refl

  bounds_same : (low : ℕ) (high : High) → bounds ss w low high ≡ bounds ss v low high
  unfolding bounds
  bounds_same low (EndsAt x) = ap (λ (r : Result ℕ ℕ). r >>= λ end. Ok (record { low = low; end = end } ∷ [])) (address_same x)
  bounds_same low (Bytes n) = refl

  base_same : (low : Option Value) → first_base ss w low ≡ first_base ss v low
  base_same (Some low) = address_same low
  base_same None = refl

  by_same : (list low : Option Value) (high : Option High) → ranges_by ss w list low high ≡ ranges_by ss v list low high
  unfolding ranges_by
  by_same (Some list) low high =
      ap (λ (b : Result ℕ ℕ). b >>= λ base. list_of ss w base list) (base_same (option_and_then low_pc (root_of w)) ∙ ap (first_base ss v) h.low) ∙
      ap (λ (f : ℕ → Result (List Range) ℕ). first_base ss v (option_and_then low_pc (root_of v)) >>= f) (λ i base. list_same base list i)
  by_same None (Some low) (Some high) =
      ap (λ (r : Result ℕ ℕ). r >>= λ a. bounds ss w a high) (address_same low) ∙
      ap (λ (f : ℕ → Result (List Range) ℕ). address_of ss v low >>= f) (λ i a. bounds_same a high i)
  by_same None (Some low) None = refl
  by_same None None high = refl

  node_same : (n : Node) → node_ranges ss w n ≡ node_ranges ss v n
  unfolding node_ranges
  node_same n = ap (λ (r : Result (List Range) ℕ). at_place n.offset (kept r)) (by_same (option_map as_value n.ranges) (option_map as_value n.low) (option_map as_high n.high))

  pub all_same : (nodes : List Node) → all_node_ranges ss w nodes ≡ all_node_ranges ss v nodes
  all_same nodes = ap (λ (f : Node → Result (List Range) Fault). each f nodes >>= λ rs. Ok (flat_map (λ r. r) rs)) (λ i n. node_same n i)

-- ---- a home

by_parts : (low : Option Raw) → option_and_then as_address (option_map as_value low) ≡ option_and_then (λ r. as_address (as_value r)) low
by_parts (Some r) = refl
by_parts None = refl

facts_addresses : (w : Walked) → (root_facts w).addr_base ≡ base_of 0x73 w
unfolding root_facts
facts_addresses w = refl

facts_lists : (w : Walked) → (root_facts w).rnglists_base ≡ base_of 0x74 w
unfolding root_facts
facts_lists w = refl

pub home_alike : (h : RangeUnit) (w : Walked) → h.header ≡ w.unit → h.addr_base ≡ (root_facts w).addr_base → h.rnglists_base ≡ (root_facts w).rnglists_base → option_and_then low_pc (root_of w) ≡ option_and_then (λ r. as_address (as_value r)) h.low → Alike (unit_with h) w
home_alike h w header addresses lists low = record {
  unit = header_at h ∙ header;
  addresses = addresses_at h ∙ addresses ∙ facts_addresses w;
  lists = lists_at h ∙ lists ∙ facts_lists w;
  low = low_at h ∙ by_parts h.low ∙ sym low;
}

-- what holds of a home's ranges holds of the unit's
pub moved : (Holds : Result (List Range) Fault → Type 0) (ss secs : List Section) (h : RangeUnit) (w : Walked) (nodes others : List Node) (entries links : List LinkedEntry) → ss ≡ secs → Alike (unit_with h) w → nodes ≡ others → entries ≡ links →
    Holds (all_node_ranges ss (unit_with h) (nodes_with_ranges entries nodes)) → Holds (all_node_ranges secs w (nodes_with_ranges links others))
moved Holds ss secs h w nodes others entries links sections alike ns es holds =
    subst Holds (
    all_same ss (unit_with h) w alike (nodes_with_ranges entries nodes) ∙
    ap (λ (s : List Section). all_node_ranges s w (nodes_with_ranges entries nodes)) sections ∙
    ap (λ (xs : List Node). all_node_ranges secs w (nodes_with_ranges entries xs)) ns ∙
    ap (λ (xs : List LinkedEntry). all_node_ranges secs w (nodes_with_ranges xs others)) es
    ) holds
