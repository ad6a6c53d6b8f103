use Rattle.std.proofs.Common.{◌≡◌, ℕ, ◌+◌, ◌-◌, ◌<◌, List, [], length, get_or, take, drop, sym, ap, ◌∙◌, subst, arith}
use Rattle.std.specs.Prelude.{All, sum_by}
use Rattle.std.proofs.lemmas.List.{take_all}
use Rattle.std.proofs.lemmas.List.Sums.{sum_by_more}
use Rattle.index_model.specs.Answers.{places}
use Rattle.index_model.specs.NameIndex.{Indexed, all_indexed}
use Rattle.query_engine.specs.declared.listing.ListedName.{ListedName}
use Rattle.query_engine.specs.Listed.{is_listed}
use Rattle.query_engine.proofs.PlacedEntries.{places_within}
use Rattle.debugnames_write.specs.Counts.{count_of}
use Rattle.debugnames_write.specs.Items.{ArePartOf}
use Rattle.debugnames_write.specs.declared.part.ListedPart.{ListedPart}
use Rattle.debugnames_write.specs.declared.source.Source.{Source}
use Rattle.debugnames_write.proofs.ItemLaws.{items_more, counts_more, own_entries}
use Rattle.debugnames_write.proofs.PartLaws.{piece}
use Rattle.debugnames_write.proofs.listed.items_of.Goals as goal

abbrev none : ListedName
none = record { name = record { ref_ptr = (0, 0); now = [] }; count = 0 }

-- the places of one name
places_cut : (s : Source) (p : ListedPart) (own : ArePartOf s p) (k passed : ℕ) → k < length p.names.now → passed ≡ sum_by count_of (take k p.names.now)
    → take ((passed + (get_or p.names.now k none).count) - passed) (drop passed p.places.now) ≡ places (is_listed (get_or p.names.now k none).name.now) s.entries.now
places_cut s p own k passed lt is =
    let width : (passed + (get_or p.names.now k none).count) - passed ≡ (get_or p.names.now k none).count = omega arith in
    ap (λ (m : ℕ). take m (drop passed p.places.now)) width
    ∙ piece (λ t. places (is_listed t) s.entries.now) p.names.now p.places.now own.counts own.are k none lt passed is

pub push_items-requires-clause-within : goal.push_items-requires-clause-within
push_items-requires-clause-within c =
    let es = c.args.source.now.entries.now in
    let cut = places_cut c.args.source.now c.args.part c.requires c.loop-name.name-index c.loop-name.passed c.loop-name-test.true c.loop-name.invariant.passed in
    subst (All (λ (p : ℕ). p < length es)) (sym cut) (places_within (is_listed (get_or c.args.part.names.now c.loop-name.name-index none).name.now) es)

pub loop-name-preserved : goal.loop-name-preserved
loop-name-preserved c =
    let units = c.args.source.now.units.now in
    let es = c.args.source.now.entries.now in
    let ns = c.args.part.names.now in
    let k : ℕ = c.loop-name.name-index in
    let lt : k < length ns = c.loop-name-test.true in
    let t : List ℕ = (get_or ns k none).name.now in
    let all : List Indexed = all_indexed units es in
    let cut = places_cut c.args.source.now c.args.part c.requires k c.loop-name.passed lt c.loop-name.invariant.passed in
    let own = own_entries units es t _ cut in
    record {
      passed = ap (λ (n : ℕ). n + (get_or ns k none).count) c.loop-name.invariant.passed ∙ sym (sum_by_more count_of ns k none lt);
      names = counts_more all ns k none lt c.loop-name.listed.names.items c.push_some.new.names.items c.in_ok-count.count c.loop-name.invariant.names c.in_ok-push_some.ensures
          (c.in_ok-count.ensures.count ∙ ap (λ (w : List Indexed). length w) own);
      items = items_more all ns k none lt c.loop-name.listed.items.items c.push_items.new.items.items _ c.loop-name.invariant.items c.in_ok-count.ensures.items own;
    }

pub returns : goal.returns
returns c =
    let whole = take_all c.loop-name.name-index c.args.part.names.now c.loop-name-test.false in
    record {
      names = rw whole at c.loop-name.invariant.names;
      items = rw whole at c.loop-name.invariant.items;
    }
