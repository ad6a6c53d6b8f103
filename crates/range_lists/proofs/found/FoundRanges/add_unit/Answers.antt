use Rattle.std.proofs.Common.{◌≡◌, Option, Some, None, get_or, map, length, ap, sym, ◌∙◌, arith}
use Rattle.std.specs.Prelude.{is_some}
use Rattle.std.specs.Arc.{arc_value}
use Rattle.std.proofs.lemmas.Bool.{ltb-true, ltb-false}
use Rattle.std.proofs.lemmas.List.Quantifiers.{position-Some}
use Rattle.std.proofs.lemmas.List.{length-map}
use Rattle.common_laws.proofs.Lists.{slice_of_map}
use Rattle.index_model.specs.declared.shard.Root.{Root}
use Rattle.index_model.specs.declared.shard.Shard.{Shard}
use Rattle.index_model.specs.declared.shard.Linked.{Linked}
use Rattle.index_model.specs.ShardParts.{root_facts}
use Rattle.index_model.specs.Shards.{StandsFor}
use Rattle.index_model.specs.ShardLanguages.{root_in}
use Rattle.index_model.proofs.FirstSome.{first_map}
use Rattle.range_lists.specs.Units.{IsLinkedRun}
use Rattle.range_lists.proofs.Runs.{none_passes, none_first, zip_length}
use Rattle.range_lists.proofs.UnitRanges.{root_there, found_at}
use Rattle.range_lists.proofs.found.FoundRanges.add_unit.Goals as goal

some : Root → Option Root
some r = Some r

pub returns-in_default : goal.returns-in_default
unfolding some
returns-in_default c read p ks file links h own w wc number =
    let unit = c.args.unit in
    let shards = c.args.shards.now in
    let there = root_there c.args.image.now.file p file (map arc_value shards) h w wc unit number in
    let none = none_first (λ s. root_in unit (arc_value s)) shards (none_passes (λ s. is_some (root_in unit (arc_value s))) shards (sym c.run_of.ensures.value ∙ c.in_default.is)) in
    let never : some (root_facts w) ≡ None = sym there ∙ first_map (root_in unit) arc_value shards ∙ none in
    absurd cc

pub returns-in-Some-get : goal.returns-in-Some-get
returns-in-Some-get c read p ks file links h own w wc number =
    let unit = c.args.unit in
    let shards = c.args.shards.now in
    let linked = c.args.linked.now in
    let place = c.in-Some.place in
    let item = c.index-shards-place.result in
    let s = c.deref.result.now in
    let l = c.deref-in-Some-get.result.now in
    let same : s ≡ arc_value (get_or shards place item) = c.deref.ensures ∙ ap arc_value c.index-shards-place.is in
    let is = slice_of_map arc_value shards place item c.in-Some.ensures.within ∙ ap (λ (x : Shard). Some x) (sym same) in
    let lt = ltb-true place (length linked) (sym c.in-Some-get.ensures.lookup.0) in
    let its = slice_of_map arc_value linked place _ lt ∙ ap (λ (x : Linked). Some x) (ap arc_value (sym c.in-Some-get.ensures.lookup.1) ∙ sym c.deref-in-Some-get.ensures) in
    let on = ap (λ (x : Shard). is_some (root_in unit x)) same ∙ (position-Some (λ x. is_some (root_in unit (arc_value x))) shards place item (sym c.run_of.ensures.value ∙ c.in-Some.is)).1 in
    let r = found_at c.args.image.now c.add_in_run.ensures.of_file p ks file links (map arc_value shards) (map arc_value linked) h own w wc unit number place s l is its on in
    rw r.1 (c.add_in_run.ensures.ranges read w r.0)

pub returns-in-None : goal.returns-in-None
returns-in-None c read p ks file links h own w wc number =
    let shards = c.args.shards.now in
    let linked = c.args.linked.now in
    let short = ltb-false c.in-Some.place (length linked) (sym c.in-None.ensures.lookup.0) in
    let all = zip_length (StandsFor p.sections) (map arc_value shards) h.runs h.stand in
    let each = zip_length (IsLinkedRun p) (map arc_value linked) h.runs own in
    absurd (omega (arith, short, all, each, length-map shards arc_value, length-map linked arc_value, c.in-Some.ensures.within))
