use Rattle.std.proofs.Common.{◌≡◌, List, ap, ◌∙◌}
use Rattle.std.specs.Prelude.{All}
use Rattle.index_model.specs.declared.entry.Entry.{Entry}
use Rattle.index_model.specs.Answers.{places, is_named, is_simply_named}
use Rattle.query_engine.specs.declared.way.Way.{Way}
use Rattle.query_engine.specs.declared.way.Way.TheVariants.{BySimple}
use Rattle.query_engine.specs.Asked.{is_asked}
use Rattle.query_engine.specs.Counts.{text_count, name_count, simple_count, without_linkage}
use Rattle.query_engine.specs.Simple.{IsWhole}
use Rattle.query_engine.specs.Sorted.{AreNamesBy}
use Rattle.query_engine.proofs.CountLaws.{all_counted}
use Rattle.query_engine.proofs.SimpleLaws.{simply_named, simple_count_is}
use Rattle.query_engine.proofs.table.Table.by_simple.Goals as goal

pub returns-in-Shared-clause-places : goal.returns-in-Shared-clause-places
returns-in-Shared-clause-places g c =
    let es = c.self.inside.entries.items in
    let name = c.args.name.now in
    let whole : All IsWhole es = rw c.in-Shared.is at c.self.invariant.own_simple in
    let way = ap (λ (w : Way). places (is_asked w name) c.deref.result.now) c.self.invariant.by_name in
    c.places_of.ensures.places ∙ way ∙ ap (places (is_named name)) c.deref.ensures.value ∙ simply_named name es whole ∙ ap (places (is_simply_named name)) c.self.view_is

pub returns-in-Shared-clause-steps : goal.returns-in-Shared-clause-steps
returns-in-Shared-clause-steps g c =
    let es = c.self.inside.entries.items in
    let whole : All IsWhole es = rw c.in-Shared.is at c.self.invariant.own_simple in
    let own : text_count c.self.inside.by_name.way c.deref.result.now ≡ simple_count (without_linkage c.args.self.now) =
    ap (λ (w : Way). text_count w c.deref.result.now) c.self.invariant.by_name ∙ all_counted c.deref.result.now ∙ ap name_count c.deref.ensures.value ∙ simple_count_is es whole
    ∙ ap (λ (w : List Entry). simple_count (without_linkage w)) c.self.view_is in
    rw (← own) c.places_of.ensures.steps

pub returns-in-Own-clause-steps : goal.returns-in-Own-clause-steps
returns-in-Own-clause-steps g c =
    let n = c.in-Own.names in
    let names : AreNamesBy BySimple c.self.inside.entries.items n = rw c.in-Own.is at c.self.invariant.own_simple in
    let own : text_count n.way c.deref-in-Own.result.now ≡ simple_count (without_linkage c.args.self.now) =
    ap (λ (w : Way). text_count w c.deref-in-Own.result.now) names.way_is ∙ ap (text_count BySimple) (c.deref-in-Own.ensures.value ∙ c.self.view_is) in
    rw (← own) c.places_of-in-Own.ensures.steps
