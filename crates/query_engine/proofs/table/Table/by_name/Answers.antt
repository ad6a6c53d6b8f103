use Rattle.std.proofs.Common.{◌≡◌, ◌∙◌, ap}
use Rattle.query_engine.specs.declared.way.Way.{Way}
use Rattle.query_engine.specs.Counts.{text_count, name_count}
use Rattle.query_engine.proofs.CountLaws.{all_counted}
use Rattle.query_engine.proofs.table.Table.by_name.Goals as goal

pub returns-clause-steps : goal.returns-clause-steps
returns-clause-steps g c =
    let es = c.args.self.now in
    let own : text_count c.self.inside.by_name.way c.deref.result.now ≡ name_count es = ap (λ (w : Way). text_count w c.deref.result.now) c.self.invariant.by_name ∙ all_counted c.deref.result.now ∙ ap name_count (c.deref.ensures.value ∙ c.self.view_is) in
    rw (← own) c.places_of.ensures.steps
