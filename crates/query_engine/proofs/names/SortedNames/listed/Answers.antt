use Rattle.std.proofs.Common.{◌<◌, ℕ, List, ◌∷◌, [], ◌++◌, length, ap, ◌∙◌, subst, arith}
use Rattle.index_model.specs.Answers.{places}
use Rattle.query_engine.specs.Asked.{is_asked}
use Rattle.query_engine.specs.Listed.{names_of, AddsName}
use Rattle.query_engine.specs.Sorted.{name_at}
use Rattle.query_engine.proofs.ListingLaws.{names_added, entries_added, entries_none}
use Rattle.query_engine.proofs.OrderLaws.{texts_more, all_by_text}
use Rattle.query_engine.proofs.names.SortedNames.listed.Goals as goal

pub loop-index-init : goal.loop-index-init
loop-index-init c = record {
  names = ap names_of c.in_ok-listed.ensures.names;
  own = entries_none (is_asked c.args.self.now.way) c.args.entries.now c.in_ok-listed.listed c.in_ok-listed.ensures;
}

pub loop-index-preserved : goal.loop-index-preserved
loop-index-preserved c =
    let es = c.args.entries.now in
    let n = c.args.self.now in
    let k : ℕ = c.loop-index.index in
    let t : List ℕ = name_at es n k in
    let lt : k < length n.groups.items = omega (arith, c.loop-index-test.true, c.len-index-end.ensures) in
    let old = c.loop-index.listed in
    let new = c.push.new.self in
    let named : AddsName t c.places_at.result.now old new = subst (λ (w : List ℕ). AddsName w c.places_at.result.now old new) c.text_at.ensures c.in_ok-push.ensures in
    let adds : AddsName t (places (is_asked n.way t) es) old new = subst (λ (w : List ℕ). AddsName t w old new) c.places_at.ensures named in
    record {
      names = names_added t (places (is_asked n.way t) es) old new adds ∙ ap (λ (w : List (List ℕ)). w ++ t ∷ []) c.loop-index.invariant.names ∙ texts_more es n c.requires.names k lt;
      own = entries_added (is_asked n.way) es t old new c.loop-index.invariant.own adds;
    }

pub returns : goal.returns
returns c = all_by_text c.args.entries.now c.args.self.now c.requires.names c.loop-index.listed c.loop-index.index (omega (arith, c.loop-index-test.false, c.len-index-end.ensures)) c.loop-index.invariant.names c.loop-index.invariant.own
