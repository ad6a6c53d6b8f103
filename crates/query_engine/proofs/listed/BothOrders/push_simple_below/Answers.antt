use Rattle.std.proofs.Common.{◌≡◌, ◌<◌, ℕ, List, length, subst, arith}
use Rattle.index_model.specs.Answers.{places}
use Rattle.query_engine.specs.declared.way.Way.{Way}
use Rattle.query_engine.specs.declared.way.Way.TheVariants.{BySimple}
use Rattle.query_engine.specs.Asked.{is_asked}
use Rattle.query_engine.specs.Listed.{AddsName, AreListedTo}
use Rattle.query_engine.specs.Sorted.{name_at}
use Rattle.query_engine.proofs.ListedLaws.{simple_more, before_name}
use Rattle.query_engine.proofs.listed.BothOrders.push_simple_below.Goals as goal

pub loop-index-preserved : goal.loop-index-preserved
loop-index-preserved c =
    let both = c.args.self.now in
    let es = both.entries.now in
    let i : ℕ = c.loop-index.index in
    let t : List ℕ = name_at es both.simple.now i in
    let within : i < length both.simple.now.groups.items = omega (arith, c.loop-index-test.true, c.len-index-end.ensures) in
    let own : c.places_at.result.now ≡ places (is_asked BySimple t) es = subst (λ (w : Way). c.places_at.result.now ≡ places (is_asked w t) es) both.simply_named.way_is c.places_at.ensures in
    let old = c.loop-index.listed in
    let new = c.push.new.self in
    let named : AddsName t c.places_at.result.now old new = subst (λ (w : List ℕ). AddsName w c.places_at.result.now old new) c.text_at.ensures c.in_ok-push.ensures in
    let adds : AddsName t (places (is_asked BySimple t) es) old new = subst (λ (w : List ℕ). AddsName t w old new) own named in
    record {
      within = omega (arith, within);
      listed = λ k ends before. simple_more es both.names.now both.simple.now both.named both.simply_named k i old new
          (c.loop-index.invariant.listed k ends before) within (before_name es both.names.now k c.args.end t ends c.if-is_behind.ensures) adds;
    }

pub returns-then-is_behind-clause-listed : goal.returns-then-is_behind-clause-listed
returns-then-is_behind-clause-listed c = λ k ends before. (c.loop-index.invariant.listed k ends before, c.if-is_behind.ensures)

pub returns-clause-listed : goal.returns-clause-listed
returns-clause-listed c = λ k ends before.
    let both = c.args.self.now in
    let last : c.loop-index.index ≡ c.len.result = omega (arith, c.loop-index-test.false, c.loop-index.invariant.within, c.len-index-end.ensures, c.len.ensures) in (
      subst (λ (i : ℕ). AreListedTo both.entries.now both.names.now both.simple.now k i c.loop-index.listed) last (c.loop-index.invariant.listed k ends before),
      λ lt. absurd (omega (arith, lt, c.len.ensures)),
    )
