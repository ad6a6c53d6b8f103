use Rattle.std.proofs.Common.{◌≡◌, ◌<◌, ℕ, List, [], length, inl, inr, sym, ◌∙◌, subst, arith}
use Rattle.std.specs.Prelude.{All}
use Rattle.index_model.specs.Answers.{places}
use Rattle.query_engine.specs.declared.way.Way.{Way}
use Rattle.query_engine.specs.declared.way.Way.TheVariants.{ByName, BySimple}
use Rattle.query_engine.specs.Asked.{is_asked}
use Rattle.query_engine.specs.Listed.{linkage_of, merged, AddsName}
use Rattle.query_engine.specs.Pairs.{ComesBefore}
use Rattle.query_engine.specs.Sorted.{name_at}
use Rattle.query_engine.proofs.ListedLaws.{name_with, name_alone}
use Rattle.query_engine.proofs.MergedLaws.{marks_are}
use Rattle.query_engine.proofs.PlacedEntries.{places_within}
use Rattle.query_engine.proofs.TextOrder.{before_or_same}
use Rattle.query_engine.proofs.listed.BothOrders.push_name.Goals as goal

pub push_both-requires : goal.push_both-requires
push_both-requires c = λ k d lt.
    let both = c.args.self.now in
    let within = subst (All (λ (p : ℕ). p < length both.entries.now)) (sym c.places_at-named.ensures) (places_within (is_asked both.names.now.way (name_at both.entries.now both.names.now c.args.index)) both.entries.now) in
    omega (arith, within k d lt, both.marked.size)

pub push_both-requires-else-has_simple : goal.push_both-requires-else-has_simple
push_both-requires-else-has_simple c = λ k d lt.
    let both = c.args.self.now in
    let within = subst (All (λ (p : ℕ). p < length both.entries.now)) (sym c.places_at-named.ensures) (places_within (is_asked both.names.now.way (name_at both.entries.now both.names.now c.args.index)) both.entries.now) in
    omega (arith, within k d lt, both.marked.size)

pub returns-in_ok-push_both-clause-listed : goal.returns-in_ok-push_both-clause-listed
returns-in_ok-push_both-clause-listed c = λ before.
    let both = c.args.self.now in
    let es = both.entries.now in
    let t : List ℕ = name_at es both.names.now c.args.index in
    let text : c.new-text.result.bytes.now ≡ t = c.new-text.ensures ∙ c.text_at-name.ensures in
    let passed = c.in_ok-passed.ensures.listed c.args.index (c.requires.index, text) before in
    let has = c.if-has_simple.ensures in
    let same : name_at es both.simple.now c.in_ok-passed.passed ≡ t = has.same ∙ text in
    let named : c.places_at-named.result.now ≡ places (is_asked ByName t) es = subst (λ (w : Way). c.places_at-named.result.now ≡ places (is_asked w t) es) both.named.way_is c.places_at-named.ensures in
    let plain : c.places_at-plain.result.now ≡ places (is_asked BySimple t) es =
    subst (λ (w : Way). c.places_at-plain.result.now ≡ places (is_asked w t) es) both.simply_named.way_is (subst (λ (v : List ℕ). c.places_at-plain.result.now ≡ places (is_asked both.simple.now.way v) es) same c.places_at-plain.ensures) in
    let marks : both.linkage.now ≡ linkage_of es = marks_are es both.linkage.now both.marked in
    let old = c.push_simple_below.new.listed in
    let new = c.push_both.new.listed in
    let pushed : AddsName t (merged both.linkage.now c.places_at-named.result.now c.places_at-plain.result.now) old new =
    subst (λ (w : List ℕ). AddsName w (merged both.linkage.now c.places_at-named.result.now c.places_at-plain.result.now) old new) c.text_at-name.ensures c.in_ok-push_both.ensures in
    let adds : AddsName t (merged (linkage_of es) (places (is_asked ByName t) es) (places (is_asked BySimple t) es)) old new =
    subst (λ (w : List ℕ). AddsName t w old new) (λ i. merged (marks i) (named i) (plain i)) pushed in
    name_with es both.names.now both.simple.now both.named both.simply_named c.args.index c.in_ok-passed.passed old new passed.0 c.requires.index has.within same adds

pub returns-in_ok-push_both-2-clause-listed : goal.returns-in_ok-push_both-2-clause-listed
returns-in_ok-push_both-2-clause-listed c = λ before.
    let both = c.args.self.now in
    let es = both.entries.now in
    let t : List ℕ = name_at es both.names.now c.args.index in
    let j : ℕ = c.in_ok-passed.passed in
    let next : List ℕ = name_at es both.simple.now j in
    let text : c.new-text.result.bytes.now ≡ t = c.new-text.ensures ∙ c.text_at-name.ensures in
    let passed = c.in_ok-passed.ensures.listed c.args.index (c.requires.index, text) before in
    let named : c.places_at-named.result.now ≡ places (is_asked ByName t) es = subst (λ (w : Way). c.places_at-named.result.now ≡ places (is_asked w t) es) both.named.way_is c.places_at-named.ensures in
    let marks : both.linkage.now ≡ linkage_of es = marks_are es both.linkage.now both.marked in
    let old = c.push_simple_below.new.listed in
    let new = c.push_both-else-has_simple.new.listed in
    let pushed : AddsName t (merged both.linkage.now c.places_at-named.result.now []) old new =
    subst (λ (w : List ℕ). AddsName w (merged both.linkage.now c.places_at-named.result.now []) old new) c.text_at-name.ensures c.in_ok-push_both-2.ensures in
    let adds : AddsName t (merged (linkage_of es) (places (is_asked ByName t) es) []) old new =
    subst (λ (w : List ℕ). AddsName t w old new) (λ i. merged (marks i) (named i) []) pushed in
    name_alone es both.names.now both.simple.now both.named both.simply_named c.args.index j old new passed.0 c.requires.index
    (λ lt. elim (before_or_same t next (λ earlier. passed.1 lt (subst (ComesBefore next) (sym text) earlier))) [
      | inl before_next ↦ before_next
      | inr same ↦ absurd (c.if-has_simple.ensures (record { within = lt; same = sym same ∙ sym text }))
    ])
    adds
