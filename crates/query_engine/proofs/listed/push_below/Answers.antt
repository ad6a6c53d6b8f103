use Rattle.std.proofs.Common.{ℕ, ◌<◌, ◌++◌, List, length, get_or, refl, sym, ap, ◌∙◌, arith}
use Rattle.std.proofs.lemmas.List.{drop_all}
use Rattle.query_engine.proofs.BelowLaws.{takes, drops, takes_none, drops_none, takes_all, drops_all, put_more, put_last}
use Rattle.query_engine.proofs.listed.push_below.Goals as goal

pub returns-then-plain-index-clause-below : goal.returns-then-plain-index-clause-below
returns-then-plain-index-clause-below c =
    let i : ℕ = c.loop-index.index in
    let plain : List ℕ = c.args.plain.now in
    put_last _ c.loop-index.places.items _ (takes_none c.args.end plain i (get_or plain i 0) (omega (arith, c.loop-index-test.true)) refl c.if-plain-index.true) c.loop-index.invariant.below

pub returns-then-plain-index-clause-behind : goal.returns-then-plain-index-clause-behind
returns-then-plain-index-clause-behind c =
    let i : ℕ = c.loop-index.index in
    let plain : List ℕ = c.args.plain.now in
    sym (drops_none c.args.end plain i (get_or plain i 0) (omega (arith, c.loop-index-test.true)) refl c.if-plain-index.true) ∙ c.loop-index.invariant.behind

pub loop-index-preserved : goal.loop-index-preserved
loop-index-preserved c =
    let i : ℕ = c.loop-index.index in
    let plain : List ℕ = c.args.plain.now in
    let p : ℕ = get_or plain i 0 in
    let within : i < length plain = omega (arith, c.loop-index-test.true) in
    let lt : p < c.args.end = omega (arith, c.if-plain-index.false) in
    record {
      within = omega (arith, within);
      below = put_more _ c.loop-index.places.items c.push.new.self.items _ p c.in_ok-push.ensures.items (ap (λ (w : List ℕ). c.loop-index.places.items ++ w) (sym (takes c.args.end plain i p within refl lt)) ∙ c.loop-index.invariant.below);
      behind = sym (drops c.args.end plain i p within refl lt) ∙ c.loop-index.invariant.behind;
    }

pub returns-clause-below : goal.returns-clause-below
returns-clause-below c = put_last _ c.loop-index.places.items _ (takes_all c.args.end c.args.plain.now c.loop-index.index (omega (arith, c.loop-index-test.false))) c.loop-index.invariant.below

pub returns-clause-behind : goal.returns-clause-behind
returns-clause-behind c =
    let plain : List ℕ = c.args.plain.now in
    drop_all (length plain) plain (omega arith) ∙ sym (drops_all c.args.end plain c.loop-index.index (omega (arith, c.loop-index-test.false))) ∙ c.loop-index.invariant.behind
