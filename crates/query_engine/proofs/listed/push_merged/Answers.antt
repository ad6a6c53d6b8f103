use Rattle.std.proofs.Common.{ℕ, ◌+◌, ◌-◌, ◌<◌, ◌++◌, List, ◌∷◌, length, drop, get_or, refl, sym, ap, ◌∙◌, arith, append_assoc}
use Rattle.std.proofs.lemmas.List.{take_all, length-drop}
use Rattle.query_engine.specs.Listed.{merged, take_below, drop_below}
use Rattle.query_engine.proofs.BelowLaws.{takes_marked, skips_other, none_left, put_more}
use Rattle.query_engine.proofs.listed.push_merged.Goals as goal
use Rattle.query_engine.proofs.listed.push_merged.Goals.{then-marked-place+in_ok-passed+in_ok-push, else-marked-place}

pub loop-place-preserved : goal.loop-place-preserved
loop-place-preserved c =
    let i : ℕ = c.loop-place.place-index in
    let named : List ℕ = c.args.named.now in
    let p : ℕ = get_or named i 0 in
    let plain : List ℕ = c.args.plain.now in
    let left : List ℕ = drop c.loop-place.passed plain in
    let within : i < length named = c.loop-place-test.true in
    elim c.if-marked-place.branch [
      | then-marked-place+in_ok-passed+in_ok-push w ↦ rw (w.places-is, w.passed-is) (record {
        within = w.in_ok-passed.ensures.within;
        goes_on =
            let rest : List ℕ = merged c.args.marked.now (drop (i + 1) named) (drop_below p left) in
            put_more _ w.push_below.new.places.items w.push.new.self.items (merged c.args.marked.now (drop (i + 1) named) (drop w.in_ok-passed.passed plain)) p w.in_ok-push.ensures.items
            (ap (λ (v : List ℕ). v ++ p ∷ merged c.args.marked.now (drop (i + 1) named) (drop w.in_ok-passed.passed plain)) w.in_ok-passed.ensures.below
            ∙ ap (λ (v : List ℕ). (c.loop-place.places.items ++ take_below p left) ++ p ∷ merged c.args.marked.now (drop (i + 1) named) v) w.in_ok-passed.ensures.behind
            ∙ append_assoc c.loop-place.places.items (take_below p left) (p ∷ rest)
            ∙ ap (λ (v : List ℕ). c.loop-place.places.items ++ v) (sym (takes_marked c.args.marked.now named i p within refl left w.if-marked-place.true))
            ∙ c.loop-place.invariant.goes_on);
      })
      | else-marked-place w ↦ rw (w.places-is, w.passed-is) (record {
        within = c.loop-place.invariant.within;
        goes_on = ap (λ (v : List ℕ). c.loop-place.places.items ++ v) (sym (skips_other c.args.marked.now named i p within refl left w.if-marked-place.false)) ∙ c.loop-place.invariant.goes_on;
      })
    ]

pub returns : goal.returns
returns c =
    let left : List ℕ = drop c.loop-place.passed c.args.plain.now in
    c.in_ok-extend_from_slice.ensures.items
    ∙ ap (λ (v : List ℕ). c.loop-place.places.items ++ v) (take_all (length c.args.plain.now - c.loop-place.passed) left (omega (arith, length-drop c.loop-place.passed c.args.plain.now)))
    ∙ ap (λ (v : List ℕ). c.loop-place.places.items ++ v) (sym (none_left c.args.marked.now c.args.named.now c.loop-place.place-index left c.loop-place-test.false))
    ∙ c.loop-place.invariant.goes_on
