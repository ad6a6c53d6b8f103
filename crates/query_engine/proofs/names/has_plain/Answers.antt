use Rattle.std.proofs.Common.{◌≡◌, ◌∙◌, ℕ, ap, sym, refl, get_or, true, false}
use mathlib.Core.Bool.{not}
use Rattle.std.proofs.lemmas.List.Folds.{list_any_at, list_any_more}
use Rattle.index_model.specs.declared.entry.Entry.{Entry}
use Rattle.query_engine.specs.Counts.{is_plain}
use Rattle.query_engine.proofs.PlainLaws.{is_plain_at}
use Rattle.query_engine.proofs.names.has_plain.Goals as goal

pub returns-then-not-entries-place : goal.returns-then-not-entries-place
returns-then-not-entries-place c =
    let es = c.args.entries.now in
    let i = c.loop-place.place-index in
    let p : ℕ = get_or c.args.places.now i 0 in
    let e = c.index-entries-place.result in
    let plain : is_plain es p ≡ true = is_plain_at es p e (c.requires i 0 c.loop-place-test.true) c.index-entries-place.is ∙ ap not (ap (λ (x : Entry). x.linkage) c.index-entries-place.is ∙ c.if-not-entries-place.true) in
    sym (list_any_at (is_plain es) c.args.places.now i 0 c.loop-place-test.true plain)

pub loop-place-preserved : goal.loop-place-preserved
loop-place-preserved c =
    let es = c.args.entries.now in
    let i = c.loop-place.place-index in
    let p : ℕ = get_or c.args.places.now i 0 in
    let e = c.index-entries-place.result in
    let plain : is_plain es p ≡ false = is_plain_at es p e (c.requires i 0 c.loop-place-test.true) c.index-entries-place.is ∙ ap not (ap (λ (x : Entry). x.linkage) c.index-entries-place.is ∙ c.if-not-entries-place.false) in
    rw (list_any_more (is_plain es) c.args.places.now i 0 c.loop-place-test.true, c.loop-place.invariant, plain) refl
