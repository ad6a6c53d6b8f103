use Rattle.std.proofs.Common.{List, [], ℕ, ◌+◌, ◌++◌, drop, get_or, sym, ap, ◌∙◌}
use Rattle.std.proofs.lemmas.List.{drop_all, drop_more}
use Rattle.name_forms.specs.declared.parts.Before.{Before}
use Rattle.name_forms.specs.Coded.{front, is_good}
use Rattle.name_forms.proofs.PartLaws.{goes, stops, ends_elsewhere, ends_inside}
use Rattle.name_forms.proofs.parts.is_good.Goals as goal

pub returns-in_default : goal.returns-in_default
returns-in_default c =
    let name = c.args.name.now in
    let i = c.loop-b.b-index in
    let next = ap (λ (xs : List ℕ). is_good (front c.loop-b.part ++ xs)) (drop_more name i 0 c.loop-b-test.true) in
    sym (sym c.loop-b.invariant ∙ next ∙ stops c.loop-b.part (get_or name i 0) (drop (i + 1) name) c.in_default.ensures)

pub loop-b-preserved : goal.loop-b-preserved
loop-b-preserved c =
    let name = c.args.name.now in
    let i = c.loop-b.b-index in
    let next = ap (λ (xs : List ℕ). is_good (front c.loop-b.part ++ xs)) (drop_more name i 0 c.loop-b-test.true) in
    sym (goes c.loop-b.part c.in-Some.next (get_or name i 0) (drop (i + 1) name) c.in-Some.ensures) ∙ sym next ∙ c.loop-b.invariant

pub returns-in-Inside : goal.returns-in-Inside
returns-in-Inside c =
    let none = ap (λ (xs : List ℕ). is_good (front c.loop-b.part ++ xs)) (drop_all c.loop-b.b-index c.args.name.now c.loop-b-test.false) in
    sym (sym c.loop-b.invariant ∙ none ∙ ap (λ (p : Before). is_good (front p ++ [])) c.in-Inside.is ∙ ends_inside)

pub returns-in_default-matches : goal.returns-in_default-matches
returns-in_default-matches c =
    let none = ap (λ (xs : List ℕ). is_good (front c.loop-b.part ++ xs)) (drop_all c.loop-b.b-index c.args.name.now c.loop-b-test.false) in
    sym (sym c.loop-b.invariant ∙ none ∙ ends_elsewhere c.loop-b.part c.in_default-matches.not-Inside)
