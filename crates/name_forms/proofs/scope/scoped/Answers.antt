use Rattle.std.proofs.Common.{◌≡◌, ◌∙◌, List, [], ◌∷◌, ◌++◌, ℕ, reverse, sym, ap, append-nil}
use Rattle.std.specs.Prelude.{Option, codes}
use Rattle.std.specs.Borrow.{Bor}
use Rattle.std.specs.Iterator.Adapters.{rev_source}
use Rattle.std.specs.Slice.Iter.{iter_rest}
use Rattle.std.proofs.lemmas.List.{append_assoc}
use Rattle.name_forms.specs.Scoped.{parts}
use Rattle.name_forms.proofs.ScopeLaws.{prefix, joined_is, outermost_some, outermost_none, empty}
use Rattle.name_forms.proofs.scope.scoped.Goals as goal

pub loop-member-preserved-in-Continue-branch-3 : goal.loop-member-preserved-in-Continue-branch-3
loop-member-preserved-in-Continue-branch-3 c =
    let before = c.loop-member.text.items in
    let old = iter_rest (rev_source c.loop-member.member-iterator) in
    let left = iter_rest (rev_source c.next.new.self) in
    let part = c.in-Some-member.component in
    let behind = prefix (reverse (parts left)) in
    let step : old ≡ left ++ c.in-Some.member.now ∷ [] = c.in-Some.ensures.steps in
    let outermost = outermost_some old left part (step ∙ ap (λ (m : Option (Bor (List ℕ))). left ++ m ∷ []) c.in-Some-member.is) in
    let first : c.extend_from_slice.new.self.items ≡ before ++ part.now = c.in_ok-extend_from_slice.ensures.items in
    let second : c.extend_from_slice-in-Some-member.new.self.items ≡ c.extend_from_slice.new.self.items ++ codes "::" = c.in_ok-extend_from_slice-2.ensures.items in
    ap (λ (t : List ℕ). t ++ behind) (second ∙ ap (λ (t : List ℕ). t ++ codes "::") first ∙ append_assoc before part.now (codes "::"))
    ∙ append_assoc before (part.now ++ codes "::") behind
    ∙ ap (λ (t : List ℕ). before ++ t) (sym outermost)
    ∙ c.loop-member.invariant

pub loop-member-preserved : goal.loop-member-preserved
loop-member-preserved c =
    let before = c.loop-member.text.items in
    let old = iter_rest (rev_source c.loop-member.member-iterator) in
    let left = iter_rest (rev_source c.next.new.self) in
    let step : old ≡ left ++ c.in-Some.member.now ∷ [] = c.in-Some.ensures.steps in
    let outermost = outermost_none old left (step ∙ ap (λ (m : Option (Bor (List ℕ))). left ++ m ∷ []) c.in_default.is) in
    ap (λ (t : List ℕ). before ++ t) (sym outermost) ∙ c.loop-member.invariant

pub returns : goal.returns
returns c =
    let before = c.loop-member.text.items in
    let old = iter_rest (rev_source c.loop-member.member-iterator) in
    let name = c.args.name.now in
    let none : old ≡ [] = empty old c.in-None.ensures.steps.0 in
    let all : before ≡ prefix (reverse (parts c.args.path.now)) = sym (append-nil before) ∙ ap (λ (p : List (Option (Bor (List ℕ)))). before ++ prefix (reverse (parts p))) (sym none) ∙ c.loop-member.invariant in
    let last : c.extend_from_slice-2.new.self.items ≡ before ++ name = c.in_ok-extend_from_slice-3.ensures.items in
    last ∙ ap (λ (t : List ℕ). t ++ name) all ∙ sym (joined_is (reverse (parts c.args.path.now)) name)
