use Rattle.std.proofs.Common.{◌≡◌, List, [], ◌∷◌, ◌++◌, ◌+◌, drop, sym, ap, subst, ◌∙◌, append-nil, Vec, Global}
use Rattle.std.specs.Prelude.{filter_map}
use Rattle.std.specs.List.{enumerate_from}
use Rattle.parent_resolve.specs.declared.signatures.TypeUnit.{TypeUnit}
use Rattle.parent_resolve.specs.Signed.{as_type_unit, type_units}
use Rattle.parent_resolve.proofs.SignedLaws.{before_next, none_more, found_one, found_none}
use Rattle.parent_resolve.proofs.signatures.type_units.Goals as goal
use Rattle.parent_resolve.proofs.signatures.type_units.Goals.{in-Some+in_ok-push, in_default}

pub loop-number-preserved : goal.loop-number-preserved
loop-number-preserved c =
    let us = c.args.units.now in
    let n = c.loop-number.number in
    let all = type_units us in
    let rest = filter_map as_type_unit (enumerate_from (n + 1) (drop (n + 1) us)) in
    let was = c.loop-number.found.items in
    let before = before_next us n _ was all c.loop-number-test.true c.loop-number.invariant in
    elim c.match-as_type_unit.branch [
      | in-Some+in_ok-push w ↦
          let made : (was ++ w.in-Some.unit ∷ []) ++ rest ≡ all = found_one was w.in-Some.unit rest all _ (sym c.as_type_unit.ensures ∙ w.in-Some.is) before in
          subst (λ (v : Vec TypeUnit Global). v.items ++ rest ≡ all) (sym w.found-is) (ap (λ (ts : List TypeUnit). ts ++ rest) w.in_ok-push.ensures.items ∙ made)
      | in_default w ↦
          let made : was ++ rest ≡ all = found_none was rest all _ (sym c.as_type_unit.ensures ∙ w.in_default.is) before in
          subst (λ (v : Vec TypeUnit Global). v.items ++ rest ≡ all) (sym w.found-is) made
    ]

pub returns : goal.returns
returns c =
    let none = none_more c.args.units.now c.loop-number.number c.loop-number-test.false in
    sym (append-nil c.loop-number.found.items) ∙ ap (λ (ts : List TypeUnit). c.loop-number.found.items ++ ts) (sym none) ∙ c.loop-number.invariant
