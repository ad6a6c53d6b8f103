use Rattle.std.proofs.Common.{◌≡◌, List, [], ◌∷◌, ◌++◌, ◌+◌, drop, sym, ap, subst, ◌∙◌, append-nil, Vec, Global}
use Rattle.gdb_units.specs.declared.partial_roots.PartialRoot.{PartialRoot}
use Rattle.gdb_units.specs.Imported.{partial_root, partial_roots}
use Rattle.gdb_units.proofs.FoundLaws.{found_from, found_one, found_no, found_none}
use Rattle.gdb_units.proofs.partial_roots.partial_roots.Goals as goal
use Rattle.gdb_units.proofs.partial_roots.partial_roots.Goals.{in-Some+in_ok-push, in_default}

pub loop-number-preserved : goal.loop-number-preserved
loop-number-preserved c =
    let us = c.args.units.now in
    let n = c.loop-number.number in
    let all = partial_roots us in
    let rest = found_from partial_root (n + 1) (drop (n + 1) us) in
    let was = c.loop-number.found.items in
    elim c.match-partial_root.branch [
      | in-Some+in_ok-push w ↦
          let made : (was ++ w.in-Some.root ∷ []) ++ rest ≡ all = found_one partial_root us n _ was all w.in-Some.root c.loop-number-test.true (sym c.partial_root.ensures ∙ w.in-Some.is) c.loop-number.invariant in
          subst (λ (v : Vec PartialRoot Global). v.items ++ rest ≡ all) (sym w.found-is) (ap (λ (ts : List PartialRoot). ts ++ rest) w.in_ok-push.ensures.items ∙ made)
      | in_default w ↦
          let made : was ++ rest ≡ all = found_no partial_root us n _ was all c.loop-number-test.true (sym c.partial_root.ensures ∙ w.in_default.is) c.loop-number.invariant in
          subst (λ (v : Vec PartialRoot Global). v.items ++ rest ≡ all) (sym w.found-is) made
    ]

pub returns : goal.returns
returns c =
    let none = found_none partial_root c.args.units.now c.loop-number.number c.loop-number-test.false in
    sym (append-nil c.loop-number.found.items) ∙ ap (λ (ts : List PartialRoot). c.loop-number.found.items ++ ts) (sym none) ∙ c.loop-number.invariant
