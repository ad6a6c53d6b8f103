use Rattle.std.proofs.Common.{[], ◌∷◌, ◌++◌, sym, ap, ◌∙◌}
use Rattle.query_engine.specs.declared.marks.NumberedPlace.{NumberedPlace}
use Rattle.std.proofs.Common.{List}
use Rattle.query_engine.specs.Marked.{renumbered}
use Rattle.query_engine.proofs.CountingLaws.{no_mark}
use Rattle.query_engine.proofs.SpelledLaws.{kept_one, kept_none}
use Rattle.query_engine.proofs.spelled.marks_by.Goals as goal
use Rattle.query_engine.proofs.spelled.marks_by.Goals.{in-Some+in_ok-push, in_default}

pub loop-mark-preserved : goal.loop-mark-preserved
loop-mark-preserved c =
    let f = renumbered c.args.numbers.now in
    let ms = c.args.marks.now in
    let i = c.loop-mark.mark-index in
    elim c.match-renumbered.branch [
      | in-Some+in_ok-push w ↦
          rw (w.kept-is, w.in_ok-push.ensures.items) (ap (λ (ys : List NumberedPlace). ys ++ w.in-Some.renumbered ∷ []) c.loop-mark.invariant ∙ sym (kept_one f ms i no_mark w.in-Some.renumbered c.loop-mark-test.true (sym c.renumbered.ensures ∙ w.in-Some.is)))
      | in_default w ↦ rw w.kept-is (c.loop-mark.invariant ∙ sym (kept_none f ms i no_mark c.loop-mark-test.true (sym c.renumbered.ensures ∙ w.in_default.is)))
    ]
