use Rattle.std.proofs.Common.{List, ◌++◌, sym, ◌∙◌, arith, ap, Vec, ℕ, Global}
use Rattle.std.proofs.lemmas.List.{take_all}
use Rattle.command_words.specs.Words.{query_text}
use Rattle.command_words.specs.SeenWords.{words_of}
use Rattle.index_cmd.proofs.Joined.{none_before, first_word, next_word, behind_a_space, at_front}
use Rattle.index_cmd.proofs.line.query_line.Goals as goal
use Rattle.index_cmd.proofs.line.query_line.Goals.{then-i-gt0+in_ok-push, else-i-gt0}

pub loop-i-preserved : goal.loop-i-preserved
loop-i-preserved c =
    let items : Vec ℕ Global → List ℕ = λ v. v.items in
    let word = c.index-words-i.result in
    elim c.if-i-gt0.branch [
      | then-i-gt0+in_ok-push w ↦
          behind_a_space _ _ _ _ _ (c.in_ok-extend_from_slice.ensures.items ∙ ap (λ (t : List ℕ). c.if-i-gt0.text.items ++ t) c.as_bytes.ensures.value) (ap items w.text-is ∙ w.in_ok-push.ensures.items) c.loop-i.invariant ∙ sym (next_word c.args.words.now c.loop-i.i word c.loop-i-test.true c.index-words-i.is w.if-i-gt0.true)
      | else-i-gt0 w ↦
          at_front _ _ _ _ (c.in_ok-extend_from_slice.ensures.items ∙ ap (λ (t : List ℕ). c.if-i-gt0.text.items ++ t) c.as_bytes.ensures.value) (ap items w.text-is ∙ c.loop-i.invariant) (none_before c.args.words.now c.loop-i.i word c.loop-i-test.true c.index-words-i.is (omega arith)) ∙ sym (first_word c.args.words.now c.loop-i.i word c.loop-i-test.true c.index-words-i.is (omega arith))
    ]

pub returns : goal.returns
returns c = c.loop-i.invariant ∙ ap (λ ws. query_text (words_of ws)) (take_all c.loop-i.i c.args.words.now c.loop-i-test.false)
