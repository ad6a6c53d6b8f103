use Rattle.std.proofs.Common.{◌<◌, ◌∙◌, ℕ, List, ◌++◌, ◌-◌, length, set, drop, length-drop, length-set, ap, refl, arith}
use Rattle.std.proofs.lemmas.List.{take_all}
use Rattle.query_text.proofs.DigitLaws.{onto_none, step, complete, has_more, front_small}
use Rattle.query_text.proofs.waiting.Waiting.push_hex.Goals as goal

pub loop-rest-init : goal.loop-rest-init
loop-rest-init c = record {
  within = omega arith;
  long = refl;
  small = omega (arith, c.ranges.number.fits);
  text = onto_none 16 c.args.number;
}

pub loop-rest-preserved : goal.loop-rest-preserved
loop-rest-preserved c =
    let l = c.loop-rest in
    let lt : l.start < length l.digits = omega (arith, l.invariant.within, l.invariant.long) in
    let some = has_more 16 l.rest l.start c.loop-rest-test.true l.invariant.small in
    record {
      within = omega (arith, l.invariant.within);
      long = length-set l.digits l.start c.digit.result ∙ l.invariant.long;
      small = front_small 16 l.rest l.start (omega arith) some l.invariant.small;
      text = step 16 c.args.number l.digits l.start l.rest c.digit.result lt l.invariant.text some (λ e. omega (arith, e, c.loop-rest-test.true)) c.digit.ensures;
    }

pub returns-clause-text : goal.returns-clause-text
returns-clause-text c =
    let l = c.loop-rest in
    let lt : l.start < length l.digits = omega (arith, l.invariant.within, l.invariant.long) in
    let e = complete 16 c.args.number l.digits l.start l.rest c.digit-2.result lt l.invariant.text (omega (arith, c.loop-rest-test.false)) (omega (arith, c.loop-rest-test.false)) c.digit-2.ensures in
    let bytes : List ℕ = set l.digits l.start c.digit-2.result in
    let short = take_all (20 - l.start) (drop l.start bytes) (omega (arith, length-drop l.start bytes, length-set l.digits l.start c.digit-2.result, l.invariant.long)) in
    c.push.ensures.text ∙ ap (λ (t : List ℕ). c.args.self.now ++ t) (short ∙ e)
