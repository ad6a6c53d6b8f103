use Rattle.std.proofs.Common.{◌≡◌, ℕ, List, length, refl, ap, ◌∙◌, add-one, arith, length-append}
use Rattle.query_engine.specs.Front.{IsFrontOf}
use Rattle.query_engine.specs.Marks.{text_with}
use Rattle.query_engine.specs.Seen.{texts_seen}
use Rattle.query_engine.proofs.GroupLaws.{groups_more}
use Rattle.query_engine.proofs.SeenLaws.{text_seen}
use Rattle.query_engine.proofs.groups.groups_of.Goals as goal

pub loop-k-preserved : goal.loop-k-preserved
loop-k-preserved c =
    let ts : List (List ℕ) = texts_seen c.args.texts.now in
    let ends = c.args.ends.now in
    let k = c.loop-k.k in
    let inv = c.loop-k.invariant in
    let x = c.index-texts-k.result in
    let own : text_with ts k ≡ x.bytes.now = text_seen c.args.texts.now k x c.loop-k-test.true c.index-texts-k.is in
    let front : IsFrontOf x.front (text_with ts k) = rw own x.front_is in
    record {
      size = ap length c.in_ok-push.ensures.items ∙ length-append c.loop-k.groups.items _ ∙ omega (arith, inv.size);
      start = rw add-one refl;
      each = rw c.in_ok-push.ensures.items (groups_more ts ends c.loop-k.groups.items k _ inv.size front inv.start refl inv.each);
    }
