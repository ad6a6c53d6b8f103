use Rattle.string_ends.proofs.TailLaws.{hashed_more}
use Rattle.string_ends.proofs.hashed.hashes_of.Goals as goal
use Rattle.string_ends.proofs.hashed.hashes_of.Goals.{then-number-offsets+then-offsets-number, else-number-offsets}

pub loop-passed-preserved : goal.loop-passed-preserved
loop-passed-preserved c = elim c.if-number-offsets.branch [
  | then-number-offsets+then-offsets-number w ↦
      let offsets = c.args.offsets.now in
      let n = c.index.result.now.number in
      let inv = c.loop-passed.invariant in
      record {
        tail = rw w.tail-is w.back_to-tail.ensures.tail;
        hashes = rw w.hashes-is (hashed_more c.args.formula c.args.strings.now offsets c.loop-passed.hashes.items n w.hashed.result w.if-number-offsets.true inv.hashes (rw w.back_to-tail.ensures.place at w.hashed.ensures));
      }
  | else-number-offsets w ↦ rw (w.tail-is, w.hashes-is) c.loop-passed.invariant
]
