use Rattle.std.proofs.Common.{◌∙◌, sym, arith}
use Rattle.file_image.proofs.CompressedLaws.{compressed_here, compressed_later, none_left}
use Rattle.file_image.proofs.compressed.check_compressed.Goals as goal

pub returns-then-is_compressed : goal.returns-then-is_compressed
returns-then-is_compressed c = sym c.loop-index.invariant ∙ compressed_here c.args.found.now c.loop-index.index _ (omega (arith, c.loop-index-test.true)) (sym c.is_compressed.ensures ∙ c.if-is_compressed.true)

pub loop-index-preserved : goal.loop-index-preserved
loop-index-preserved c = sym (compressed_later c.args.found.now c.loop-index.index _ (omega (arith, c.loop-index-test.true)) (sym c.is_compressed.ensures ∙ c.if-is_compressed.false)) ∙ c.loop-index.invariant

pub returns : goal.returns
returns c = sym c.loop-index.invariant ∙ none_left c.args.found.now c.loop-index.index (omega (arith, c.loop-index-test.false))
