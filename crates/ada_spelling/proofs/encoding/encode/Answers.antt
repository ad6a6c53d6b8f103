use Rattle.std.proofs.Common.{◌+◌, refl, sym, ◌∙◌, arith}
use Rattle.std.proofs.lemmas.List.{take_rest}
use Rattle.ada_spelling.proofs.EncodingLaws.{encoded_suffix, encoded_more}
use Rattle.ada_spelling.proofs.encoding.encode.Goals as goal

pub returns-then-opens_suffix : goal.returns-then-opens_suffix
returns-then-opens_suffix c =
    let name = c.args.name.now in
    let opened = rw (take_rest name (c.loop-at.at + 1)) at (sym c.opens_suffix.ensures ∙ c.if-opens_suffix.true) in
    let pushed = rw (take_rest name (c.loop-at.at + 1)) at c.in_ok-push_suffix.ensures in
    pushed ∙ encoded_suffix name c.loop-at.text.items c.loop-at.at _ (omega arith) refl opened ∙ c.loop-at.invariant

pub loop-at-preserved : goal.loop-at-preserved
loop-at-preserved c =
    let name = c.args.name.now in
    let other = rw (take_rest name (c.loop-at.at + 1)) at (sym c.opens_suffix.ensures ∙ c.if-opens_suffix.false) in
    rw c.in_ok-push_encoded.ensures (encoded_more name c.loop-at.text.items c.loop-at.at _ (omega arith) refl other ∙ c.loop-at.invariant)
