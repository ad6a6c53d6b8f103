use Rattle.std.proofs.Common.{◌≡◌, ◌+◌, ◌-◌, suc, ◌∷◌, [], length-append, sym, ◌∙◌, arith}
use Rattle.common_laws.proofs.Numbers.{one_left}
use Rattle.line_files.proofs.FormatLaws.{one_format}
use Rattle.line_files.proofs.formats.read_formats.Goals as goal

pub formats-preserved : goal.formats-preserved
formats-preserved c =
    let count = c.in_ok-count.count in
    let k = c.formats.counter in
    let so_far = c.formats.formats.items in
    let left : count - k ≡ suc (count - (k + 1)) = one_left count k c.formats-test.true in
    let step = one_format (count - (k + 1)) so_far c.formats.cursor c.read_format.new.cursor c.in_ok-format.format (rw c.as_slice.ensures.value at c.in_ok-format.ensures) in
    rw c.push.ensures.items (record {
      count = omega (arith, length-append so_far (c.in_ok-format.format ∷ []), c.formats.invariant.count);
      all = sym step ∙ rw left at c.formats.invariant.all;
    })
