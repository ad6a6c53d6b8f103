use Rattle.std.proofs.Common.{◌<◌, ◌-◌, length, arith}
use Rattle.string_ends.proofs.TailLaws.{empty_there, no_bytes}
use Rattle.string_ends.proofs.tail.Tail.last.Goals as goal

pub returns : goal.returns
returns c =
    let strings = c.args.strings.now in
    let at = c.last_end-end.result - 1 in
    let some : 0 < c.last_end-end.result = omega (arith, c.if-end-eq0.false) in
    let within : at < length strings = omega (arith, c.last_end-end.ensures.within, some) in
    no_bytes c.args.formula strings at c.empty.result c.empty.ensures (empty_there strings at within (c.last_end-end.ensures.zero some))
