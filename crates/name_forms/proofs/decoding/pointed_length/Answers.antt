use Rattle.std.proofs.Common.{◌≡◌, ◌≤◌, ◌<◌, ◌^◌, ℕ, List, length, inl, ap, arith, Bor}
use Rattle.std.proofs.lemmas.Iterator.Consumers.{count_from_yields_List, YieldsList-from_first}
use Rattle.index_model.specs.AdaNames.{pieces}
use Rattle.name_forms.proofs.LengthLaws.{adds_up}
use Rattle.name_forms.proofs.decoding.pointed_length.Goals as goal

pub count-requires-clause-fits : goal.count-requires-clause-fits
count-requires-clause-fits c =
    let sum = adds_up c.args.short.now in
    let small : length c.of.result < 2 ^ 64 = omega (arith, sum.adds, ap length c.of.ensures) in
    inl (omega (arith, small))

pub overflow_sub-result : goal.overflow_sub-result
overflow_sub-result c =
    let sum = adds_up c.args.short.now in
    let most : c.count.result ≤ length c.of.result = c.count.ensures.bound in
    omega (arith, sum.adds, most, ap length c.of.ensures)

pub returns : goal.returns
returns c =
    let short = c.args.short.now in
    let sum = adds_up short in
    let view : Bor (List ℕ) → List ℕ = λ p. p.now in
    let left : List (List ℕ) → List (List ℕ) = λ rest. rest in
    let n : c.count.result ≡ length (pieces short) = count_from_yields_List c.of.result c.count.result c.count.ensures.ran (YieldsList-from_first view left (pieces short) c.of.ensures) in
    omega (arith, n, sum.adds)
