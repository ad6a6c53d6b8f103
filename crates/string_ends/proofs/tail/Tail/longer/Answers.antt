use Rattle.std.proofs.Common.{◌≡◌, ℕ, ◌-◌, ◌+◌, ◌<◌, ◌%◌, ◌^◌, ◌*◌, Bool, ◌∷◌, length, get_or, ap, ◌∙◌, arith}
use mathlib.Core.Bool.{◌||◌}
use Rattle.std.specs.Prelude.{nat_le}
use Rattle.string_ends.specs.Formulas.{factor, term, weight}
use Rattle.string_ends.specs.Texts.{text_in}
use Rattle.string_ends.proofs.TailLaws.{begins_within, empty_there, longer_there, no_bytes, sum_more, print_more}
use Rattle.string_ends.proofs.tail.Tail.longer.Goals as goal

pub returns-then-byte-eq0-clause-tail : goal.returns-then-byte-eq0-clause-tail
returns-then-byte-eq0-clause-tail c =
    let strings = c.args.strings.now in
    let at = c.args.self.at - 1 in
    let within : at < length strings = begins_within strings c.args.self.at c.requires.tail.text c.requires.tail.there c.requires.some in
    no_bytes c.args.formula strings at c.empty.result c.empty.ensures (empty_there strings at within c.if-byte-eq0.true)

pub returns-clause-tail : goal.returns-clause-tail
returns-clause-tail c =
    let strings = c.args.strings.now in
    let at = c.args.self.at - 1 in
    let t = c.requires.tail in
    let within : at < length strings = begins_within strings c.args.self.at t.text t.there c.requires.some in
    let behind : at + 1 ≡ c.args.self.at = omega (arith, c.requires.some) in
    let b : ℕ = get_or strings at 0 in
    record {
      text = b ∷ t.text;
      there = longer_there strings at within t.text c.if-byte-eq0.false (ap (text_in strings) behind ∙ t.there);
      sum = sum_more (factor c.args.formula) (term c.args.formula) b t.text c.term.result c.args.self.weight c.args.self.sum _ _ c.term.ensures t.weight t.sum (λ i. (c.term.result * c.args.self.weight) % 2 ^ 32) (λ i. ((c.term.result * c.args.self.weight) % 2 ^ 32 + c.args.self.sum) % 2 ^ 32);
      weight = λ i. (t.weight i * c.factor.ensures i) % 2 ^ 32;
      print = print_more b t.text c.args.self.print _ _ t.print (λ i. (c.args.self.print * 0x9e3779b97f4a7c15) % 2 ^ 64) (ap (λ (x : ℕ). ((c.args.self.print * 0x9e3779b97f4a7c15) % 2 ^ 64 + (x + 1)) % 2 ^ 64) c.from.ensures);
      beyond = ap (λ (x : Bool). nat_le 0x80 b || x) t.beyond;
    }
