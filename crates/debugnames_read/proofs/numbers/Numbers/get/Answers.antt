use Rattle.std.proofs.Common.{ℕ, ◌*◌, ap, sym, ◌∙◌, arith}
use Rattle.debugnames_read.specs.declared.numbers.Numbers.{Numbers}
use Rattle.debugnames_read.proofs.NumberTables.{lies, number_seen, eight, four, size_is, narrow_size}
use Rattle.debugnames_read.proofs.numbers.Numbers.get.Goals as goal

pub overflow_mul-at : goal.overflow_mul-at
overflow_mul-at c =
    let t : Numbers = c.args.self.now in
    omega (arith, lies t c.args.k c.requires, ap (λ (n : ℕ). n * c.args.k) c.size_of.ensures, t.ends)

pub u64_at-requires : goal.u64_at-requires
u64_at-requires c =
    let t : Numbers = c.args.self.now in
    omega (arith, lies t c.args.k c.requires, ap (λ (n : ℕ). n * c.args.k) c.size_of.ensures, size_is t.wide c.if-self.true)

pub u32_at-requires : goal.u32_at-requires
u32_at-requires c =
    let t : Numbers = c.args.self.now in
    omega (arith, lies t c.args.k c.requires, ap (λ (n : ℕ). n * c.args.k) c.size_of.ensures, narrow_size t.wide c.if-self.false)

pub returns-then-self : goal.returns-then-self
returns-then-self c =
    let t : Numbers = c.args.self.now in
    c.u64_at.ensures ∙ eight t.wide t.bytes.now c.args.k (c.size_of.result * c.args.k) c.if-self.true (ap (λ (n : ℕ). n * c.args.k) c.size_of.ensures) ∙ sym (number_seen t c.args.k c.requires)

pub returns-else-self : goal.returns-else-self
returns-else-self c =
    let t : Numbers = c.args.self.now in
    c.from.ensures ∙ c.u32_at.ensures ∙ four t.wide t.bytes.now c.args.k (c.size_of.result * c.args.k) c.if-self.false (ap (λ (n : ℕ). n * c.args.k) c.size_of.ensures) ∙ sym (number_seen t c.args.k c.requires)
