use Rattle.std.proofs.Common.{ℕ, ◌*◌, ap, arith}
use Rattle.debugnames_read.specs.declared.numbers.Numbers.{Numbers}
use Rattle.debugnames_read.proofs.NumberTables.{lies}
use Rattle.debugnames_read.proofs.numbers.Numbers.place.Goals as goal

pub overflow_mul-result : goal.overflow_mul-result
overflow_mul-result c =
    let t : Numbers = c.args.self.now in
    omega (arith, lies t c.args.k c.requires, ap (λ (n : ℕ). n * c.args.k) c.size_of.ensures, t.ends)

pub overflow_add-result : goal.overflow_add-result
overflow_add-result c =
    let t : Numbers = c.args.self.now in
    omega (arith, lies t c.args.k c.requires, ap (λ (n : ℕ). n * c.args.k) c.size_of.ensures, t.ends)
