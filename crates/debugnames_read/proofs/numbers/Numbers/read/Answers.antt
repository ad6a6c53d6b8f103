use Rattle.std.proofs.Common.{◌≡◌, ℕ, ◌*◌, refl, ap, ◌∙◌}
use Rattle.ix_base.specs.Reading.{bytes}
use Rattle.index_model.specs.Strings.{offset_size}
use Rattle.debugnames_read.proofs.NumberTables.{count_read, no_table, table_read}
use Rattle.debugnames_read.proofs.numbers.Numbers.read.Goals as goal

pub returns-in_err-bytes-clause-value : goal.returns-in_err-bytes-clause-value
returns-in_err-bytes-clause-value c =
    let long : offset_size c.args.wide * c.args.count ≡ c.size_of.result * c.from.result = rw (c.size_of.ensures, c.from.ensures) refl in
    rw c.from_residual.ensures (no_table c.args.wide c.args.count c.args.cursor.now (ap (λ (n : ℕ). bytes n c.args.cursor.now) long ∙ c.in_err-bytes.ensures.value.0))

pub returns-clause-value : goal.returns-clause-value
returns-clause-value c =
    let long : offset_size c.args.wide * c.args.count ≡ c.size_of.result * c.from.result = rw (c.size_of.ensures, c.from.ensures) refl in
    rw c.at-at.ensures (table_read c.args.wide c.args.count c.args.cursor.now c.in_ok-bytes.bytes.now c.bytes.new.self (ap (λ (n : ℕ). bytes n c.args.cursor.now) long ∙ c.in_ok-bytes.ensures.value))

pub returns-clause-count : goal.returns-clause-count
returns-clause-count c =
    let long : offset_size c.args.wide * c.args.count ≡ c.size_of.result * c.from.result = rw (c.size_of.ensures, c.from.ensures) refl in
    count_read c.args.wide c.args.count c.args.cursor.now c.in_ok-bytes.bytes.now c.bytes.new.self (ap (λ (n : ℕ). bytes n c.args.cursor.now) long ∙ c.in_ok-bytes.ensures.value)
