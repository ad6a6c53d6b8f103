use Rattle.std.proofs.Common.{sym, ◌∙◌, arith}
use Rattle.gdbindex_read.proofs.Vectors.{past_the_pool, no_count, no_elements, vector_found}
use Rattle.gdbindex_read.proofs.elements.Elements.read.Goals as goal

pub returns : goal.returns
returns c = sym (vector_found c.args.pool.now c.args.offset (omega arith) c.in_ok-count.count c.u32.new.self (rw c.new-vector.ensures at c.in_ok-count.ensures.value) c.in_ok-bytes.bytes.now c.bytes.new.self (rw c.from.ensures at c.in_ok-bytes.ensures.value))

pub returns-then-offset-pool : goal.returns-then-offset-pool
returns-then-offset-pool c = sym (past_the_pool c.args.pool.now c.args.offset (omega (arith, c.if-offset-pool.true)))

pub returns-in_err-count : goal.returns-in_err-count
returns-in_err-count c = c.from_residual.ensures ∙ sym (no_count c.args.pool.now c.args.offset (omega (arith, c.if-offset-pool.false)) (rw c.new-vector.ensures at c.in_err-count.ensures.value.0))

pub returns-in_err-bytes : goal.returns-in_err-bytes
returns-in_err-bytes c = c.from_residual-in_err-bytes.ensures ∙ sym (no_elements c.args.pool.now c.args.offset (omega (arith, c.if-offset-pool.false)) c.in_ok-count.count c.u32.new.self (rw c.new-vector.ensures at c.in_ok-count.ensures.value) (rw c.from.ensures at c.in_err-bytes.ensures.value.0))
