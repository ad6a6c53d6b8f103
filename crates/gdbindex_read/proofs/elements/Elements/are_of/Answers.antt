use Rattle.std.proofs.Common.{◌≡◌, ℕ, true, false, get_or, ap, sym, ◌∙◌, arith}
use Rattle.std.specs.Prelude.{nat_lt}
use Rattle.index_model.specs.GdbIndexRead.{unit_in}
use Rattle.gdbindex_read.proofs.Vectors.{all_more, all_here, all_none}
use Rattle.gdbindex_read.proofs.elements.Elements.are_of.Goals as goal

pub returns-then-not-is_of : goal.returns-then-not-is_of
returns-then-not-is_of c =
    let other : nat_lt (unit_in (get_or c.args.self.now c.loop-i.i 0)) c.args.units ≡ false = ap (λ (e : ℕ). nat_lt (unit_in e) c.args.units) (sym c.get.ensures) ∙ sym c.is_of.ensures ∙ c.if-not-is_of.true in
    sym (sym c.loop-i.invariant ∙ all_here (λ (e : ℕ). nat_lt (unit_in e) c.args.units) c.args.self.now c.loop-i.i (omega arith) other)

pub loop-i-preserved : goal.loop-i-preserved
loop-i-preserved c =
    let own : nat_lt (unit_in (get_or c.args.self.now c.loop-i.i 0)) c.args.units ≡ true = ap (λ (e : ℕ). nat_lt (unit_in e) c.args.units) (sym c.get.ensures) ∙ sym c.is_of.ensures ∙ c.if-not-is_of.false in
    sym (all_more (λ (e : ℕ). nat_lt (unit_in e) c.args.units) c.args.self.now c.loop-i.i (omega arith) own) ∙ c.loop-i.invariant

pub returns : goal.returns
returns c = sym (sym c.loop-i.invariant ∙ all_none (λ (e : ℕ). nat_lt (unit_in e) c.args.units) c.args.self.now c.loop-i.i (omega arith))
