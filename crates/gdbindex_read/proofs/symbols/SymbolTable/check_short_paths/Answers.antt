use Rattle.std.proofs.Common.{◌≡◌, ℕ, Some, true, false, ap, sym, ◌∙◌, arith}
use Rattle.ix_base.specs.declared.fault.Fault.{Fault}
use Rattle.index_model.specs.declared.index_code.TheConstants.{GDB_LOST_SLOT}
use Rattle.index_model.specs.Meaning.{fault}
use Rattle.index_model.specs.GdbIndexRead.{reached}
use Rattle.gdbindex_read.specs.Areas.{item}
use Rattle.gdbindex_read.specs.Slots.{slots_seen, slot_of, slot_in, table_of, is_found_from}
use Rattle.gdbindex_read.proofs.Loops.{fault_from_more, fault_from_here, fault_from_none}
use Rattle.gdbindex_read.proofs.SlotsRead.{here, all_reached, reached_none, reached_lost}
use Rattle.gdbindex_read.proofs.symbols.SymbolTable.check_short_paths.Goals as goal

pub returns-then-not-is_found : goal.returns-then-not-is_found
returns-then-not-is_found c =
    let t = c.args.self.now in
    let k = c.loop-place.place in
    let at : ℕ = (item 8 (table_of t) k).at in
    let lost : is_found_from (slots_seen t) k (slot_of t k) ≡ false = ap (is_found_from (slots_seen t) k) (sym (here t k (omega (arith, c.len-count.ensures)))) ∙ sym c.in_ok-is_found.ensures ∙ c.if-not-is_found.true in
    let wrong = reached_lost (slots_seen t) k t.pool.now at (slot_in (item 8 (table_of t) k).rest) lost in
    ap (λ (f : Fault). Some f) c.lost.ensures ∙ sym (sym (all_reached t c.len-count.result c.len-count.ensures) ∙ sym c.loop-place.invariant ∙ fault_from_here (reached (slots_seen t)) (λ (k : ℕ). (k, slot_of t k)) k c.len-count.result (fault GDB_LOST_SLOT at) (omega arith) wrong)

pub loop-place-preserved : goal.loop-place-preserved
loop-place-preserved c =
    let t = c.args.self.now in
    let k = c.loop-place.place in
    let found : is_found_from (slots_seen t) k (slot_of t k) ≡ true = ap (is_found_from (slots_seen t) k) (sym (here t k (omega (arith, c.len-count.ensures)))) ∙ sym c.in_ok-is_found.ensures ∙ c.if-not-is_found.false in
    sym (fault_from_more (reached (slots_seen t)) (λ (k : ℕ). (k, slot_of t k)) k c.len-count.result (omega arith) (reached_none (slots_seen t) k (slot_of t k) found)) ∙ c.loop-place.invariant

pub returns : goal.returns
returns c =
    let t = c.args.self.now in
    sym (sym (all_reached t c.len-count.result c.len-count.ensures) ∙ sym c.loop-place.invariant ∙ fault_from_none (reached (slots_seen t)) (λ (k : ℕ). (k, slot_of t k)) c.loop-place.place c.len-count.result (omega arith))
