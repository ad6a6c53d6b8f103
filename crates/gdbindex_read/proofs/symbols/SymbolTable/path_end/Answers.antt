use Rattle.std.proofs.Common.{ℕ, not, Some, refl, ap, sym, ◌∙◌, arith}
use Rattle.index_model.specs.Hashes.{gdb_hash, slot_on_path}
use Rattle.gdbindex_read.specs.Slots.{slots_seen}
use Rattle.gdbindex_read.proofs.Loops.{found_from_all, found_from_more, found_from_here, found_from_none}
use Rattle.gdbindex_read.proofs.Paths.{ends, next_on_path, place_within, path_end_is}
use Rattle.gdbindex_read.proofs.SlotsRead.{length-slots}
use Rattle.gdbindex_read.proofs.symbols.SymbolTable.path_end.Goals as goal

pub returns-then-slots-eq0-clause-value : goal.returns-then-slots-eq0-clause-value
returns-then-slots-eq0-clause-value c = sym (path_end_is (slots_seen c.args.self.now) c.args.name.now 0 (length-slots c.args.self.now ∙ sym c.len-slots.ensures ∙ c.if-slots-eq0.true))

pub loop-steps-init : goal.loop-steps-init
loop-steps-init c = record { place = c.new-path.ensures.place; step = c.new-path.ensures.step; slots = c.new-path.ensures.slots; left = refl }

pub is_other-requires : goal.is_other-requires
is_other-requires c = place_within c.loop-steps.path.place c.len-slots.result (gdb_hash c.args.name.now) c.loop-steps._steps _ c.loop-steps.invariant.place c.if-slots-eq0.false c.len-slots.ensures

pub returns-then-not-is_other-clause-value : goal.returns-then-not-is_other-clause-value
returns-then-not-is_other-clause-value c =
    let here = ap (ends (slots_seen c.args.self.now) c.args.name.now) (sym c.loop-steps.invariant.place) ∙ ap not (sym c.is_other.ensures ∙ c.if-not-is_other.true) in
    ap (λ (k : ℕ). Some k) c.loop-steps.invariant.place ∙ sym (path_end_is (slots_seen c.args.self.now) c.args.name.now c.len-slots.result (length-slots c.args.self.now ∙ sym c.len-slots.ensures) ∙ sym (found_from_all (ends (slots_seen c.args.self.now) c.args.name.now) (slot_on_path c.len-slots.result (gdb_hash c.args.name.now)) c.len-slots.result) ∙ sym c.loop-steps.invariant.left ∙ found_from_here (ends (slots_seen c.args.self.now) c.args.name.now) (slot_on_path c.len-slots.result (gdb_hash c.args.name.now)) c.loop-steps._steps c.len-slots.result (omega arith) here)

pub loop-steps-preserved : goal.loop-steps-preserved
loop-steps-preserved c =
    let here = ap (ends (slots_seen c.args.self.now) c.args.name.now) (sym c.loop-steps.invariant.place) ∙ ap not (sym c.is_other.ensures ∙ c.if-not-is_other.false) in
    let inv = c.loop-steps.invariant in
    record {
      place = c.advance.ensures.place ∙ next_on_path c.loop-steps.path.place c.loop-steps.path.step c.loop-steps.path.slots c.len-slots.result (gdb_hash c.args.name.now) c.loop-steps._steps inv.place inv.step inv.slots;
      step = c.advance.ensures.step ∙ inv.step;
      slots = c.advance.ensures.slots ∙ inv.slots;
      left = sym (found_from_more (ends (slots_seen c.args.self.now) c.args.name.now) (slot_on_path c.len-slots.result (gdb_hash c.args.name.now)) c.loop-steps._steps c.len-slots.result (omega arith) here) ∙ inv.left;
    }

pub returns-clause-value : goal.returns-clause-value
returns-clause-value c = sym (path_end_is (slots_seen c.args.self.now) c.args.name.now c.len-slots.result (length-slots c.args.self.now ∙ sym c.len-slots.ensures) ∙ sym (found_from_all (ends (slots_seen c.args.self.now) c.args.name.now) (slot_on_path c.len-slots.result (gdb_hash c.args.name.now)) c.len-slots.result) ∙ sym c.loop-steps.invariant.left ∙ found_from_none (ends (slots_seen c.args.self.now) c.args.name.now) (slot_on_path c.len-slots.result (gdb_hash c.args.name.now)) c.loop-steps._steps c.len-slots.result (omega arith))
