use Rattle.std.proofs.Common.{◌≡◌, ℕ, not, Option, Some, IfSome, refl, ap, subst, sym, ◌∙◌, arith}
use Rattle.index_model.specs.Hashes.{gdb_hash, slot_on_path}
use Rattle.string_ends.specs.Tails.{print_of}
use Rattle.gdbindex_read.specs.Homes.{IsPrintAt}
use Rattle.gdbindex_read.specs.Slots.{slots_seen}
use Rattle.gdbindex_read.proofs.Loops.{found_from_all, found_from_more, found_from_here, found_from_none}
use Rattle.gdbindex_read.proofs.Paths.{ends, next_on_path, place_within, path_end_is}
use Rattle.gdbindex_read.proofs.SlotsRead.{length-slots}
use Rattle.gdbindex_read.proofs.WalkLaws.{told_other}
use Rattle.gdbindex_read.proofs.symbols.SymbolTable.short_path_end.Goals as goal

pub returns-then-slots-eq0 : goal.returns-then-slots-eq0
returns-then-slots-eq0 c = sym (path_end_is (slots_seen c.args.self.now) c.args.name.now 0 (length-slots c.args.self.now ∙ sym c.len-slots.ensures ∙ c.if-slots-eq0.true))

pub loop-steps-init : goal.loop-steps-init
loop-steps-init c = record { place = c.new-path.ensures.place; step = c.new-path.ensures.step; slots = c.new-path.ensures.slots; left = refl }

pub is_other_if-requires-clause-place : goal.is_other_if-requires-clause-place
is_other_if-requires-clause-place c = place_within c.loop-steps.path.place c.len-slots.result (gdb_hash c.args.name.now) c.loop-steps._steps _ c.loop-steps.invariant.place c.if-slots-eq0.false c.len-slots.ensures

pub is_other_if-requires-clause-told : goal.is_other_if-requires-clause-told
is_other_if-requires-clause-told c = λ is.
    let slots = slots_seen c.args.self.now in
    let t = c.is_another-is_told.ensures is in
    let at : IsPrintAt slots c.loop-steps.path.place t.0 = subst (λ (p : Option ℕ). IfSome p (IsPrintAt slots c.loop-steps.path.place)) t.2 (c.print.ensures slots c.requires.homes) in
    let own : t.1 ≡ print_of c.args.name.now = subst (λ (p : Option ℕ). IfSome p (λ n. n ≡ print_of c.args.name.now)) t.3 c.requires.print in
    told_other slots c.loop-steps.path.place t.0 c.args.name.now at (λ same. t.4 (same ∙ sym own))

pub returns-then-not-is_other_if : goal.returns-then-not-is_other_if
returns-then-not-is_other_if c =
    let here = ap (ends (slots_seen c.args.self.now) c.args.name.now) (sym c.loop-steps.invariant.place) ∙ ap not (sym c.is_other_if.ensures ∙ c.if-not-is_other_if.true) in
    ap (λ (k : ℕ). Some k) c.loop-steps.invariant.place ∙ sym (path_end_is (slots_seen c.args.self.now) c.args.name.now c.len-slots.result (length-slots c.args.self.now ∙ sym c.len-slots.ensures) ∙ sym (found_from_all (ends (slots_seen c.args.self.now) c.args.name.now) (slot_on_path c.len-slots.result (gdb_hash c.args.name.now)) c.len-slots.result) ∙ sym c.loop-steps.invariant.left ∙ found_from_here (ends (slots_seen c.args.self.now) c.args.name.now) (slot_on_path c.len-slots.result (gdb_hash c.args.name.now)) c.loop-steps._steps c.len-slots.result (omega arith) here)

pub loop-steps-preserved : goal.loop-steps-preserved
loop-steps-preserved c =
    let here = ap (ends (slots_seen c.args.self.now) c.args.name.now) (sym c.loop-steps.invariant.place) ∙ ap not (sym c.is_other_if.ensures ∙ c.if-not-is_other_if.false) in
    let inv = c.loop-steps.invariant in
    record {
      place = c.advance.ensures.place ∙ next_on_path c.loop-steps.path.place c.loop-steps.path.step c.loop-steps.path.slots c.len-slots.result (gdb_hash c.args.name.now) c.loop-steps._steps inv.place inv.step inv.slots;
      step = c.advance.ensures.step ∙ inv.step;
      slots = c.advance.ensures.slots ∙ inv.slots;
      left = sym (found_from_more (ends (slots_seen c.args.self.now) c.args.name.now) (slot_on_path c.len-slots.result (gdb_hash c.args.name.now)) c.loop-steps._steps c.len-slots.result (omega arith) here) ∙ inv.left;
    }

pub returns : goal.returns
returns c = sym (path_end_is (slots_seen c.args.self.now) c.args.name.now c.len-slots.result (length-slots c.args.self.now ∙ sym c.len-slots.ensures) ∙ sym (found_from_all (ends (slots_seen c.args.self.now) c.args.name.now) (slot_on_path c.len-slots.result (gdb_hash c.args.name.now)) c.len-slots.result) ∙ sym c.loop-steps.invariant.left ∙ found_from_none (ends (slots_seen c.args.self.now) c.args.name.now) (slot_on_path c.len-slots.result (gdb_hash c.args.name.now)) c.loop-steps._steps c.len-slots.result (omega arith))
