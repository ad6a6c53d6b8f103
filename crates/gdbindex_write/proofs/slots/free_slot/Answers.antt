use Rattle.std.proofs.Common.{◌≡◌, ℕ, ◌+◌, ◌%◌, not, true, false, length, ap, ◌∙◌, arith}
use Rattle.std.proofs.lemmas.Nat.{mod_below}
use Rattle.gdbindex_write.specs.Slots.{is_free}
use Rattle.gdbindex_write.proofs.FrontLaws.{free_found, none_found, walk_on}
use Rattle.gdbindex_write.proofs.slots.free_slot.Goals as goal

pub loop-tried-init : goal.loop-tried-init
loop-tried-init c = record {
  within = omega (arith, c.requires.front.here, c.requires.begin);
  walked = record { front = c.requires.front; most = omega arith };
}

pub returns-then-is_none : goal.returns-then-is_none
returns-then-is_none c =
    let slots = c.args.slots.now in
    let w = c.loop-tried.invariant.walked in
    let free : is_free slots c.loop-tried.slot ≡ true = ap not (c.is_none.ensures ∙ ap not c.if-is_none.true) in
    λ slot is. (free_found slots c.args.begin c.loop-tried.slot c.loop-tried.tried w c.loop-tried.invariant.within free slot is, w.front)

pub overflow_add-slot : goal.overflow_add-slot
overflow_add-slot c = omega (arith, c.loop-tried.invariant.within, c.odd-step.ensures, c.requires.begin, c.requires.few)

pub loop-tried-preserved : goal.loop-tried-preserved
loop-tried-preserved c =
    let slots = c.args.slots.now in
    let taken : is_free slots c.loop-tried.slot ≡ false = ap not (c.is_none.ensures ∙ ap not c.if-is_none.false) in
    record {
      within = mod_below _ (length slots) (omega (arith, c.requires.begin));
      walked = walk_on slots c.args.begin c.loop-tried.slot c.loop-tried.tried c.loop-tried.invariant.walked taken _ (ap (λ (s : ℕ). (c.loop-tried.slot + s) % length slots) c.odd-step.ensures);
    }

pub returns : goal.returns
returns c = λ slot is. absurd (none_found c.args.slots.now c.args.begin c.loop-tried.slot c.loop-tried.tried c.loop-tried.invariant.walked (omega arith) slot is)
