use Rattle.std.proofs.Common.{◌≡◌, ℕ, ◌^◌, ◌<◌, ◌%◌, List, [], length, find, get_or, map, set, take, Option, Some, None, replicate, sym, ap, ◌∙◌, arith}
use Rattle.std.proofs.lemmas.List.{length-map, get_or-map, get_or_read}
use Rattle.std.proofs.lemmas.Nat.{mod_below}
use Rattle.index_model.specs.Layout.{below}
use Rattle.index_model.specs.Hashes.{gdb_hash, slot_on_path}
use Rattle.index_model.specs.GdbSlots.{slot_count, slots_of}
use Rattle.gdbindex_write.specs.declared.symbols.Symbol.{Symbol}
use Rattle.gdbindex_write.specs.Slots.{is_free, numbers_at}
use Rattle.gdbindex_write.specs.Symbols.{names_of}
use Rattle.gdbindex_write.proofs.FrontLaws.{fronts_at_first, fronts_more}
use Rattle.gdbindex_write.proofs.PartLaws.{no_symbol}
use Rattle.gdbindex_write.proofs.SlotLaws.{all_slots, found_in, no_numbers, numbers_length, slot_within, table_more}
use Rattle.gdbindex_write.proofs.slots.numbers_in_slots.Goals as goal

count_is : (list : List Symbol) → length (names_of list) ≡ length list
count_is list = length-map list (λ s. s.name.now)

pub loop-number-init : goal.loop-number-init
loop-number-init c =
    let count = c.slot_count-count.ensures.exact ∙ ap slot_count (sym (count_is c.args.symbols.now)) in
    record {
      made = c.in_ok-slots.ensures ∙ ap (λ (n : ℕ). replicate n None) count ∙ no_numbers (slot_count (length (names_of c.args.symbols.now)));
      fronts = fronts_at_first c.slot_count-count.result c.in_ok-slots.slots.items c.in_ok-fronts.fronts.items c.in_ok-slots.ensures c.in_ok-fronts.ensures.size c.in_ok-fronts.ensures.each;
    }

-- the table has slots, in which the paths of names begin
record Begins (list : List Symbol) (count hash : ℕ) (slots : List (Option ℕ)) : Type 0 where
  size : length slots ≡ count
  some : 0 < count
  begin : hash % count < length slots

begins_at : (list : List Symbol) → length list < 2 ^ 32 → (count n hash : ℕ) (slots : List (Option ℕ)) → count ≡ slot_count (length list) → n < length list → slots ≡ numbers_at (slot_count (length (names_of list))) (take n (slots_of (names_of list))) → Begins list count hash slots
begins_at list few count n hash slots counted lt made =
    let names = names_of list in
    let small : length names < 2 ^ 60 = omega (arith, count_is list, few) in
    let within = slot_within names small n (omega (arith, count_is list, lt)) in
    let size : length slots ≡ count = ap length made ∙ numbers_length (slot_count (length names)) (take n (slots_of names)) ∙ ap slot_count (count_is list) ∙ sym counted in
    let some : 0 < count = omega (arith, within, size, ap length made, numbers_length (slot_count (length names)) (take n (slots_of names))) in
    record { size = size; some = some; begin = omega (arith, mod_below hash count some, size) }

pub nonzero_rem-begin : goal.nonzero_rem-begin
nonzero_rem-begin c = (begins_at c.args.symbols.now c.requires c.slot_count-count.result c.loop-number.number c.gdb_hash.result c.loop-number.slots.items c.slot_count-count.ensures.exact c.loop-number-test.true c.loop-number.invariant.made).some

pub index-requires : goal.index-requires
index-requires c =
    let b = begins_at c.args.symbols.now c.requires c.slot_count-count.result c.loop-number.number c.gdb_hash.result c.loop-number.slots.items c.slot_count-count.ensures.exact c.loop-number-test.true c.loop-number.invariant.made in
    omega (arith, b.begin, c.loop-number.invariant.fronts.size)

pub free_slot-slot-requires-clause-begin : goal.free_slot-slot-requires-clause-begin
free_slot-slot-requires-clause-begin c =
    let b = begins_at c.args.symbols.now c.requires c.slot_count-count.result c.loop-number.number c.gdb_hash.result c.loop-number.slots.items c.slot_count-count.ensures.exact c.loop-number-test.true c.loop-number.invariant.made in
    omega (arith, b.begin, ap length c.deref.ensures.value)

pub free_slot-slot-requires-clause-front : goal.free_slot-slot-requires-clause-front
free_slot-slot-requires-clause-front c =
    let b = begins_at c.args.symbols.now c.requires c.slot_count-count.result c.loop-number.number c.gdb_hash.result c.loop-number.slots.items c.slot_count-count.ensures.exact c.loop-number-test.true c.loop-number.invariant.made in
    let begin = c.gdb_hash.result % c.slot_count-count.result in
    let fs = c.loop-number.invariant.fronts in
    let value : c.index.result.now ≡ get_or c.loop-number.fronts.items begin 0 = get_or_read c.loop-number.fronts.items begin c.index.result.now (omega (arith, b.begin, fs.size)) c.index.ensures 0 in
    rw (c.deref.ensures.value, value) (fs.each begin b.begin)

pub index_mut-requires : goal.index_mut-requires
index_mut-requires c =
    let b = begins_at c.args.symbols.now c.requires c.slot_count-count.result c.loop-number.number c.gdb_hash.result c.loop-number.slots.items c.slot_count-count.ensures.exact c.loop-number-test.true c.loop-number.invariant.made in
    omega (arith, b.begin, c.loop-number.invariant.fronts.size)

-- the slot that is found is the name's own
own_slot : (list : List Symbol) → length list < 2 ^ 32 → (count n hash : ℕ) (slots : List (Option ℕ)) → count ≡ slot_count (length list) → (lt : n < length list) → hash ≡ gdb_hash (get_or list n no_symbol).name.now → slots ≡ numbers_at (slot_count (length (names_of list))) (take n (slots_of (names_of list)))
    → find (is_free slots) (map (slot_on_path (length slots) (hash % count)) (below (length slots))) ≡ Some (get_or (slots_of (names_of list)) n 0)
own_slot list few count n hash slots counted lt is made =
    let names = names_of list in
    let small : length names < 2 ^ 60 = omega (arith, count_is list, few) in
    let named = is ∙ ap gdb_hash (sym (get_or-map (λ (s : Symbol). s.name.now) list n no_symbol [] lt)) in
    found_in names small n hash (hash % count) slots (omega (arith, count_is list, lt)) named (ap (λ (m : ℕ). hash % m) (counted ∙ ap slot_count (sym (count_is list)))) made

pub index_mut-requires-in-loop-number : goal.index_mut-requires-in-loop-number
index_mut-requires-in-loop-number c =
    let list = c.args.symbols.now in
    let n = c.loop-number.number in
    let small : length (names_of list) < 2 ^ 60 = omega (arith, count_is list, c.requires) in
    let made = c.deref.ensures.value ∙ c.loop-number.invariant.made in
    let found = c.free_slot-slot.ensures (get_or (slots_of (names_of list)) n 0) (own_slot list c.requires c.slot_count-count.result n c.gdb_hash.result c.deref.result.now c.slot_count-count.ensures.exact c.loop-number-test.true c.gdb_hash.ensures made) in
    let size = ap length c.loop-number.invariant.made ∙ numbers_length (slot_count (length (names_of list))) (take n (slots_of (names_of list))) in
    omega (arith, found.0, slot_within (names_of list) small n (omega (arith, count_is list, c.loop-number-test.true)), size)

pub loop-number-preserved : goal.loop-number-preserved
loop-number-preserved c =
    let list = c.args.symbols.now in
    let n = c.loop-number.number in
    let slots = c.loop-number.slots.items in
    let lt : n < length (names_of list) = omega (arith, count_is list, c.loop-number-test.true) in
    let small : length (names_of list) < 2 ^ 60 = omega (arith, count_is list, c.requires) in
    let own = c.loop-number.invariant.made in
    let b = begins_at list c.requires c.slot_count-count.result n c.gdb_hash.result slots c.slot_count-count.ensures.exact c.loop-number-test.true own in
    let found = c.free_slot-slot.ensures (get_or (slots_of (names_of list)) n 0) (own_slot list c.requires c.slot_count-count.result n c.gdb_hash.result c.deref.result.now c.slot_count-count.ensures.exact c.loop-number-test.true c.gdb_hash.ensures (c.deref.ensures.value ∙ own)) in
    let front = rw c.deref.ensures.value at found.1 in
    let size = ap length own ∙ numbers_length (slot_count (length (names_of list))) (take n (slots_of (names_of list))) in
    let inside : c.free_slot-slot.result < length slots = omega (arith, found.0, slot_within (names_of list) small n lt, size) in
    record {
      made = (λ i. set (own i) (found.0 i) (Some n)) ∙ table_more (names_of list) small n lt;
      fronts = fronts_more slots c.free_slot-slot.result n inside c.loop-number.fronts.items (c.gdb_hash.result % c.slot_count-count.result) b.begin c.loop-number.invariant.fronts front;
    }

pub returns : goal.returns
returns c =
    let names = names_of c.args.symbols.now in
    let small : length names < 2 ^ 60 = omega (arith, count_is c.args.symbols.now, c.requires) in
    c.loop-number.invariant.made ∙ all_slots names small c.loop-number.number (omega (arith, count_is c.args.symbols.now, c.loop-number-test.false))
