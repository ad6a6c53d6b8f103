use Rattle.std.proofs.Common.{ℕ, ◌<◌, List, ◌++◌, length, get_or, Option, sym, ap, ◌∙◌, arith}
use Rattle.std.proofs.lemmas.List.{get_or_default, length-map}
use Rattle.std.proofs.lemmas.List.FromFn.{length-map-range_with_len}
use Rattle.std.specs.Prelude.{flat_map, option_map}
use denote.Ref.{Bor}
use Rattle.common_laws.proofs.Appended.{four_parts}
use Rattle.index_model.specs.GdbIndex.{vector_bytes}
use Rattle.index_model.specs.Layout.{ended}
use Rattle.index_model.specs.Seen.{main_seen}
use Rattle.gdbindex_write.specs.declared.places.Slot.{Slot}
use Rattle.gdbindex_write.specs.Places.{numbered_bytes, place_at, places_of, shortcut_of}
use Rattle.gdbindex_write.specs.Pools.{vectors_seen}
use Rattle.gdbindex_write.specs.Sizes.{vectors_size}
use Rattle.gdbindex_write.specs.Slots.{numbers_in_slots}
use Rattle.gdbindex_write.specs.Symbols.{names_of}
use Rattle.gdbindex_write.proofs.PartLaws.{no_vector, vectors_fit}
use Rattle.gdbindex_write.proofs.WriteLaws.{slots_within, count_le}
use Rattle.gdbindex_write.proofs.areas.put_symbols.Goals as goal

pub numbers_in_slots-requires : goal.numbers_in_slots-requires
numbers_in_slots-requires c = omega (arith, c.requires.small, count_le c.args.symbols.now)

pub put_symbol_table-requires : goal.put_symbol_table-requires
put_symbol_table-requires c =
    let names = names_of c.args.symbols.now in
    let slots = c.deref.ensures.value ∙ c.in_ok-slots.ensures in
    let places = ap length (c.deref-2.ensures.value ∙ c.in_ok-places.ensures) ∙ length-map-range_with_len (place_at c.args.symbols.now c.args.vectors.now.distinct.items c.args.vectors.now.numbers.items) 0 (length c.args.symbols.now) in
    λ k d lt x is.
    let within : k < length (numbers_in_slots names) = omega (arith, lt, ap length slots) in
    let at = sym (ap (λ (w : List (Option ℕ)). get_or w k d) slots) ∙ is in
    omega (arith, slots_within names k x d within at, length-map c.args.symbols.now (λ s. s.name.now), places)

pub put_shortcut-requires : goal.put_shortcut-requires
put_shortcut-requires c =
    ap length (c.deref-3.ensures.value ∙ c.in_ok-places.ensures) ∙ length-map-range_with_len (place_at c.args.symbols.now c.args.vectors.now.distinct.items c.args.vectors.now.numbers.items) 0 (length c.args.symbols.now)

pub put_vectors-requires : goal.put_vectors-requires
put_vectors-requires c =
    let vs = c.deref-4.result.now in
    let size = ap (λ (l : List (Bor (List ℕ))). vectors_size (vectors_seen l)) c.deref-4.ensures.value in
    λ k d lt. omega (arith, c.requires.size, c.requires.small, size, vectors_fit vs k lt, ap (λ (v : Bor (List ℕ)). length v.now) (get_or_default vs k d no_vector lt))

pub returns : goal.returns
returns c =
    let symbols = c.args.symbols.now in
    let distinct = c.args.vectors.now.distinct.items in
    let places : List Slot = places_of symbols distinct c.args.vectors.now.numbers.items in
    let main = option_map main_seen c.args.main in
    let slots = c.deref.ensures.value ∙ c.in_ok-slots.ensures in
    let places_2 = c.deref-2.ensures.value ∙ c.in_ok-places.ensures in
    let places_3 = c.deref-3.ensures.value ∙ c.in_ok-places.ensures in
    four_parts c.args.out.now.items (flat_map (numbered_bytes places) (numbers_in_slots (names_of symbols))) (shortcut_of c.args.version symbols places main) (flat_map vector_bytes (vectors_seen distinct)) (flat_map ended (names_of symbols))
    (c.in_ok-put_symbol_table.ensures ∙ (λ i. c.args.out.now.items ++ flat_map (numbered_bytes (places_2 i)) (slots i)))
    (c.in_ok-put_shortcut.ensures ∙ (λ i. c.put_symbol_table.new.out.items ++ shortcut_of c.args.version symbols (places_3 i) main))
    (c.in_ok-put_vectors.ensures ∙ (λ i. c.put_shortcut.new.out.items ++ flat_map vector_bytes (vectors_seen (c.deref-4.ensures.value i))))
    c.in_ok-put_names.ensures
