use Rattle.std.proofs.Common.{ℕ, ◌+◌, ◌<◌, List, [], ◌∷◌, ◌++◌, length, get_or, take, sym, ap, ◌∙◌, arith}
use Rattle.std.proofs.lemmas.List.{get_or_default}
use Rattle.std.proofs.lemmas.List.FromFn.{map-range_with_len_more, length-map-range_with_len, get_or-map-range_with_len}
use denote.Ref.{Bor}
use Rattle.gdbindex_write.specs.Places.{place_at}
use Rattle.gdbindex_write.specs.Pools.{vectors_seen}
use Rattle.gdbindex_write.specs.Sizes.{names_size, vectors_size}
use Rattle.gdbindex_write.specs.Symbols.{names_of}
use Rattle.gdbindex_write.proofs.PartLaws.{names_fit, names_more}
use Rattle.gdbindex_write.proofs.places.places.Goals as goal

-- where the vectors begin
abbrev starts : List (Bor (List ℕ)) → ℕ → ℕ
starts vs k = vectors_size (vectors_seen (take k vs))

pub overflow_cast-name : goal.overflow_cast-name
overflow_cast-name c = omega (arith, c.loop-i.invariant.next, names_fit c.args.symbols.now c.loop-i.i c.loop-i-test.true, c.requires.small)

pub index-requires-in-loop-i : goal.index-requires-in-loop-i
index-requires-in-loop-i c =
    let i = c.loop-i.i in
    let within : i < length c.args.vectors.now.numbers.items = omega (arith, c.loop-i-test.true, c.requires.each) in
    let number = c.requires.numbers i c.index.result.now within in
    let size = ap length c.in_ok-starts.ensures ∙ length-map-range_with_len (starts c.deref.result.now) 0 (length c.deref.result.now) ∙ ap length c.deref.ensures.value in
    omega (arith, number, c.index.ensures, size, c.in_ok-starts.starts.ok.0)

pub overflow_add-name-in-loop-i : goal.overflow_add-name-in-loop-i
overflow_add-name-in-loop-i c = omega (arith, c.loop-i.invariant.next, names_fit c.args.symbols.now c.loop-i.i c.loop-i-test.true, c.requires.small)

pub loop-i-preserved : goal.loop-i-preserved
loop-i-preserved c =
    let symbols = c.args.symbols.now in
    let vs = c.args.vectors.now.distinct.items in
    let numbers = c.args.vectors.now.numbers.items in
    let all = c.deref.result.now in
    let i = c.loop-i.i in
    let k = c.index.result.now in
    let made = c.loop-i.invariant.made in
    let within : i < length numbers = omega (arith, c.loop-i-test.true, c.requires.each) in
    let number = c.requires.numbers i k within in
    let below_all : k < length all = omega (arith, number, c.index.ensures, ap length c.deref.ensures.value) in
    let name = c.loop-i.invariant.next ∙ ap (λ (n : ℕ). n + names_size (names_of (take i symbols))) c.requires.size in
    let r = c.index-in-loop-i.result.now in
    let start = c.index-in-loop-i.ensures ∙ ap (λ (w : List ℕ). get_or w k r) c.in_ok-starts.ensures ∙ get_or-map-range_with_len (starts all) 0 (length all) k k r below_all (omega arith) in
    let own = c.index.ensures ∙ get_or_default numbers i k 0 within in
    let vector = start ∙ ap (λ (w : List (Bor (List ℕ))). starts w k) c.deref.ensures.value ∙ ap (starts vs) own in
    record {
      made = c.in_ok-push.ensures.items ∙ (λ j. made j ++ record { name = name j; vector = vector j } ∷ []) ∙ sym (map-range_with_len_more (place_at symbols vs numbers) 0 i i (omega arith));
      next = omega (arith, c.loop-i.invariant.next, names_more symbols i c.loop-i-test.true);
    }
