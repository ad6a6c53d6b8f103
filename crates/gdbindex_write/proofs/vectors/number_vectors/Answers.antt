use Rattle.std.proofs.Common.{◌≡◌, ℕ, ◌<◌, List, [], length, get_or, sym, ap, ◌∙◌, arith}
use Rattle.std.specs.Prelude.{slice_range}
use Rattle.std.proofs.lemmas.List.{get_or-map, length-map}
use Rattle.gdbindex_write.specs.declared.symbols.Symbol.{Symbol}
use Rattle.gdbindex_write.specs.Pools.{vectors_seen}
use Rattle.gdbindex_write.specs.Symbols.{vectors_of}
use Rattle.gdbindex_write.proofs.PartLaws.{no_symbol}
use Rattle.gdbindex_write.proofs.VectorLaws.{no_distinct, set_more, numbers_more}
use Rattle.gdbindex_write.proofs.vectors.number_vectors.Goals as goal

pub loop-symbol-init : goal.loop-symbol-init
loop-symbol-init c = record {
  set = ap vectors_seen c.requires.no_keys ∙ sym no_distinct;
  numbered = c.requires.empty;
}

pub loop-symbol-preserved : goal.loop-symbol-preserved
loop-symbol-preserved c =
    let es = c.args.symbols.now.elements.items in
    let list = c.args.symbols.now.list.items in
    let all : List (List ℕ) = vectors_of es list in
    let i = c.loop-symbol.symbol-index in
    let inv = c.loop-symbol.invariant in
    let items = c.deref-symbol-items.ensures.value in
    let elements = c.deref.ensures.value in
    let first : i < length list = omega (arith, c.loop-symbol-test.true, ap length items) in
    let lt : i < length all = omega (arith, first, length-map list (λ (s : Symbol). slice_range es s.start s.end)) in
    let v : List ℕ = slice_range c.deref.result.now (get_or c.deref-symbol-items.result.now i no_symbol).start (get_or c.deref-symbol-items.result.now i no_symbol).end in
    let is : get_or all i [] ≡ v = get_or-map (λ (s : Symbol). slice_range es s.start s.end) list i no_symbol [] first ∙ sym (λ j. slice_range (elements j) (get_or (items j) i no_symbol).start (get_or (items j) i no_symbol).end) in
    record {
      set = c.in_ok-insert.ensures.set ∙ set_more all (vectors_seen c.loop-symbol.set.keys) i v lt is inv.set;
      numbered = c.in_ok-push.ensures.items ∙ numbers_more all (vectors_seen c.loop-symbol.set.keys) i v lt is inv.set c.loop-symbol.numbers.items c.in_ok-insert.field-0 c.in_ok-insert.ensures.number inv.numbered;
    }
