use Rattle.std.proofs.Common.{◌≡◌, ℕ, List, [], ◌++◌, length, sym, ap, ◌∙◌, arith}
use Rattle.std.specs.Prelude.{flat_map, option_map}
use Rattle.std.proofs.lemmas.Result.{IfOk-from_err}
use denote.Ref.{Bor}
use Rattle.index_model.specs.Seen.{main_seen}
use Rattle.index_model.specs.Layout.{ended}
use Rattle.index_model.specs.GdbIndex.{cu_list, types_list, vector_bytes}
use Rattle.gdbindex_write.specs.declared.sizes.Sizes.{Sizes}
use Rattle.gdbindex_write.specs.declared.symbols.Symbol.{Symbol}
use Rattle.gdbindex_write.specs.Addresses.{piece_bytes}
use Rattle.gdbindex_write.specs.Header.{header_bytes}
use Rattle.gdbindex_write.specs.Places.{numbered_bytes, places_of, shortcut_of}
use Rattle.gdbindex_write.specs.Pools.{pool_seen, vectors_seen}
use Rattle.gdbindex_write.specs.Sizes.{sizes_of, total, names_size, vectors_size}
use Rattle.gdbindex_write.specs.Slots.{numbers_in_slots}
use Rattle.gdbindex_write.specs.Symbols.{names_of, vectors_of}
use Rattle.gdbindex_write.proofs.WriteLaws.{total_is, whole, numbers_within, not_too_large}
use Rattle.gdbindex_write.proofs.index.index_bytes.Goals as goal

pub returns-in_default-clause-too_large : goal.returns-in_default-clause-too_large
returns-in_default-clause-too_large c = λ entries ready _.
    let vectors = c.in_ok-vectors.vectors in
    let sizes : total c.args.version (sizes_of c.args.units.now c.args.pieces.now (pool_seen c.deref.result.now c.deref-2.result.now)) ≡ total c.args.version (sizes_of c.args.units.now c.args.pieces.now (pool_seen c.args.symbols.now.list.items vectors.distinct.items)) = (λ i. total c.args.version (sizes_of c.args.units.now c.args.pieces.now (pool_seen (c.deref.ensures.value i) (c.deref-2.ensures.value i)))) in
    let whole_size = total_is c.args.units.now c.args.pieces.now (option_map main_seen c.args.main) entries c.args.version ready.writable c.args.numbers.now ready.numbers_are c.args.symbols.now ready.symbols_are vectors c.in_ok-vectors.ensures in
    omega (arith, c.in_default.ensures.too_large, sizes, whole_size)

pub put_symbols-requires-clause-size : goal.put_symbols-requires-clause-size
put_symbols-requires-clause-size c =
    ap (λ (s : Sizes). s.vectors) c.in-Some.ensures.sizes ∙ ap (λ (l : List (Bor (List ℕ))). vectors_size (vectors_seen l)) c.deref-2.ensures.value

pub put_symbols-requires-clause-small : goal.put_symbols-requires-clause-small
put_symbols-requires-clause-small c =
    let names = ap (λ (s : Sizes). s.names) c.in-Some.ensures.sizes ∙ ap (λ (l : List Symbol). names_size (names_of l)) (c.deref.ensures.value ∙ sym c.deref-3.ensures.value) in
    omega (arith, c.in-Some.ensures.fits, names)

pub put_symbols-requires-clause-numbers : goal.put_symbols-requires-clause-numbers
put_symbols-requires-clause-numbers c = numbers_within (vectors_of c.args.symbols.now.elements.items c.args.symbols.now.list.items) c.in_ok-vectors.vectors c.in_ok-vectors.ensures

pub returns-clause-bytes : goal.returns-clause-bytes
returns-clause-bytes c = λ entries ready.
    let units = c.args.units.now in
    let version = c.args.version in
    let main = option_map main_seen c.args.main in
    let list = c.args.symbols.now.list.items in
    let vectors = c.in_ok-vectors.vectors in
    let numbers = c.args.numbers.now in
    let sizes : c.in-Some.sizes ≡ sizes_of units c.args.pieces.now (pool_seen list vectors.distinct.items) = c.in-Some.ensures.sizes ∙ (λ i. sizes_of units c.args.pieces.now (pool_seen (c.deref.ensures.value i) (c.deref-2.ensures.value i))) in
    let front : c.put_units.new.out.items ≡ ((([] ++ header_bytes version c.in-Some.sizes) ++ cu_list units) ++ types_list units) ++ flat_map (piece_bytes numbers) c.args.pieces.now =
    c.in_ok-put_units.ensures ∙ (λ i. (((c.in_ok-out.ensures.items i ++ header_bytes version c.in-Some.sizes) ++ cu_list units) ++ types_list units) ++ flat_map (piece_bytes numbers) c.args.pieces.now) in
    c.in_ok-put_symbols.ensures
    ∙ (λ i. (((front i ++ flat_map (numbered_bytes (places_of (c.deref-3.ensures.value i) vectors.distinct.items vectors.numbers.items)) (numbers_in_slots (names_of (c.deref-3.ensures.value i)))) ++ shortcut_of version (c.deref-3.ensures.value i) (places_of (c.deref-3.ensures.value i) vectors.distinct.items vectors.numbers.items) main) ++ flat_map vector_bytes (vectors_seen vectors.distinct.items)) ++ flat_map ended (names_of (c.deref-3.ensures.value i)))
    ∙ whole units c.args.pieces.now main entries version ready.writable numbers ready.numbers_are c.args.symbols.now ready.symbols_are vectors c.in_ok-vectors.ensures c.in-Some.sizes sizes

pub returns-clause-fits : goal.returns-clause-fits
returns-clause-fits c = λ entries ready.
    let units = c.args.units.now in
    let vectors = c.in_ok-vectors.vectors in
    let sizes = c.in-Some.ensures.sizes ∙ (λ i. sizes_of units c.args.pieces.now (pool_seen (c.deref.ensures.value i) (c.deref-2.ensures.value i))) in
    let whole_size = total_is units c.args.pieces.now (option_map main_seen c.args.main) entries c.args.version ready.writable c.args.numbers.now ready.numbers_are c.args.symbols.now ready.symbols_are vectors c.in_ok-vectors.ensures in
    let bytes = ap length (returns-clause-bytes c entries ready) in
    let own = ap (total c.args.version) sizes in
    omega (arith, c.in-Some.ensures.fits, whole_size, bytes, own)

pub returns-in_err-vectors : goal.returns-in_err-vectors
returns-in_err-vectors c = record {
  bytes = λ entries ready. IfOk-from_err c.from_residual.result _ c.from_residual.ensures.0;
  fits = λ entries ready. IfOk-from_err c.from_residual.result _ c.from_residual.ensures.0;
  too_large = λ entries ready large. absurd (not_too_large c.from_residual.result c.from_residual.ensures.1 large);
}

pub returns-in_err-out : goal.returns-in_err-out
returns-in_err-out c = record {
  bytes = λ entries ready. IfOk-from_err c.from_residual-in_err-out.result _ c.from_residual-in_err-out.ensures.0;
  fits = λ entries ready. IfOk-from_err c.from_residual-in_err-out.result _ c.from_residual-in_err-out.ensures.0;
  too_large = λ entries ready large. absurd (not_too_large c.from_residual-in_err-out.result c.from_residual-in_err-out.ensures.1 large);
}

pub returns-in_err-put_units : goal.returns-in_err-put_units
returns-in_err-put_units c = record {
  bytes = λ entries ready. IfOk-from_err c.from_residual-in_err-put_units.result _ c.from_residual-in_err-put_units.ensures.0;
  fits = λ entries ready. IfOk-from_err c.from_residual-in_err-put_units.result _ c.from_residual-in_err-put_units.ensures.0;
  too_large = λ entries ready large. absurd (not_too_large c.from_residual-in_err-put_units.result c.from_residual-in_err-put_units.ensures.1 large);
}

pub returns-in_err-put_symbols : goal.returns-in_err-put_symbols
returns-in_err-put_symbols c = record {
  bytes = λ entries ready. IfOk-from_err c.from_residual-in_err-put_symbols.result _ c.from_residual-in_err-put_symbols.ensures.0;
  fits = λ entries ready. IfOk-from_err c.from_residual-in_err-put_symbols.result _ c.from_residual-in_err-put_symbols.ensures.0;
  too_large = λ entries ready large. absurd (not_too_large c.from_residual-in_err-put_symbols.result c.from_residual-in_err-put_symbols.ensures.1 large);
}
