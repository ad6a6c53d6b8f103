use Rattle.std.proofs.Common.{◌≡◌, ℕ, ◌<◌, List, length, Err, sym, ap, ◌∙◌, subst, arith}
use Rattle.std.specs.Prelude.{option_map, All, IfOk}
use Rattle.index_model.specs.GdbIndex.{gdb_index_bytes}
use Rattle.index_model.specs.Seen.{main_seen}
use Rattle.index_model.specs.declared.entry.Entry.{Entry}
use Rattle.index_model.specs.declared.range.UnitRange.{UnitRange}
use Rattle.index_model.specs.WriteStops.{too_large}
use Rattle.gdbindex_write.specs.Prepared.{IsPrepared}
use Rattle.gdbindex_write.specs.Symbols.{AreSymbolsOf}
use Rattle.gdbindex_write.proofs.PoolLaws.{all_in_units, numbers_length}
use Rattle.gdbindex_write.proofs.index.write.Goals as goal

pub of-requires-clause-units : goal.of-requires-clause-units
of-requires-clause-units c =
    let units = c.args.units.now in
    let numbers = c.in_ok-numbers.numbers.items in
    let all = all_in_units units numbers c.args.table.now (numbers_length units numbers c.in_ok-numbers.ensures.exact) c.requires.entries_are in
    subst (λ (ns : List ℕ). All (λ (e : Entry). e.unit < length ns) c.args.table.now) (sym c.deref.ensures.value) all

pub index_bytes-requires-clause-pieces : goal.index_bytes-requires-clause-pieces
index_bytes-requires-clause-pieces c =
    let size = ap length c.deref-2.ensures.value ∙ numbers_length c.args.units.now c.in_ok-numbers.numbers.items c.in_ok-numbers.ensures.exact in
    let all = subst (λ (ps : List UnitRange). All (λ (p : UnitRange). p.unit < length c.args.units.now) ps) (sym c.pieces.ensures) c.requires.pieces_are in
    λ k d lt. omega (arith, all k d lt, size)

pub index_bytes-requires-clause-symbols : goal.index_bytes-requires-clause-symbols
index_bytes-requires-clause-symbols c = c.in_ok-symbols.ensures.within

pub returns : goal.returns
returns c =
    let main = option_map main_seen c.args.main in
    let version = c.args.version in
    let prepared : IsPrepared c.args.units.now c.args.map.now main version c.in_ok-numbers.numbers.items c.in_ok-symbols.symbols c.args.table.now = record {
      writable = c.requires;
      numbers_are = c.in_ok-numbers.ensures.exact;
      symbols_are = subst (λ (ns : List ℕ). AreSymbolsOf ns c.args.table.now c.in_ok-symbols.symbols) c.deref.ensures.value c.in_ok-symbols.ensures;
    } in
    let with_pieces = subst (λ (ps : List UnitRange). IsPrepared c.args.units.now ps main version c.in_ok-numbers.numbers.items c.in_ok-symbols.symbols c.args.table.now) (sym c.pieces.ensures) prepared in
    let passed = subst (λ (ns : List ℕ). IsPrepared c.args.units.now c.pieces.result.now main version ns c.in_ok-symbols.symbols c.args.table.now) (sym c.deref-2.ensures.value) with_pieces in
    let written = c.index_bytes.ensures in
    record {
      bytes = subst (λ (ps : List UnitRange). IfOk c.index_bytes.result (λ v. v.items ≡ gdb_index_bytes c.args.units.now ps main c.args.table.now version)) c.pieces.ensures (written.bytes c.args.table.now passed);
      fits = written.fits c.args.table.now passed;
      too_large = subst (λ (ps : List UnitRange). c.index_bytes.result ≡ Err too_large → 4294967295 < length (gdb_index_bytes c.args.units.now ps main c.args.table.now version)) c.pieces.ensures (written.too_large c.args.table.now passed);
    }
