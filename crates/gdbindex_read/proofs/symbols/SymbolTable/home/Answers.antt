use Rattle.std.proofs.Common.{◌≡◌, ℕ, ◌%◌, List, [], Option, ap, sym, ◌∙◌}
use Rattle.std.specs.Prelude.{unwrap_or}
use Rattle.index_model.specs.Hashes.{gdb_hash}
use Rattle.gdbindex_read.specs.Areas.{item}
use Rattle.gdbindex_read.specs.Slots.{full_seen, name_in, table_of}
use Rattle.gdbindex_read.proofs.SlotsRead.{here_full, length-slots}
use Rattle.string_ends.specs.Tails.{print_of}
use Rattle.gdbindex_read.proofs.symbols.SymbolTable.home.Goals as goal

pub returns-in-Some-Some : goal.returns-in-Some-Some
returns-in-Some-Some c =
    let t = c.args.self.now in
    let s = c.in-Some-Some.field-0-0 in
    let there = here_full t c.args.place c.requires.place s (c.in-Some-Some.ensures) in
    let known = c.requires.name s c.in-Some-Some.name (sym c.in-Some-Some.ensures) c.in-Some-Some.is-1 in
    let name : name_in t.pool.now s.name ≡ known.text = ap (λ (o : Option (List ℕ)). unwrap_or o []) known.there in
    record {
      slot = full_seen t.pool.now (item 8 (table_of t) c.args.place).at s;
      there = there;
      begin = ap (λ (h : ℕ). h % c.len.result) (known.hash ∙ ap gdb_hash (sym name)) ∙ ap (λ (n : ℕ). gdb_hash (name_in t.pool.now s.name) % n) (c.len.ensures ∙ sym (length-slots t));
      print = known.print ∙ ap print_of (sym name);
    }
