use Rattle.std.proofs.Common.{◌≡◌, ℕ, List, Option, sym, ap, subst, ◌∙◌}
use Rattle.std.specs.Prelude.{option_map}
use Rattle.index_forms.specs.Forms.{version_number}
use Rattle.index_model.specs.declared.answer.Main.{Main}
use Rattle.index_model.specs.declared.entry.Entry.{Entry}
use Rattle.index_model.specs.declared.unit.Unit.{Unit as UnitHeader}
use Rattle.index_model.specs.Seen.{main_seen}
use Rattle.gdbindex_write.specs.Writable.{IsWritable}
use Rattle.gdb_index.specs.Indexes.{main_listed}
use Rattle.gdb_index.proofs.IndexLaws.{writable}
use Rattle.gdb_index.proofs.index.listed_index.Goals as goal

pub write-requires : goal.write-requires
write-requires g c =
    let image = c.args.image.now in
    let map = c.args.map.now in
    let table = c.in_ok-table.table in
    let program = c.requires.program in
    let units = c.units-units.ensures in
    let named : option_map main_seen c.main_listed-main.result ≡ main_listed table c.args.main.now = c.main_listed-main.ensures ∙ ap (λ (es : List Entry). main_listed es c.args.main.now) c.entries.ensures.all in
    let own = writable image units.of_file program.0 program.1 map c.args.main.now table c.args.version c.requires.units c.requires.pieces (c.in_ok-table.ensures program.0 program.1) in
    subst (λ (us : List UnitHeader). IsWritable us map (option_map main_seen c.main_listed-main.result) table c.number.result) (sym units.value)
    (subst (λ (n : ℕ). IsWritable image.units map (option_map main_seen c.main_listed-main.result) table n) (sym c.number.ensures)
    (subst (λ (o : Option Main). IsWritable image.units map o table (version_number c.args.version)) (sym named) own))
