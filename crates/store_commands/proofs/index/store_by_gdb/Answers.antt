use Rattle.outside.specs.Counts.{Rose}
use Rattle.index_forms.specs.declared.form.IndexForm.TheVariants.{ByGdb}
use Rattle.stage_core.specs.Outputs.{cache_seen}
use Rattle.store_commands.proofs.StoreLaws.{made_of, store_causes, store_leaves}
use Rattle.store_commands.proofs.index.store_by_gdb.Goals as goal

pub returns-in-Some : goal.returns-in-Some
returns-in-Some g c =
    let s = c.args.reader.now.board.subject in
    let form = ByGdb c.args.version in
    let made = cache_seen c.in-Some.cache in
    let stores = Rose (g.F.Shelf.store_faults c.args.shelf.now) (g.F.Shelf.store_faults c.store.new.shelf) in
    let is = made_of s.file form made c.in-Some.ensures in
    record {
      causes = store_causes s.file form stores made is c.store.result c.store.ensures.causes;
      leaves = store_leaves s.file form stores made is (g.F.Shelf.files c.args.shelf.now) (g.F.Shelf.files c.store.new.shelf) c.args.name.now c.store.result c.store.ensures.causes c.store.ensures.leaves;
    }
