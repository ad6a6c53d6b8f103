use Rattle.std.proofs.Common.{sym, ap, ◌∙◌}
use Rattle.std.specs.Prelude.{option_map}
use Rattle.outside.specs.Counts.{Rose}
use Rattle.index_forms.specs.declared.form.IndexForm.TheVariants.{ByDwarf}
use Rattle.stage_core.specs.Outputs.{cache_seen}
use Rattle.store_commands.proofs.StoreLaws.{index_of, store_causes, store_leaves}
use Rattle.store_commands.proofs.index.store_kept.Goals as goal

pub returns-in-Some : goal.returns-in-Some
returns-in-Some g c =
    let r = c.args.reader.now in
    let s = r.board.subject in
    let kept = cache_seen c.in-Some.cache.now in
    let stores = Rose (g.F.Shelf.store_faults c.args.shelf.now) (g.F.Shelf.store_faults c.store.new.shelf) in
    let is = index_of r c.cache.ensures.right kept (sym c.cache.ensures.value ∙ ap (option_map (λ a. cache_seen a.now)) c.in-Some.is) in
    record {
      causes = store_causes s.file (ByDwarf s.cache) stores kept is c.store.result c.store.ensures.causes;
      leaves = store_leaves s.file (ByDwarf s.cache) stores kept is (g.F.Shelf.files c.args.shelf.now) (g.F.Shelf.files c.store.new.shelf) c.args.name.now c.store.result c.store.ensures.causes c.store.ensures.leaves;
    }
