use Rattle.std.proofs.Common.{◌++◌, List, Option, Ok, append_assoc, sym, ap, subst, ◌∙◌}
use Rattle.entry_scan.specs.Ahead.{GivesItem}
use Rattle.entry_scan.specs.declared.item.Item.{Item as Read}
use Rattle.index_model.specs.declared.shard.Import.{Import}
use Rattle.index_model.specs.Walk.{Item, Walk, items}
use Rattle.shard_build.specs.Again.{walk_by}
use Rattle.gdb_items.proofs.ImportLaws.{imports_from, import_next, all_imports}
use Rattle.gdb_items.proofs.imports.add_all.Goals as goal

pub loop-entry-init : goal.loop-entry-init
loop-entry-init c =
    let home = c.args.home.now in
    let w = walk_by home c.args.abbrevs.now in
    let old = c.args.imports.now.items in
    ap (λ (v : Walk). old ++ imports_from home.sections.now w (items v)) c.new-walk.ensures ∙
    ap (λ (is : List Import). old ++ is) (all_imports home.sections.now w)

pub loop-entry-preserved : goal.loop-entry-preserved
loop-entry-preserved c =
    let home = c.args.home.now in
    let ss = home.sections.now in
    let w = walk_by home c.args.abbrevs.now in
    let d = c.in-Ok-Some.entry in
    let next = items c.next.new.self in
    let was = c.loop-entry.imports.items in
    let gives = subst (λ (o : Option Read). GivesItem c.loop-entry.walk c.next.new.self (Ok o)) c.in-Ok-Some.field-0-is c.in-Ok-Some.ensures.value in
    ap (λ (is : List Import). is ++ imports_from ss w next) c.in_ok-add.ensures ∙
    append_assoc was _ (imports_from ss w next) ∙
    ap (λ (is : List Import). was ++ is) (import_next ss w d next) ∙
    ap (λ (ds : List Item). was ++ imports_from ss w ds) (sym gives.items) ∙
    c.loop-entry.invariant
