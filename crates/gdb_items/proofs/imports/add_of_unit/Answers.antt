use Rattle.std.proofs.Common.{◌++◌, List, ap, ◌∙◌}
use Rattle.index_model.specs.Program.{Walked}
use Rattle.index_model.specs.Sections.{Section}
use Rattle.index_model.specs.ShardParts.{imports_in}
use Rattle.shard_build.specs.Again.{walk_by}
use Rattle.gdb_items.proofs.imports.add_of_unit.Goals as goal

pub returns-clause-added : goal.returns-clause-added
returns-clause-added c p file w wc number =
    let u = c.in_ok-unit.unit in
    let home = c.in_ok-unit.ensures.unit.home p file in
    let old = c.args.imports.now.items in
    c.in_ok-add_all.ensures ∙
    ap (λ (ss : List Section). old ++ imports_in ss (walk_by u.home u.table.abbrevs)) home.sections ∙
    ap (λ (v : Walked). old ++ imports_in p.sections v) (home.walk w wc number)
