use Rattle.std.proofs.Common.{List, subst}
use Rattle.std.specs.List.{AllZip}
use Rattle.index_model.specs.Program.{Walked}
use Rattle.index_model.specs.Sections.{Section}
use Rattle.gdb_items.specs.Items.{kept_of, IsItemOf}
use Rattle.gdb_items.proofs.unit.unit_items.Goals as goal

pub returns-clause-items : goal.returns-clause-items
returns-clause-items c p is w wc number =
    let which = c.args.which in
    let items = c.in_ok-items.items.items in
    let u = c.in_ok-unit.unit in
    let home = c.in_ok-unit.ensures.unit.home p is in
    subst (λ (ss : List Section). AllZip (IsItemOf ss) items (kept_of which w)) home.sections
    (subst (λ (v : Walked). AllZip (IsItemOf u.home.sections.now) items (kept_of which v)) (home.walk w wc number) c.in_ok-items.ensures)
