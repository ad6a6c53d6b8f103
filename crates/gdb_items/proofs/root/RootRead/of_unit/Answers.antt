use Rattle.std.proofs.Common.{sym, subst}
use Rattle.index_model.specs.Program.{Walked}
use Rattle.gdb_items.specs.Roots.{IsRootOf}
use Rattle.gdb_items.proofs.root.RootRead.of_unit.Goals as goal

pub returns-clause-root : goal.returns-clause-root
returns-clause-root c p file w wc number =
    let home = c.in_ok-unit.ensures.unit.home p file in
    subst (λ (v : Walked). IsRootOf p v c.of_first-root.result) (home.walk w wc number) (c.of_first-root.ensures p (sym home.sections))
