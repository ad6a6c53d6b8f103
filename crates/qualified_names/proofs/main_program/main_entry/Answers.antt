use Rattle.std.proofs.Common.{find, Some, sym, subst}
use Rattle.index_model.specs.Shards.{AreShardsOf}
use Rattle.qualified_names.specs.declared.sought.MainBy.TheVariants.{Said, Named}
use Rattle.qualified_names.specs.Sought.{is_main_by, IsFound}
use Rattle.qualified_names.proofs.Mains.{either_way, found_or, none_or}
use Rattle.qualified_names.proofs.main_program.main_entry.Goals as goal

pub returns-in-Some-clause-value : goal.returns-in-Some-clause-value
returns-in-Some-clause-value c f p file are ks z =
    subst (IsFound p (Some c.in-Some.found)) (sym (either_way p ks)) (found_or p c.in-Some.found (find (is_main_by p Said) ks) (find (is_main_by p Named) ks) (c.in-Some.ensures.value f p file are ks z))

pub returns-in-None-clause-value : goal.returns-in-None-clause-value
returns-in-None-clause-value c f p file are ks z =
    let shards = subst (AreShardsOf p) (sym c.in-None.ensures.kept) are in
    subst (IsFound p _) (sym (either_way p ks)) (none_or p (find (is_main_by p Said) ks) (c.in-None.ensures.value f p file are ks z) _ (find (is_main_by p Named) ks) (c.first_main-in-None.ensures.value f p file shards ks z))
