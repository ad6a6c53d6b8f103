use Rattle.std.proofs.Common.{List, subst}
use Rattle.index_model.specs.Sections.{Section}
use Rattle.gdb_texts.specs.Spelled.{AllAreSpelled}
use Rattle.gdb_texts.proofs.SpelledLaws.{found}
use Rattle.gdb_texts.proofs.kept.SpelledTexts.kept.Goals as goal

pub returns-in-Cxx-Some : goal.returns-in-Cxx-Some
returns-in-Cxx-Some c =
    let known = c.self.inside.names in
    let all = subst (λ (ss : List Section). AllAreSpelled ss known) c.self.view_is c.self.invariant in
    found c.args.self.now known all c.args.class c.in-Cxx-Some.is-0 c.args.place c.in-Cxx-Some.place c.in-Cxx-Some.is-1 c.get.result c.get.ensures.value
