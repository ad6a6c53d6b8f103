use Rattle.std.proofs.Common.{not, eqb, sym, ◌∙◌}
use Rattle.std.proofs.lemmas.Bool.{and_right}
use Rattle.index_model.specs.Attributes.{says_main}
use Rattle.index_model.specs.Languages.{language_of}
use Rattle.qualified_names.proofs.Mains.{language_here, told_said}
use Rattle.qualified_names.proofs.sought.is_said.Goals as goal

pub returns-then-not-entry-clause-value : goal.returns-then-not-entry-clause-value
returns-then-not-entry-clause-value c f p file are k h =
    sym (and_right (not (eqb (language_of p k.entry.home) 0)) (says_main k.entry.item) (sym h.links.main ∙ c.if-not-entry.true))

pub returns-clause-value : goal.returns-clause-value
returns-clause-value c f p file are k h =
    told_said p k c.of.result (language_here f p file c.args.languages.now are c.args.entry.now k h c.of.result c.of.ensures.value) (sym h.links.main ∙ c.if-not-entry.false)
