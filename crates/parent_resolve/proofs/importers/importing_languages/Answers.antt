use Rattle.std.proofs.Common.{sym, ◌∙◌}
use Rattle.std.proofs.lemmas.Bool.{false≢true}
use Rattle.parent_resolve.specs.Importers.{any_takes_in}
use Rattle.parent_resolve.proofs.ImporterLaws.{any_shared}
use Rattle.parent_resolve.proofs.importers.importing_languages.Goals as goal

pub returns-else-any_takes : goal.returns-else-any_takes
returns-else-any_takes c some = absurd (false≢true (sym c.if-any_takes.false ∙ c.any_takes.ensures ∙ sym (any_shared any_takes_in c.args.shards.now) ∙ some))
