use Rattle.std.proofs.Common.{◌∙◌}
use Rattle.gdb_scopes.proofs.StaticLaws.{itself_told}
use Rattle.gdb_scopes.proofs.WalkLaws.{told_tag}
use Rattle.gdb_scopes.proofs.file.FilePlaces.is_static_itself.Goals as goal

pub returns-clause-value : goal.returns-clause-value
returns-clause-value c p is d own =
    let told = c.in_ok-chain.ensures.value p is d own in
    c.is_static.ensures ∙ itself_told p c.args.class d _ _ (told_tag p.sections d c.args.item.now own) told.external
