use Rattle.std.proofs.Common.{sym, ◌∙◌}
use Rattle.debugnames_write.proofs.PoolLaws.{sized}
use Rattle.debugnames_write.proofs.pool.size_at.Goals as goal

pub returns : goal.returns
returns c = c.group_size.ensures ∙ sym (sized c.args.abbreviations.now c.args.names.now c.args.index _ c.requires.index)
