use Rattle.common_laws.proofs.Appended.{no_part, more_parts}
use Rattle.debugnames_write.proofs.PoolLaws.{name_bytes, pool_pushed}
use Rattle.debugnames_write.proofs.pool.push_pool.Goals as goal

pub push_group-requires : goal.push_group-requires
push_group-requires c = c.requires c.loop-name.name-index _ c.loop-name-test.true

pub loop-name-init : goal.loop-name-init
loop-name-init c = no_part (name_bytes c.args.abbreviations.now) c.args.names.now c.args.out.now.items

pub loop-name-preserved : goal.loop-name-preserved
loop-name-preserved c = more_parts (name_bytes c.args.abbreviations.now) c.args.names.now c.loop-name.name-index _ c.args.out.now.items c.loop-name-test.true c.loop-name.invariant c.in_ok-push_group.ensures

pub returns : goal.returns
returns c = pool_pushed c.args.abbreviations.now c.args.names.now c.loop-name.name-index c.args.out.now.items c.loop-name.out.items c.loop-name-test.false c.loop-name.invariant
