use Rattle.query_engine.proofs.CountLaws.{group_count}
use Rattle.query_engine.proofs.table.places_of.Goals as goal

pub returns-in-Some-clause-steps : goal.returns-in-Some-clause-steps
returns-in-Some-clause-steps g c = rw (← group_count c.args.entries.now c.args.names.now c.requires.names) c.find.ensures.steps

pub returns-in-None-clause-steps : goal.returns-in-None-clause-steps
returns-in-None-clause-steps g c = rw (← group_count c.args.entries.now c.args.names.now c.requires.names) c.find.ensures.steps
