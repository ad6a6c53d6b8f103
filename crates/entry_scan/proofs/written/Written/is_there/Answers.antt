use Rattle.entry_scan.proofs.JumpLaws.{there}
use Rattle.entry_scan.proofs.written.Written.is_there.Goals as goal

pub returns-in-Some : goal.returns-in-Some
returns-in-Some c = λ yes. let me = c.args.self.now in there me.specs.now me.format c.args.number c.in-Some.field-0 me.cursor c.requires.read c.in-Some.ensures
