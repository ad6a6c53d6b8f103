use Rattle.std.proofs.lemmas.Bool.{eqb-true}
use Rattle.entry_scan.proofs.JumpLaws.{flagged}
use Rattle.entry_scan.proofs.written.Written.is_present.Goals as goal

pub returns : goal.returns
returns c = λ yes. let me = c.args.self.now in flagged me.specs.now me.format c.args.number c.in-Some.jump me.cursor c.requires.read c.in-Some.ensures (eqb-true _ 25 yes)
