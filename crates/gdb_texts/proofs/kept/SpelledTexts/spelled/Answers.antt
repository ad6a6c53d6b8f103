use Rattle.std.proofs.Common.{Option, subst}
use Rattle.std.specs.Borrow.{Bor}
use Rattle.std.specs.Prelude.{IfSome}
use Rattle.gdb_names.specs.declared.both.BothNames.{BothNames}
use Rattle.gdb_texts.specs.Spelled.{IsKeptFor}
use Rattle.gdb_texts.proofs.SpelledLaws.{spelled_there}
use Rattle.gdb_texts.proofs.kept.SpelledTexts.spelled.Goals as goal

pub returns-in-Some : goal.returns-in-Some
returns-in-Some c stands =
    let ss = c.args.self.now in
    let kept = subst (λ (o : Option (Bor BothNames)). IfSome o (λ names. IsKeptFor ss c.args.class c.args.place names.now)) c.in-Some.is c.kept.ensures in
    spelled_there ss c.args.class c.args.place c.in-Some.names.now kept c.args.name.now stands
