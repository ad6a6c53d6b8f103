use Rattle.std.proofs.Common.{◌≡◌, refl, arith}
use Rattle.std.specs.Fmt.{digits}
use Rattle.query_text.proofs.elements.kind_word.Goals as goal

pub returns-in-0-clause-word : goal.returns-in-0-clause-word
unfolding digits
returns-in-0-clause-word c = rw c.in-0.is refl

pub returns-in-5-clause-word : goal.returns-in-5-clause-word
unfolding digits
returns-in-5-clause-word c = rw c.in-5.is refl

pub returns-in-6-clause-word : goal.returns-in-6-clause-word
unfolding digits
returns-in-6-clause-word c = rw c.in-6.is refl

pub returns-in_default-clause-word : goal.returns-in_default-clause-word
unfolding digits
returns-in_default-clause-word c = let is : c.args.kind ≡ 7 = omega (arith, c.requires, c.in_default) in rw is refl
