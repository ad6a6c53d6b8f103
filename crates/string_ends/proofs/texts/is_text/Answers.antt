use Rattle.std.proofs.Common.{List, ℕ, arith, ap, ◌∙◌, sym}
use Rattle.std.specs.Prelude.{bytes_eq}
use Rattle.string_ends.proofs.TextLaws.{front_is, front_isnt, no_front}
use Rattle.string_ends.proofs.texts.is_text.Goals as goal

pub returns-in-Some-clause-text : goal.returns-in-Some-clause-text
returns-in-Some-clause-text c = λ text e. c.eq.ensures ∙ ap (λ (s : List ℕ). bytes_eq s c.args.name.now) (front_is c.min-most.result c.args.rest.now text c.in-Some.text.now e (sym c.in-Some.ensures))

pub returns-in-None-clause-text : goal.returns-in-None-clause-text
returns-in-None-clause-text c = λ text e. sym (front_isnt c.min-most.result c.args.rest.now text c.args.name.now (omega (arith, c.min-most.ensures)) e (sym c.in-None.ensures))

pub returns-in-Some-clause-none : goal.returns-in-Some-clause-none
returns-in-Some-clause-none c = λ e. absurd (no_front c.min-most.result c.args.rest.now c.in-Some.text.now e (sym c.in-Some.ensures))
