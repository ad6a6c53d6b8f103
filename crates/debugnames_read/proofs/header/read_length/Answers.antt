use Rattle.std.proofs.Common.{◌≡◌, length, ap, sym, ◌∙◌}
use Rattle.ix_base.specs.Reading.{Length}
use Rattle.index_model.specs.declared.index_code.TheConstants.{NAMES_LENGTH}
use Rattle.index_model.specs.Meaning.{fault}
use Rattle.debugnames_read.proofs.Headers.{length_cut, length_right, length_wrong}
use Rattle.debugnames_read.proofs.header.read_length.Goals as goal

pub returns-in_default-clause-value : goal.returns-in_default-clause-value
returns-in_default-clause-value c =
    let wrong : c.fault-wrong.result ≡ fault NAMES_LENGTH c.args.cursor.now.at = c.fault-wrong.ensures ∙ ap (fault NAMES_LENGTH) c.at.ensures in
    rw wrong (length_cut c.args.cursor.now c.in_default.ensures.value.0)

pub returns-then-initial-rest-clause-value : goal.returns-then-initial-rest-clause-value
returns-then-initial-rest-clause-value c =
    let wrong : c.fault-wrong.result ≡ fault NAMES_LENGTH c.args.cursor.now.at = c.fault-wrong.ensures ∙ ap (fault NAMES_LENGTH) c.at.ensures in
    let l : Length = record { length = c.in-Some.initial.length; wide = c.in-Some.initial.wide } in
    rw wrong (length_wrong c.args.cursor.now l c.initial_length.new.self c.in-Some.ensures.value c.initial_length.ensures.place.end (λ e. c.if-initial-rest.true (e ∙ ap length (sym c.rest.ensures))))

pub returns-clause-value : goal.returns-clause-value
returns-clause-value c =
    let l : Length = record { length = c.in-Some.initial.length; wide = c.in-Some.initial.wide } in
    length_right c.args.cursor.now l c.initial_length.new.self c.in-Some.ensures.value c.initial_length.ensures.place.end (c.if-initial-rest.false ∙ ap length c.rest.ensures)
