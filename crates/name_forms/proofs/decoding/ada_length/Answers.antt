use Rattle.std.proofs.Common.{length, sym, ap, ◌∙◌}
use Rattle.name_forms.proofs.StayLaws.{decoded_is, decoded_not, stays}
use Rattle.name_forms.proofs.decoding.ada_length.Goals as goal

pub returns-in-Some : goal.returns-in-Some
returns-in-Some c =
    let name = c.args.name.now in
    let value = c.pointed_length.ensures ∙ sym (ap length (decoded_is name c.in-Some.short.now c.in-Some.ensures.0 c.in-Some.ensures.1)) in
    record { value = value; stays = λ same. stays name (sym value ∙ same) }

pub returns-in-None : goal.returns-in-None
returns-in-None c =
    let name = c.args.name.now in
    let is = decoded_not name c.in-None.ensures in
    record { value = sym (ap length is); stays = λ same. is }
