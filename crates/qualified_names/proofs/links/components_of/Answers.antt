use Rattle.std.proofs.Common.{sym, subst}
use Rattle.index_model.specs.Gives.{Stop}
use Rattle.index_model.specs.Chains.{chain_end}
use Rattle.index_model.specs.Gives.{StopsAs}
use Rattle.index_model.specs.Meaning.{at_place}
use Rattle.index_model.specs.Names.{scope_path}
use Rattle.qualified_names.proofs.LinkLaws.{is_around_end, no_fault, parts}
use Rattle.qualified_names.proofs.links.components_of.Goals as goal

pub unreachable-requires : goal.unreachable-requires
unreachable-requires c =
    let r = c.requires in
    let x = c.args.entry.now in
    let end = chain_end r.link.entry r.link.chain in
    let around = is_around_end r.program x r.link r.is in
    let meaning = scope_path r.program end in
    let stops = subst (λ (s : Stop). StopsAs s (at_place x.offset meaning)) c.in-Err-Cause.field-0-is (c.in-Err-Cause.ensures.value r.program r.file end around.there (sym around.is)) in
    no_fault c.in-Err-Cause.field-0-0 x.offset meaning r.link.path (parts r.program x r.link r.is).path stops
