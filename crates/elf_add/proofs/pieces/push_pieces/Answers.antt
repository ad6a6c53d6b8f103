use Rattle.std.proofs.Common.{◌++◌, get_or, map, sym, ap, ◌∙◌}
use Rattle.std.proofs.lemmas.List.{at_drop_all}
use Rattle.reach_model.specs.Added.{with_pieces}
use Rattle.elf_add.specs.Pieces.{content_of}
use Rattle.elf_add.proofs.Steps.{blank, next_piece, no_piece}
use Rattle.elf_add.proofs.pieces.push_pieces.Goals as goal

pub loop-section-preserved : goal.loop-section-preserved
loop-section-preserved c =
    sym (next_piece c.args.sections.now c.loop-section.section-index c.loop-section-test.true c.loop-section.bytes.items _ (c.in_ok-extend_from_slice.ensures.items ∙ ap (λ xs. xs ++ content_of (get_or c.args.sections.now c.loop-section.section-index blank)) c.in_ok-pad.ensures)) ∙ c.loop-section.invariant

pub returns : goal.returns
returns c =
    let end = at_drop_all (λ xs. with_pieces c.loop-section.bytes.items (map content_of xs)) c.args.sections.now c.loop-section.section-index c.loop-section-test.false in
    sym (end ∙ no_piece c.loop-section.bytes.items) ∙ c.loop-section.invariant
