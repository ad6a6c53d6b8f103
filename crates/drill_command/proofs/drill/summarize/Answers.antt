use Rattle.std.proofs.Common.{◌≡◌, ℕ, List, Some, sym, ap, subst, ◌∙◌}
use Rattle.std.specs.Prelude.{option_map}
use Rattle.file_image.proofs.Images.{image_file}
use Rattle.file_image.specs.Images.{image_of}
use Rattle.index_board.specs.Boards.{IsImage}
use Rattle.index_model.specs.Parts.{Parts}
use Rattle.outside.specs.Counts.{Rose}
use Rattle.stage_core.specs.Outputs.{parts_seen}
use Rattle.command_base.specs.Replies.{Wrote}
use Rattle.command_base.proofs.BoardLaws.{fault_of}
use Rattle.drill_command.specs.Summaries.{CausesOfSummary, SaysSummary}
use Rattle.drill_command.proofs.DrillLaws.{built_parts, wrote_refusal}
use Rattle.drill_command.proofs.drill.summarize.Goals as goal

pub returns-in-Some-clause-wrote : goal.returns-in-Some-clause-wrote
returns-in-Some-clause-wrote g c =
    let r = c.args.reader.now in
    let there : (parts_seen c.parts.result.now).fault ≡ Some c.in-Some.fault = cc c.in-Some.is in
    let first = fault_of r c.parts.ensures.right c.in-Some.fault (sym (ap (λ (p : Parts). p.fault) c.parts.ensures.parts) ∙ there) in
    wrote_refusal r.board.subject.file c.in-Some.fault first c.refuse.result (g.K.Sink.written c.args.out.now) (g.K.Sink.written c.refuse.new.out) c.refuse.ensures.wrote

pub sum_up-requires : goal.sum_up-requires
sum_up-requires g c =
    let r = c.args.reader.now in
    let is = subst (λ o. IsImage (image_of r.board.subject.file) (option_map (λ i. i.now) o)) c.in-Some-image.is c.requires.image in
    (c.type_bounds.sync-R, built_parts r c.requires.kind c.in-Some-image.image.now is c.parts-in-Some-image.ensures.right (parts_seen c.parts-in-Some-image.result.now) c.parts-in-Some-image.ensures.parts)

pub returns-in-Some-image-clause-wrote : goal.returns-in-Some-image-clause-wrote
returns-in-Some-image-clause-wrote g c =
    let r = c.args.reader.now in
    let is = subst (λ o. IsImage (image_of r.board.subject.file) (option_map (λ i. i.now) o)) c.in-Some-image.is c.requires.image in
    subst (λ (f : List ℕ). Wrote (SaysSummary f) c.sum_up.result (g.K.Sink.written c.args.out.now) (g.K.Sink.written c.sum_up.new.out)) (image_file r.board.subject.file c.in-Some-image.image.now is) c.sum_up.ensures.wrote

pub returns-in-Some-image-clause-causes : goal.returns-in-Some-image-clause-causes
returns-in-Some-image-clause-causes g c =
    let r = c.args.reader.now in
    let is = subst (λ o. IsImage (image_of r.board.subject.file) (option_map (λ i. i.now) o)) c.in-Some-image.is c.requires.image in
    subst (λ (f : List ℕ). CausesOfSummary f (Rose (g.K.Sink.write_faults c.args.out.now) (g.K.Sink.write_faults c.sum_up.new.out)) c.sum_up.result) (image_file r.board.subject.file c.in-Some-image.image.now is) c.sum_up.ensures.causes
