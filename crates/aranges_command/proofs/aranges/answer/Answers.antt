use Rattle.std.proofs.Common.{◌≡◌, ℕ, List, Some, sym, ap, subst, ◌∙◌}
use Rattle.std.specs.Arc.{arc_value}
use Rattle.std.specs.Prelude.{option_map}
use Rattle.file_image.proofs.Images.{image_file}
use Rattle.file_image.specs.Images.{image_of}
use Rattle.index_board.specs.Boards.{IsImage}
use Rattle.index_model.specs.Parts.{Parts}
use Rattle.outside.specs.Counts.{Rose}
use Rattle.stage_core.specs.Outputs.{parts_seen, summary_seen}
use Rattle.command_base.specs.Replies.{Wrote}
use Rattle.command_base.proofs.BoardLaws.{fault_of}
use Rattle.command_base.proofs.TableLaws.{causes_of_reply}
use Rattle.aranges_command.specs.Comparisons.{SaysAranges}
use Rattle.aranges_command.proofs.ComparisonLaws.{kept_map, map_of_own, of_own_file, wrote_refusal}
use Rattle.aranges_command.proofs.aranges.answer.Goals as goal

pub returns-in-Some-clause-wrote : goal.returns-in-Some-clause-wrote
returns-in-Some-clause-wrote g c =
    let r = c.args.reader.now in
    let there : (parts_seen c.parts-parts.result.now).fault ≡ Some c.in-Some.fault = cc c.in-Some.is in
    let first = fault_of r c.parts-parts.ensures.right c.in-Some.fault (sym (ap (λ (p : Parts). p.fault) c.parts-parts.ensures.parts) ∙ there) in
    wrote_refusal r.board.subject.file c.in-Some.fault first c.refuse.result (g.K.Sink.written c.args.out.now) (g.K.Sink.written c.refuse.new.out) c.refuse.ensures.wrote

pub returns-in-Some-clause-causes : goal.returns-in-Some-clause-causes
returns-in-Some-clause-causes g c = causes_of_reply (Rose (g.K.Sink.write_faults c.args.out.now) (g.K.Sink.write_faults c.refuse.new.out)) c.refuse.result c.refuse.ensures.causes

pub compare_table-requires-clause-image : goal.compare_table-requires-clause-image
compare_table-requires-clause-image g c =
    let r = c.args.reader.now in
    let is = subst (λ o. IsImage (image_of r.board.subject.file) (option_map (λ i. i.now) o)) c.in-Some-Some.is-0 c.requires.image in
    of_own_file r.board.subject.file c.in-Some-Some.image.now is

pub compare_table-requires-clause-map : goal.compare_table-requires-clause-map
compare_table-requires-clause-map g c =
    let r = c.args.reader.now in
    let is = subst (λ o. IsImage (image_of r.board.subject.file) (option_map (λ i. i.now) o)) c.in-Some-Some.is-0 c.requires.image in
    let kept = sym (ap (λ (p : Parts). p.summary) c.parts-parts.ensures.parts) ∙ ap (option_map (λ m. summary_seen (arc_value m))) c.in-Some-Some.is-1 in
    map_of_own r.board.subject.file c.in-Some-Some.image.now is c.deref.result.now.map (kept_map r c.parts-parts.ensures.right (summary_seen c.deref.result.now) (kept ∙ ap (λ m. Some (summary_seen m)) (sym c.deref.ensures)))

pub returns-in-Some-Some-clause-wrote : goal.returns-in-Some-Some-clause-wrote
returns-in-Some-Some-clause-wrote g c =
    let r = c.args.reader.now in
    let is = subst (λ o. IsImage (image_of r.board.subject.file) (option_map (λ i. i.now) o)) c.in-Some-Some.is-0 c.requires.image in
    subst (λ (f : List ℕ). Wrote (SaysAranges f) c.compare_table.result (g.K.Sink.written c.args.out.now) (g.K.Sink.written c.compare_table.new.out)) (image_file r.board.subject.file c.in-Some-Some.image.now is) c.compare_table.ensures.wrote
