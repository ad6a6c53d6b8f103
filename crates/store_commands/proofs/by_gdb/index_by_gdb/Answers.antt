use Rattle.std.proofs.Common.{◌≡◌, ℕ, List, Some, sym, ap, subst, ◌∙◌}
use Rattle.std.specs.Arc.{arc_value}
use Rattle.std.specs.Prelude.{option_map, IfSome, IsOkAnd}
use Rattle.file_image.proofs.Images.{image_file}
use Rattle.file_image.specs.Images.{image_of}
use Rattle.gdb_index.specs.Indexes.{index_in}
use Rattle.index_board.specs.Boards.{IsImage}
use Rattle.index_forms.specs.declared.form.IndexForm.TheVariants.{ByGdb}
use Rattle.index_model.specs.Faults.{built_of}
use Rattle.index_model.specs.Parts.{Parts}
use Rattle.stage_core.specs.Outputs.{cache_seen, summary_seen}
use Rattle.store_commands.proofs.ByGdbLaws.{summary_of}
use Rattle.store_commands.proofs.by_gdb.index_by_gdb.Goals as goal

pub index_of_summary-requires-after_bounds : goal.index_of_summary-requires-after_bounds
index_of_summary-requires-after_bounds g c κs within =
    let r = c.args.reader.now in
    let is = subst (λ o. IsImage (image_of r.board.subject.file) (option_map (λ i. i.now) o)) c.in-Some-Some.is-0 c.requires in
    let kept = sym (ap (λ (p : Parts). p.summary) c.parts-parts.ensures.parts) ∙ ap (option_map (λ m. summary_seen (arc_value m))) c.in-Some-Some.is-1 in
    summary_of r c.in-Some-Some.image.now (summary_seen c.deref.result.now) is c.parts-parts.ensures.right (kept ∙ ap (λ m. Some (summary_seen m)) (sym c.deref.ensures))

pub returns-in-Some-Some : goal.returns-in-Some-Some
returns-in-Some-Some g c =
    let r = c.args.reader.now in
    let is = subst (λ o. IsImage (image_of r.board.subject.file) (option_map (λ i. i.now) o)) c.in-Some-Some.is-0 c.requires in
    subst (λ (f : List ℕ). IfSome c.index_of_summary.result (λ cache. IsOkAnd (built_of f) (λ b. cache_seen cache ≡ index_in (ByGdb c.args.version) b))) (image_file r.board.subject.file c.in-Some-Some.image.now is) c.index_of_summary.ensures
