use Rattle.std.proofs.Common.{ℕ, List, sym, ap, subst, ◌∙◌}
use Rattle.std.specs.Prelude.{option_map}
use Rattle.index_forms.specs.declared.form.IndexForm.{IndexForm}
use Rattle.stage_core.specs.Outputs.{cache_seen}
use Rattle.store_commands.specs.Programs.{IsIndexOf}
use Rattle.store_commands.proofs.KindLaws.{as_program}
use Rattle.store_commands.proofs.StoreLaws.{index_of}
use Rattle.store_commands.proofs.add.store_kept.Goals as goal

pub store-requires-clause-index : goal.store-requires-clause-index
store-requires-clause-index g c =
    let r = c.args.reader.now in
    let kept = cache_seen c.in-Some.cache.now in
    let is = index_of r c.cache.ensures.right kept (sym c.cache.ensures.value ∙ ap (option_map (λ a. cache_seen a.now)) c.in-Some.is) in
    subst (λ (f : List ℕ). IsIndexOf f c.args.form kept) c.requires.file
    (subst (λ (form : IndexForm). IsIndexOf r.board.subject.file form kept) (sym c.requires.form) (as_program is))
