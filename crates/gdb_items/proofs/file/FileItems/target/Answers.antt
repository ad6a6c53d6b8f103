use Rattle.std.proofs.Common.{ℕ, Option, None, sym, ap, subst, ◌∙◌}
use Rattle.std.specs.Prelude.{IfOk, option_and_then}
use Rattle.index_model.specs.Program.{Located, item_with_offset}
use Rattle.gdb_items.specs.Files.{IsItemIn}
use Rattle.gdb_items.proofs.ChainLaws.{next_is}
use Rattle.gdb_items.proofs.file.FileItems.target.Goals as goal

pub returns-in-Some-clause-value : goal.returns-in-Some-clause-value
returns-in-Some-clause-value c p is d h =
    let next = next_is p c.args.item.now d h ∙ ap (λ (o : Option ℕ). option_and_then (item_with_offset p) o) c.in-Some.is in
    subst (λ (e : Option Located). IfOk c.at.result (λ i. IsItemIn p.sections i e)) (sym next) (c.at.ensures.value p is)

pub returns-in-None-clause-value : goal.returns-in-None-clause-value
returns-in-None-clause-value c p is d h =
    let next = next_is p c.args.item.now d h ∙ ap (λ (o : Option ℕ). option_and_then (item_with_offset p) o) c.in-None.is in
    subst (IsItemIn p.sections None) (sym next) tt
