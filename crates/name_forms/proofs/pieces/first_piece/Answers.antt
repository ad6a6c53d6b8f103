use Rattle.std.proofs.Common.{List, ℕ, ◌+◌, ◌∷◌, take, ap, sym, ◌∙◌}
use Rattle.std.proofs.lemmas.List.{take_rest}
use Rattle.index_model.specs.AdaNames.{pieces}
use Rattle.name_forms.proofs.CutLaws.{found_none, found_some}
use Rattle.name_forms.proofs.pieces.first_piece.Goals as goal

pub returns-in-Some : goal.returns-in-Some
returns-in-Some c =
    let name = c.args.name.now in
    let at = c.in-Some.at in
    found_some name at c.in-Some.ensures ∙ ap (λ (r : List ℕ). take at name ∷ pieces r) (sym (take_rest name (at + 2)))

pub returns-in-None : goal.returns-in-None
returns-in-None c = found_none c.args.name.now c.in-None.ensures
