use Rattle.std.proofs.Common.{◌≡◌, Option, Ok, option_map, sym, ap, subst, ◌∙◌}
use Rattle.std.specs.Prelude.{IfOk}
use Rattle.std.proofs.lemmas.Bool.{eq-eqb, ne_eqb}
use Rattle.file_image.specs.Images.{Image}
use Rattle.index_model.specs.Faults.{program_of}
use Rattle.index_model.specs.Program.{Located}
use Rattle.gdb_scopes.specs.Places.{offset_of}
use Rattle.gdb_scopes.proofs.ScopeLaws.{item_there, scope_itself, scope_of_subprogram, told_there}
use Rattle.gdb_scopes.proofs.WalkLaws.{told_tag}
use Rattle.gdb_scopes.proofs.file.FilePlaces.scope.Goals as goal

pub returns-then-item-eq-DW_TAG_entry_point-clause-value : goal.returns-then-item-eq-DW_TAG_entry_point-clause-value
returns-then-item-eq-DW_TAG_entry_point-clause-value c p is d here =
    let f = c.args.self.now.file in
    let o = c.args.offset in
    let own = item_there p.sections c.in_ok-item.field-0 c.in-Some.item _ d c.in-Some.is here (c.in_ok-item.ensures.value p is) in
    let after : program_of c.at.new.self.file ≡ Ok p = ap (λ (x : Image). program_of x.file) c.at.ensures.kept ∙ is in
    let at = told_there f p is o d here c.in-Some.item own in
    let on = eq-eqb d.item.tag 3 (sym (told_tag p.sections d c.in-Some.item own) ∙ c.if-item-eq-DW_TAG_entry_point.true) in
    subst (λ (q : Option Located). IfOk c.scope_of_entry_point.result (λ s. s ≡ option_map offset_of q)) (sym (scope_of_subprogram p d on)) (c.scope_of_entry_point.ensures.value p after d at own)

pub returns-else-item-eq-DW_TAG_entry_point-clause-value : goal.returns-else-item-eq-DW_TAG_entry_point-clause-value
returns-else-item-eq-DW_TAG_entry_point-clause-value c p is d here =
    let f = c.args.self.now.file in
    let o = c.args.offset in
    let own = item_there p.sections c.in_ok-item.field-0 c.in-Some.item _ d c.in-Some.is here (c.in_ok-item.ensures.value p is) in
    let after : program_of c.at.new.self.file ≡ Ok p = ap (λ (x : Image). program_of x.file) c.at.ensures.kept ∙ is in
    let at = told_there f p is o d here c.in-Some.item own in
    let off = ne_eqb d.item.tag 3 (λ e. c.if-item-eq-DW_TAG_entry_point.false (told_tag p.sections d c.in-Some.item own ∙ e)) in
    subst (λ (q : Option Located). IfOk c.scope_in_place.result (λ s. s ≡ option_map offset_of q)) (sym (scope_itself p d off)) (c.scope_in_place.ensures.value p after d at own)
