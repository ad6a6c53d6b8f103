use Rattle.std.proofs.Common.{◌≡◌, ℕ, Option, Ok, option_map, sym, ap, subst, ◌∙◌}
use Rattle.std.specs.Prelude.{IfOk, option_and_then}
use Rattle.file_image.specs.Images.{Image}
use Rattle.index_model.specs.Faults.{program_of}
use Rattle.index_model.specs.Program.{Located}
use Rattle.gdb_entries.specs.Scopes.{scope_in_place}
use Rattle.gdb_scopes.specs.Places.{offset_of, IsAt}
use Rattle.gdb_scopes.proofs.AroundLaws.{scope_there}
use Rattle.gdb_scopes.proofs.ScopeLaws.{item_there, not_missing, one_around, told_there}
use Rattle.gdb_scopes.proofs.file.FilePlaces.scope_of_entry_point.Goals as goal

pub returns-in-Some-2-clause-value : goal.returns-in-Some-2-clause-value
returns-in-Some-2-clause-value c p is d here own =
    let f = c.args.self.now.file in
    let o = c.args.item.now.offset in
    let told = sym c.in-Some.is ∙ c.in_ok-around.ensures.value p is d here own in
    let e = one_around (scope_in_place p d) c.in-Some.around told in
    let there : IsAt p c.in-Some.around e.0 = subst (λ (n : ℕ). IsAt p n e.0) e.2 (scope_there f p is o d e.0 here e.1) in
    let after : program_of c.scope_in_place.new.self.file ≡ Ok p = ap (λ (x : Image). program_of x.file) c.scope_in_place.ensures.kept ∙ is in
    let its = item_there p.sections c.in_ok-subprogram.field-0 c.in-Some-2.subprogram _ e.0 c.in-Some-2.is there (c.in_ok-subprogram.ensures.value p after) in
    let last : program_of c.at.new.self.file ≡ Ok p = ap (λ (x : Image). program_of x.file) c.at.ensures.kept ∙ after in
    let at = told_there f p is c.in-Some.around e.0 there c.in-Some-2.subprogram its in
    subst (λ (q : Option Located). IfOk c.scope_in_place-in-Some-2.result (λ s. s ≡ option_map offset_of (option_and_then (scope_in_place p) q))) (sym e.1)
    (c.scope_in_place-in-Some-2.ensures.value p last e.0 at its)

pub returns-in-None-clause-value : goal.returns-in-None-clause-value
returns-in-None-clause-value c p is d here own =
    let f = c.args.self.now.file in
    let o = c.args.item.now.offset in
    let told = sym c.in-Some.is ∙ c.in_ok-around.ensures.value p is d here own in
    let e = one_around (scope_in_place p d) c.in-Some.around told in
    let there : IsAt p c.in-Some.around e.0 = subst (λ (n : ℕ). IsAt p n e.0) e.2 (scope_there f p is o d e.0 here e.1) in
    let after : program_of c.scope_in_place.new.self.file ≡ Ok p = ap (λ (x : Image). program_of x.file) c.scope_in_place.ensures.kept ∙ is in
    absurd (not_missing p.sections c.in_ok-subprogram.field-0 _ e.0 c.in-None.is there (c.in_ok-subprogram.ensures.value p after))
