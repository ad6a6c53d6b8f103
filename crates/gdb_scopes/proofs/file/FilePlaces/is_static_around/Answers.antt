use Rattle.std.proofs.Common.{◌≡◌, ℕ, Option, Some, Ok, option_map, sym, ap, subst, ◌∙◌}
use Rattle.std.specs.Prelude.{IfOk}
use Rattle.file_image.specs.Images.{Image}
use Rattle.index_model.specs.Faults.{program_of}
use Rattle.index_model.specs.Program.{Located}
use Rattle.gdb_entries.specs.declared.language.LanguageClass.{LanguageClass}
use Rattle.gdb_entries.specs.Entries.{is_static_around}
use Rattle.gdb_entries.specs.Scopes.{around_by}
use Rattle.gdb_scopes.specs.Places.{offset_of, IsAt}
use Rattle.gdb_scopes.proofs.AroundLaws.{around_there}
use Rattle.gdb_scopes.proofs.ScopeLaws.{item_there, not_missing, one_around}
use Rattle.gdb_scopes.proofs.file.FilePlaces.is_static_around.Goals as goal

pub returns-in-Some-2-clause-value : goal.returns-in-Some-2-clause-value
returns-in-Some-2-clause-value c p is d here read =
    let f = c.args.self.now.file in
    let class = c.args.class in
    let told = sym c.in-Some.is ∙ c.in_ok-around.ensures.value p is d here ∙ ap (λ (o : Option LanguageClass). option_map offset_of (around_by p o d)) read in
    let e = one_around (around_by p (Some class) d) c.in-Some.around told in
    let there : IsAt p c.in-Some.around e.0 = subst (λ (n : ℕ). IsAt p n e.0) e.2 (around_there f p is c.args.offset d here (Some class) e.0 e.1) in
    let after : program_of c.around.new.self.file ≡ Ok p = ap (λ (x : Image). program_of x.file) c.around.ensures.kept ∙ is in
    let own = item_there p.sections c.in_ok-item.field-0 c.in-Some-2.item _ e.0 c.in-Some-2.is there (c.in_ok-item.ensures.value p after) in
    let last : program_of c.at.new.self.file ≡ Ok p = ap (λ (x : Image). program_of x.file) c.at.ensures.kept ∙ after in
    subst (λ (o : Option Located). IfOk c.is_static_itself.result (λ s. s ≡ is_static_around p class o)) (sym e.1) (c.is_static_itself.ensures.value p last e.0 own)

pub returns-in-None-clause-value : goal.returns-in-None-clause-value
returns-in-None-clause-value c p is d here read =
    let f = c.args.self.now.file in
    let class = c.args.class in
    let told = sym c.in-Some.is ∙ c.in_ok-around.ensures.value p is d here ∙ ap (λ (o : Option LanguageClass). option_map offset_of (around_by p o d)) read in
    let e = one_around (around_by p (Some class) d) c.in-Some.around told in
    let there : IsAt p c.in-Some.around e.0 = subst (λ (n : ℕ). IsAt p n e.0) e.2 (around_there f p is c.args.offset d here (Some class) e.0 e.1) in
    let after : program_of c.around.new.self.file ≡ Ok p = ap (λ (x : Image). program_of x.file) c.around.ensures.kept ∙ is in
    absurd (not_missing p.sections c.in_ok-item.field-0 _ e.0 c.in-None.is there (c.in_ok-item.ensures.value p after))
