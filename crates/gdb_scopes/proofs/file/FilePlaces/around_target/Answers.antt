use Rattle.std.proofs.Common.{◌≡◌, Ok, Some, None, sym, ap, subst, ◌∙◌}
use Rattle.std.specs.Prelude.{IfOk, Option, option_map}
use Rattle.file_image.specs.Images.{Image}
use Rattle.index_model.specs.Faults.{program_of}
use Rattle.gdb_entries.specs.declared.language.LanguageClass.{LanguageClass}
use Rattle.gdb_entries.specs.Owners.{class_read}
use Rattle.gdb_entries.specs.Scopes.{around_target}
use Rattle.gdb_scopes.specs.Places.{offset_of}
use Rattle.gdb_scopes.proofs.file.FilePlaces.around_target.Goals as goal

pub returns-in_default-clause-value : goal.returns-in_default-clause-value
returns-in_default-clause-value c p is d here own =
    let none : class_read p d.home ≡ None = sym (c.class_at.ensures p is d here) ∙ c.in_default.is in
    sym (ap (λ (o : Option LanguageClass). option_map offset_of (around_target p o d)) none)

pub returns-clause-value : goal.returns-clause-value
returns-clause-value c p is d here own =
    let some : class_read p d.home ≡ Some c.in-Some.class = sym (c.class_at.ensures p is d here) ∙ c.in-Some.is in
    let after : program_of c.chain.new.self.file ≡ Ok p = ap (λ (e : Image). program_of e.file) c.chain.ensures.kept ∙ is in
    let told = c.in_ok-chain.ensures.value p is d own in
    subst (λ (o : Option LanguageClass). IfOk c.around_chain.result (λ around. around ≡ option_map offset_of (around_target p o d))) (sym some) (c.around_chain.ensures.value p after d told)
