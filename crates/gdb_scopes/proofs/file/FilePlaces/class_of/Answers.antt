use Rattle.std.proofs.Common.{◌≡◌, Ok, Option, sym, ap, ◌∙◌}
use Rattle.file_image.specs.Images.{Image}
use Rattle.index_model.specs.Faults.{program_of}
use Rattle.gdb_items.specs.declared.by_owner.Reading.{Reading}
use Rattle.gdb_scopes.proofs.UnitLaws.{class_in, class_is, reading_told}
use Rattle.gdb_scopes.proofs.file.FilePlaces.class_of.Goals as goal

pub returns-in_err-reading : goal.returns-in_err-reading
returns-in_err-reading c p given w wc number =
    let f = c.self.inside.items.file in
    let is : program_of f ≡ Ok p = ap (λ (e : Image). program_of e.file) c.self.view_is ∙ given in
    let told = reading_told f p is w wc c.args.unit number c.self.inside.readings.now (c.self.invariant.0 p is) in
    c.from_residual.ensures ∙ ap (λ (r : Option Reading). class_in r) (sym c.in_err-reading.was ∙ c.reading_at.ensures ∙ told) ∙ class_is p w

pub returns : goal.returns
returns c p given w wc number =
    let f = c.self.inside.items.file in
    let is : program_of f ≡ Ok p = ap (λ (e : Image). program_of e.file) c.self.view_is ∙ given in
    let told = reading_told f p is w wc c.args.unit number c.self.inside.readings.now (c.self.invariant.0 p is) in
    ap (λ (r : Option Reading). class_in r) (sym c.in_ok-reading.was ∙ c.reading_at.ensures ∙ told) ∙ class_is p w
