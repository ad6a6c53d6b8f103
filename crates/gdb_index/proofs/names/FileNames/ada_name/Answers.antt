use Rattle.std.proofs.Common.{◌≡◌, ℕ, ◌∷◌, List, Ok, filter_map, reverse, map, ap, ◌∙◌}
use Rattle.cxx_spelling.specs.declared.release.Release.{Release}
use Rattle.file_image.specs.Images.{Image}
use Rattle.index_model.specs.Faults.{program_of}
use Rattle.gdb_entries.specs.Names.{ada_name, component, full_name}
use Rattle.gdb_entries.specs.Scopes.{scope_path}
use Rattle.gdb_names.proofs.BothLaws.{are_same}
use Rattle.gdb_names.specs.Both.{components_by}
use Rattle.gdb_index.specs.Texts.{text_by}
use Rattle.gdb_index.proofs.NameLaws.{full_of_ada}
use Rattle.gdb_index.proofs.names.FileNames.ada_name.Goals as goal

pub returns-clause-value : goal.returns-clause-value
returns-clause-value c p is d here own read told =
    let after : program_of c.scope_of.new.self.file ≡ Ok p = ap (λ (e : Image). program_of e.file) c.scope_of.ensures.kept ∙ is in
    let class = c.args.class in
    let name = c.args.name.now in
    let path = λ (release : Release). reverse (filter_map (component release p) (scope_path p d)) in
    let scope = c.in_ok-scope.ensures.value p is d here own read told in
    let texts = λ (release : Release). ap (λ (ts : List (List ℕ)). reverse ts) (c.in_ok-texts.ensures.value p after c.args.seen.now.item.offset d here scope release) in
    let lent = λ (release : Release). ap (λ ts. reverse (map (text_by release) ts)) c.as_slice.ensures.value ∙ texts release in
    let components = λ (release : Release). c.components-2.ensures release ∙ c.in_ok-turned.ensures release ∙ lent release in
    let whole = λ (release : Release). ada_name (name ∷ reverse (components_by release c.components-2.result)) in
    are_same whole (λ release. full_name release p class d name) c.in_ok-ada_full_name.field-0
    (λ release. ap (λ (ts : List (List ℕ)). ada_name (name ∷ reverse ts)) (components release) ∙ full_of_ada release p class d name c.requires)
    c.in_ok-ada_full_name.ensures
