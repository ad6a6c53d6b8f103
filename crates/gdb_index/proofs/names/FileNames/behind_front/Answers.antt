use Rattle.std.proofs.Common.{◌≡◌, ℕ, List, [], Ok, Some, ◌++◌, sym, ap, subst, ◌∙◌}
use Rattle.cxx_spelling.specs.declared.release.Release.{Release}
use Rattle.file_image.specs.Images.{Image}
use Rattle.index_model.specs.Faults.{program_of}
use Rattle.index_model.specs.Sections.{Section}
use Rattle.gdb_entries.specs.Components.{spelled}
use Rattle.gdb_entries.specs.Names.{full_name}
use Rattle.gdb_items.specs.Chains.{StandsAt}
use Rattle.gdb_names.proofs.BothLaws.{are_same}
use Rattle.gdb_names.specs.Both.{AreBoth}
use Rattle.gdb_names.specs.Fronts.{front_by}
use Rattle.gdb_texts.specs.Spelled.{names_of}
use Rattle.gdb_index.specs.Fronts.{front_at, front_text}
use Rattle.gdb_index.proofs.NameLaws.{full_of_front}
use Rattle.gdb_index.proofs.names.FileNames.behind_front.Goals as goal

pub returns-in-Some-clause-value : goal.returns-in-Some-clause-value
returns-in-Some-clause-value c p is d here own read told stands =
    let class = c.args.class in
    let name = c.args.name.now in
    let text = λ (release : Release). spelled release class name in
    let after : program_of c.self.inside.places.file ≡ Ok p = ap (λ (e : Image). program_of e.file) c.self.view_is ∙ ap (λ (e : Image). program_of e.file) c.in_ok-front.ensures.kept ∙ is in
    let there = subst (λ (ss : List Section). StandsAt ss c.args.chain.now.place (Some name)) (sym (c.self.invariant.texts p after)) stands in
    let are = subst (AreBoth text) (sym c.names.ensures) (c.in_ok-own.ensures there) in
    let front : (release : Release) → front_by release c.deref.result.now ≡ front_at release p class d =
    λ release. ap (front_by release) c.deref.ensures ∙ sym (ap (front_text release) c.in-Some.is) ∙ c.in_ok-front.ensures.value p is d here own read told release in
    are_same (λ release. front_by release c.deref.result.now ++ text release) (λ release. full_name release p class d name) c.in_ok-before-in-Some.field-0
    (λ release. ap (λ (t : List ℕ). t ++ text release) (front release) ∙ full_of_front release p class d name c.requires)
    (c.in_ok-before-in-Some.ensures text are)

pub returns-clause-value : goal.returns-clause-value
returns-clause-value c p is d here own read told stands =
    let class = c.args.class in
    let name = c.args.name.now in
    let text = λ (release : Release). spelled release class name in
    let after : program_of c.self.inside.places.file ≡ Ok p = ap (λ (e : Image). program_of e.file) c.self.view_is ∙ ap (λ (e : Image). program_of e.file) c.in_ok-front.ensures.kept ∙ is in
    let there = subst (λ (ss : List Section). StandsAt ss c.args.chain.now.place (Some name)) (sym (c.self.invariant.texts p after)) stands in
    let none : (release : Release) → [] ≡ front_at release p class d = λ release. sym (ap (front_text release) c.in-None.is) ∙ c.in_ok-front.ensures.value p is d here own read told release in
    let whole = λ (release : Release). full_name release p class d name in
    c.owned.ensures whole
    (are_same text whole (names_of c.in_ok-own.own) (λ release. ap (λ (t : List ℕ). t ++ text release) (none release) ∙ full_of_front release p class d name c.requires) (c.in_ok-own.ensures there))
