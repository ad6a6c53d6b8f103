use Rattle.std.proofs.Common.{◌≡◌, List, Some, None, option_map, refl, sym, ap, subst, ◌∙◌}
use Rattle.cxx_spelling.specs.declared.release.Release.{Release}
use Rattle.index_model.specs.Sections.{Section}
use Rattle.gdb_entries.specs.Chains.{name_of}
use Rattle.gdb_entries.specs.Components.{spelled}
use Rattle.gdb_items.specs.Chains.{StandsAt}
use Rattle.gdb_scopes.proofs.WalkLaws.{name_told}
use Rattle.gdb_index.proofs.StepLaws.{gives_nameless, gives_not, gives_one, stands_too, told_gives}
use Rattle.gdb_index.proofs.step.component_told.Goals as goal

pub returns-then-not-gives_component : goal.returns-then-not-gives_component
returns-then-not-gives_component c p d texts at told release =
    let class = c.args.class in
    let scoped = c.args.chain.now.scoped in
    let off = sym c.gives_component.ensures ∙ c.if-not-gives_component.true in
    gives_not release class c.args.tag scoped (name_of p class d) off ∙ told_gives p d release class c.args.tag scoped (name_of p class d) at told.scoped refl

pub returns-in_ok-owned-in-Some : goal.returns-in_ok-owned-in-Some
returns-in_ok-owned-in-Some c p d texts at told release =
    let class = c.args.class in
    let scoped = c.args.chain.now.scoped in
    let place = c.args.chain.now.place in
    let name = c.in-Some.name.now in
    let called = c.name_of.ensures ∙ name_told p class d c.args.tag _ at told.name in
    let is : Some name ≡ name_of p class d = sym (ap (option_map (λ b. b.now)) c.in-Some.is) ∙ called in
    let stands = subst (λ (ss : List Section). StandsAt ss place (Some name)) (sym texts) (stands_too p.sections p class d place told.place name (sym is)) in
    let own = c.in_ok-owned-in-Some.ensures (λ (r : Release). spelled r class name) (c.in_ok-spelling-in-Some.ensures stands) in
    let on = sym c.gives_component.ensures ∙ c.if-not-gives_component.false in
    gives_one release class c.args.tag scoped name _ on (own.0 release) ∙ told_gives p d release class c.args.tag scoped (Some name) at told.scoped is

pub returns-in-None : goal.returns-in-None
returns-in-None c p d texts at told release =
    let class = c.args.class in
    let scoped = c.args.chain.now.scoped in
    let called = c.name_of.ensures ∙ name_told p class d c.args.tag _ at told.name in
    let none : None ≡ name_of p class d = sym (ap (option_map (λ b. b.now)) c.in-None.is) ∙ called in
    gives_nameless release class c.args.tag scoped ∙ told_gives p d release class c.args.tag scoped None at told.scoped none
