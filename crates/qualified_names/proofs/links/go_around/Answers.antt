use Rattle.std.proofs.Common.{◌≡◌, ap, sym, subst, ◌∙◌, rules}
use Rattle.qualified_names.specs.declared.fronts.Around.{Around}
use Rattle.qualified_names.specs.Indexed.{IsAroundEnd}
use Rattle.qualified_names.specs.Paths.{IsFrontAround}
use Rattle.qualified_names.proofs.LinkLaws.{is_around_end}
use Rattle.qualified_names.proofs.links.go_around.Goals as goal

pub returns-then-eq-clause-there : goal.returns-then-eq-clause-there
returns-then-eq-clause-there c p file are k h =
    let same : c.args.entry.now.around ≡ c.args.around.now.parent = search rules in
    subst (IsAroundEnd p k) same (is_around_end p c.args.entry.now k h)

pub returns-clause-there : goal.returns-clause-there
returns-clause-there c p file are k h =
    let same : c.args.entry.now.around ≡ c.replace.new.dest.parent = sym c.in_ok-next.ensures.parent ∙ sym (ap (λ (a : Around). a.parent) c.replace.ensures.after) in
    subst (IsAroundEnd p k) same (is_around_end p c.args.entry.now k h)

pub returns-clause-around : goal.returns-clause-around
returns-clause-around c = subst (λ (a : Around). IsFrontAround c.args.references.now a.parent a.front.items) (sym c.replace.ensures.after) c.in_ok-next.ensures.value
