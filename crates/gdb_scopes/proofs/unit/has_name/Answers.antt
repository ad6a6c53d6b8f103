use Rattle.std.proofs.Common.{◌≡◌, ℕ, List, Option, true, false, is_some, sym, ap, ◌∙◌}
use Rattle.std.specs.Borrow.{Bor}
use Rattle.common_laws.proofs.Options.{some_of_map}
use Rattle.gdb_scopes.proofs.WalkLaws.{name_told, told_children, told_tag}
use Rattle.gdb_scopes.proofs.unit.has_name.Goals as goal
use Rattle.gdb_scopes.proofs.unit.has_name.Goals.{then-not-is_seen-via-then-not-is_seen, then-not-is_seen-via-else-not-is_seen+then-not-item}

pub returns-then-not-is_seen-clause-value : goal.returns-then-not-is_seen-clause-value
returns-then-not-is_seen-clause-value c p is d h seen on =
    elim c.then-not-is_seen.branch [
      | then-not-is_seen-via-then-not-is_seen w ↦ absurd (let clash : false ≡ true = sym w.if-not-is_seen.true ∙ seen in cc)
      | then-not-is_seen-via-else-not-is_seen+then-not-item w ↦ absurd (let clash : false ≡ true = sym w.if-not-item.true ∙ told_children p.sections d c.args.item.now h ∙ on in cc)
    ]

pub returns-clause-value : goal.returns-clause-value
returns-clause-value c p is d h seen on =
    let told = c.in_ok-chain.ensures.value p is d h in
    let name = c.name_of.ensures ∙ name_told p c.args.class d c.args.item.now.facts.tag _ (told_tag p.sections d c.args.item.now h) told.name in
    c.is_some.ensures ∙ sym (some_of_map (λ (b : Bor (List ℕ)). b.now) c.name_of.result) ∙ ap (λ (o : Option (List ℕ)). is_some o) name
