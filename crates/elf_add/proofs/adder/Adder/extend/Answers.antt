use Rattle.std.proofs.Common.{◌≡◌, Bool, true, false, refl, sym, ap, ◌∙◌}
use Rattle.std.specs.Prelude.{is_some, not, ◌&&◌}
use Rattle.common_laws.proofs.Options.{some_of_map}
use Rattle.index_model.specs.Sections.{index_named}
use Rattle.reach_model.specs.Added.{debug_str}
use Rattle.elf_add.specs.Adders.{is_full}
use Rattle.elf_add.proofs.Adding.{are_added, have_no_room, not_not, one_fails, other_fails, were_added}
use Rattle.elf_add.proofs.adder.Adder.extend.Goals as goal
use Rattle.elf_add.proofs.adder.Adder.extend.Goals.{else-is_none-via-then-is_none+else-is_full, else-is_none-via-else-is_none}

pub returns-then-is_some-clause-adds : goal.returns-then-is_some-clause-adds
returns-then-is_some-clause-adds c =
    let had = some_of_map (λ s. s.now) c.self.inside.strings ∙ sym c.is_some.ensures ∙ c.if-is_some.true in
    (refl, rw (← c.self.view_is) (were_added _ c.args.bytes.now had))

pub returns-then-is_full-clause-adds : goal.returns-then-is_full-clause-adds
returns-then-is_full-clause-adds c =
    let had = some_of_map (λ s. s.now) c.self.inside.strings ∙ sym c.is_some.ensures ∙ c.if-is_some.false in
    let full = sym c.is_full.ensures ∙ c.if-is_full.true in
    let missing : not (is_some (index_named c.self.inside.sections debug_str)) ≡ true = ap (λ o. not (is_some o)) (sym c.index_of.ensures) ∙ ap not (c.is_none.ensures ∙ ap not c.if-is_none.true) in
    (refl, rw (← c.self.view_is) (have_no_room _ c.args.bytes.now had missing (rw (← c.self.view_is) at full)))

pub returns-clause-adds : goal.returns-clause-adds
returns-clause-adds c =
    let had = some_of_map (λ s. s.now) c.self.inside.strings ∙ sym c.is_some.ensures ∙ c.if-is_some.false in
    let test : (r : Bool) → c.is_none.result ≡ r → not (is_some (index_named c.self.inside.sections debug_str)) ≡ r = λ r e. ap (λ o. not (is_some o)) (sym c.index_of.ensures) ∙ ap not c.is_none.ensures ∙ not_not c.is_none.result ∙ e in
    let room : (not (is_some (index_named c.self.inside.sections debug_str)) && is_full c.args.self.now) ≡ false = elim c.else-is_none.branch [
      | else-is_none-via-then-is_none+else-is_full w ↦ other_fails _ _ (sym w.is_full.ensures ∙ w.if-is_full.false)
      | else-is_none-via-else-is_none w ↦ one_fails _ _ (test false w.if-is_none.false)
    ] in
    rw (← c.self.view_is) (are_added _ c.args.bytes.now had (rw (← c.self.view_is) at room))
