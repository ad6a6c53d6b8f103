use Rattle.std.proofs.Common.{◌≡◌, cond, option_map, ap, sym, ◌∙◌, arith}
use Rattle.index_model.specs.Sections.{section_count}
use Rattle.elf_add.specs.Held.{is_alone}
use Rattle.elf_add.proofs.Adding.{full_is}
use Rattle.elf_add.proofs.adder.Adder.is_full.Goals as goal
use Rattle.elf_add.proofs.adder.Adder.is_full.Goals.{then-is_alone, else-is_alone}

pub returns : goal.returns
returns c =
    let i = c.self.inside in
    let alone : c.if-is_alone.alone ≡ cond (is_alone c.args.self.now) 1 0 = elim c.if-is_alone.branch [
      | then-is_alone w ↦ w.alone-is ∙ ap (λ b. cond b 1 0) (sym w.if-is_alone.true ∙ c.is_alone.ensures)
      | else-is_alone w ↦ w.alone-is ∙ ap (λ b. cond b 1 0) (sym w.if-is_alone.false ∙ c.is_alone.ensures)
    ] in
    rw (← c.self.view_is) (full_is i.file.now i.sections i.added.items (option_map (λ s. s.now) i.strings) c.count.result c.len.result c.if-is_alone.alone
    (c.count.ensures ∙ ap section_count c.self.invariant.of_file) (omega (arith, c.len.ensures)) (rw (← c.self.view_is) at alone))
