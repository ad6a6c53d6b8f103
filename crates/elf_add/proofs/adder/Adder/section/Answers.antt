use Rattle.std.proofs.Common.{◌≤◌, [], ◌∷◌, length, option_map, refl, sym, ap, ◌∙◌, arith}
use Rattle.std.proofs.lemmas.List.{length-append}
use Rattle.elf_add.specs.Adders.{is_full}
use Rattle.elf_add.proofs.Adding.{few_then, has_no_room, is_there, not_pushed, pushed}
use Rattle.elf_add.proofs.adder.Adder.section.Goals as goal
use Rattle.elf_add.proofs.adder.Adder.section.Goals.{in-Ok, in-Err}

pub returns-then-has : goal.returns-then-has
returns-then-has c = (refl, is_there c.args.self.now c.args.name.now c.args.bytes.now (sym c.has.ensures ∙ c.if-has.true))

pub returns-then-is_full : goal.returns-then-is_full
returns-then-is_full c = (refl, has_no_room c.args.self.now c.args.name.now c.args.bytes.now (sym c.has.ensures ∙ c.if-has.false) (sym c.is_full.ensures ∙ c.if-is_full.true))

pub invariant_of-self : goal.invariant_of-self
invariant_of-self c =
    let i = c.self.inside in
    let room = few_then i.file.now i.sections i.added.items (option_map (λ s. s.now) i.strings) (ap is_full c.self.view_is ∙ sym c.is_full.ensures ∙ c.if-is_full.false) in
    let few : length c.push.new.self.items ≤ 65279 = elim c.match-push.branch [
      | in-Ok w ↦ omega (arith, room, ap length w.in-Ok.ensures.items, length-append i.added.items (record { name = c.args.name; content = c.args.bytes } ∷ []))
      | in-Err w ↦ omega (arith, room, ap length w.in-Err.ensures.items)
    ] in
    record {
      opened = c.self.invariant.opened;
      of_file = c.self.invariant.of_file;
      small = c.self.invariant.small;
      few = few;
    }

pub returns : goal.returns
returns c =
    let i = c.self.inside in
    let new = sym c.has.ensures ∙ c.if-has.false in
    let room = sym c.is_full.ensures ∙ c.if-is_full.false in
    elim c.match-push.branch [
      | in-Ok w ↦ rw w.result-is (pushed i.file.now i.sections i.added.items c.push.new.self.items (option_map (λ s. s.now) i.strings) (record { name = c.args.name; content = c.args.bytes }) c.args.self.now c.self.view_is new room w.in-Ok.ensures.items)
      | in-Err w ↦ rw w.result-is (not_pushed i.file.now i.sections i.added.items c.push.new.self.items (option_map (λ s. s.now) i.strings) c.args.name.now c.args.bytes.now c.args.self.now c.self.view_is new room w.in-Err.ensures.items)
    ]
