use Rattle.std.proofs.Common.{Result, Ok, Err, IfOk, option_map, refl, ap, arith}
use Rattle.index_model.specs.Sections.{section_count}
use Rattle.elf_add.specs.declared.parts.AddedProgram.{AddedProgram}
use Rattle.elf_add.proofs.Found.{parts_are}
use Rattle.elf_add.proofs.Opened.{long, names_inside, table_inside}
use Rattle.elf_add.proofs.Whole.{places_are}
use Rattle.elf_add.proofs.adder.Adder.finish.Goals as goal

if_ok : {X E : Type 0} (P Q : X → Type 0) (r : Result X E) → IfOk r P → ((x : X) → P x → Q x) → IfOk r Q
if_ok P Q (Ok x) h f = f x h
if_ok P Q (Err e) h f = tt

pub name_bytes-requires-clause-fits : goal.name_bytes-requires-clause-fits
name_bytes-requires-clause-fits c = names_inside c.self.inside.file.now c.self.inside.sections c.self.invariant.opened

pub joined-requires-clause-long : goal.joined-requires-clause-long
joined-requires-clause-long c = long c.self.inside.file.now c.self.inside.sections c.self.invariant.opened

pub joined-requires-clause-table : goal.joined-requires-clause-table
joined-requires-clause-table c =
    let inside = table_inside c.self.inside.file.now c.self.inside.sections c.self.invariant.opened in
    omega (arith, inside, c.count.ensures, ap section_count c.self.invariant.of_file)

pub joined-requires-clause-places : goal.joined-requires-clause-places
joined-requires-clause-places c =
    let i = c.self.inside in
    let p : AddedProgram = record { file = i.file; count = c.count.result; names_index = c.names.result; names = c.name_bytes.result; strings = c.grown_strings-strings.result; added = c.deref.result } in
    let is = parts_are c.args.self i.file.now i.sections i.table i.added.items (option_map (λ s. s.now) i.strings) c.self.view_is c.self.invariant.of_file p c.in_ok-added.added.items
    refl c.count.ensures c.names.ensures.value c.name_bytes.ensures c.grown_strings-strings.ensures.index c.grown_strings-strings.ensures.strings c.deref.ensures.value c.in_ok-added.ensures in
    places_are p c.args.self.file c.args.self.sections c.args.self.addition is c.requires

pub returns : goal.returns
returns c =
    let i = c.self.inside in
    let p : AddedProgram = record { file = i.file; count = c.count.result; names_index = c.names.result; names = c.name_bytes.result; strings = c.grown_strings-strings.result; added = c.deref.result } in
    let is = parts_are c.args.self i.file.now i.sections i.table i.added.items (option_map (λ s. s.now) i.strings) c.self.view_is c.self.invariant.of_file p c.in_ok-added.added.items
    refl c.count.ensures c.names.ensures.value c.name_bytes.ensures c.grown_strings-strings.ensures.index c.grown_strings-strings.ensures.strings c.deref.ensures.value c.in_ok-added.ensures in
    if_ok _ _ c.joined.result c.joined.ensures (λ bytes given. given c.args.self.file c.args.self.sections c.args.self.addition is)
