use Rattle.std.proofs.Common.{◌++◌, length, sym, ap, ◌∙◌, arith}
use Rattle.std.proofs.lemmas.List.{append-nil, at_drop_all}
use Rattle.elf_make.specs.Packed.{names, added_headers}
use Rattle.elf_make.proofs.Sizes.{length-name_table, names_at_is, names_next, contents_next, headers_on, names_none, headers_none}
use Rattle.elf_make.proofs.body.push_added_headers.Goals as goal

pub overflow_cast-name : goal.overflow_cast-name
overflow_cast-name c =
    let t = length-name_table c.args.sections.now in
    omega (arith, t, c.requires.names, c.loop-section.invariant.names)

pub overflow_add-name-in-loop-section : goal.overflow_add-name-in-loop-section
overflow_add-name-in-loop-section c =
    let t = length-name_table c.args.sections.now in
    let next = names_next c.args.sections.now c.loop-section.section-index c.section-item.result c.loop-section-test.true c.section-item.is in
    let name = ap length c.as_slice.ensures in
    omega (arith, t, next, name, c.requires.names, c.loop-section.invariant.names)

pub overflow_add-place : goal.overflow_add-place
overflow_add-place c =
    let next = contents_next c.args.sections.now c.loop-section.section-index c.section-item.result c.loop-section-test.true c.section-item.is in
    let content = ap length c.as_slice-size.ensures in
    let at = names_at_is c.args.sections.now in
    omega (arith, at, next, content, c.requires.end, c.ranges.end.fits, c.loop-section.invariant.contents)

pub loop-section-preserved : goal.loop-section-preserved
loop-section-preserved c =
    let names_on = names_next c.args.sections.now c.loop-section.section-index c.section-item.result c.loop-section-test.true c.section-item.is in
    let contents_on = contents_next c.args.sections.now c.loop-section.section-index c.section-item.result c.loop-section-test.true c.section-item.is in
    let name = ap length c.as_slice.ensures in
    let content = ap length c.as_slice-size.ensures in
    record {
      headers = headers_on c.loop-section.name c.loop-section.place c.args.sections.now c.loop-section.section-index c.section-item.result _ _ c.loop-section.file.items c.push_section_header.new.file.items _ c.loop-section-test.true c.section-item.is name content c.in_ok-push_section_header.ensures c.loop-section.invariant.headers;
      names = omega (arith, names_on, name, c.loop-section.invariant.names);
      contents = omega (arith, contents_on, content, c.loop-section.invariant.contents);
    }

pub overflow_cast-result : goal.overflow_cast-result
overflow_cast-result c =
    let t = length-name_table c.args.sections.now in
    omega (arith, t, c.requires.names, c.loop-section.invariant.names)

pub returns-clause-headers : goal.returns-clause-headers
returns-clause-headers c =
    let out = at_drop_all (λ xs. added_headers c.loop-section.name c.loop-section.place xs) c.args.sections.now c.loop-section.section-index c.loop-section-test.false in
    sym (append-nil _) ∙ ap (λ xs. c.loop-section.file.items ++ xs) (sym (out ∙ headers_none _ _)) ∙ c.loop-section.invariant.headers

pub returns-clause-name : goal.returns-clause-name
returns-clause-name c =
    let out = at_drop_all (λ xs. length (names xs)) c.args.sections.now c.loop-section.section-index c.loop-section-test.false in
    omega (arith, out, names_none, c.loop-section.invariant.names)
