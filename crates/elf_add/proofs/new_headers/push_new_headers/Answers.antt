use Rattle.std.proofs.Common.{◌+◌, ◌++◌, map, sym, ap, ◌∙◌}
use Rattle.std.proofs.lemmas.List.{append-nil, at_drop_all}
use Rattle.reach_model.specs.Added.{new_headers}
use Rattle.elf_add.specs.Pieces.{section_of}
use Rattle.elf_add.proofs.Steps.{next_header, next_places, no_header}
use Rattle.elf_add.proofs.new_headers.push_new_headers.Goals as goal

pub loop-section-preserved : goal.loop-section-preserved
loop-section-preserved c =
    let start = c.in_ok-start.ensures ∙ ap (λ n. c.loop-section.place + n) c.padding.ensures.value in
    record {
      headers = rw c.in_ok-place.ensures (next_header c.args.sections.now c.loop-section.section-index c.loop-section-test.true c.loop-section.name c.loop-section.place c.in_ok-start.start c.loop-section.bytes.items _ _ start c.in_ok-push_new_header.ensures c.loop-section.invariant.headers);
      places = next_places c.args.sections.now c.loop-section.section-index c.loop-section-test.true c.loop-section.name c.loop-section.invariant.places;
    }

pub returns : goal.returns
returns c =
    let end = at_drop_all (λ xs. new_headers c.loop-section.name c.loop-section.place (map section_of xs)) c.args.sections.now c.loop-section.section-index c.loop-section-test.false in
    sym (append-nil _) ∙ ap (λ xs. c.loop-section.bytes.items ++ xs) (sym (end ∙ no_header c.loop-section.name c.loop-section.place)) ∙ c.loop-section.invariant.headers
