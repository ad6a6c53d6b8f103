use Rattle.std.proofs.Common.{◌-◌, arith}
use Rattle.std.specs.Prelude.{map}
use Rattle.std.proofs.lemmas.Result.{err_from_is_err_and}
use Rattle.index_model.specs.Sections.{sections_from, headers_from}
use Rattle.file_image.specs.Found.{section}
use Rattle.file_image.proofs.Fronts.{one_more, no_more, all_read}
use Rattle.file_image.proofs.Named.{map_push, small_push}
use Rattle.file_image.proofs.found.sections_of_table.Goals as goal

pub returns-in_err-section-clause-value : goal.returns-in_err-section-clause-value
returns-in_err-section-clause-value c =
    let file = c.args.file.now in
    let p = err_from_is_err_and c.from_residual-in_err-section.result c.from_residual-in_err-section.ensures.1 in
    rw (p.1, p.2) (no_more file c.args.table.now.count c.loop-index.index (map section c.loop-index.found.items) (sections_from file 1 (headers_from file 1 (c.args.table.now.count - 1))) c.loop-index.invariant.so_far c.in_err-section.field-0.0 (omega (arith, c.loop-index-test.true)) c.in_err-section.ensures.value)

pub loop-index-preserved : goal.loop-index-preserved
loop-index-preserved c =
    let file = c.args.file.now in
    rw c.in_ok-push.ensures.items (record {
      so_far = rw (map_push c.loop-index.found.items c.in_ok-section.section) (one_more file c.args.table.now.count c.loop-index.index (map section c.loop-index.found.items) (sections_from file 1 (headers_from file 1 (c.args.table.now.count - 1))) c.loop-index.invariant.so_far (section c.in_ok-section.section) (omega (arith, c.loop-index-test.true)) c.in_ok-section.ensures.value);
      small = small_push c.loop-index.found.items c.in_ok-section.section c.loop-index.invariant.small c.in_ok-section.ensures.small;
    })

pub returns-clause-value : goal.returns-clause-value
returns-clause-value c =
    let file = c.args.file.now in
    all_read file c.args.table.now.count c.loop-index.index (map section c.loop-index.found.items) (sections_from file 1 (headers_from file 1 (c.args.table.now.count - 1))) c.loop-index.invariant.so_far (omega (arith, c.loop-index-test.false))
