use Rattle.std.proofs.Common.{sym, ◌∙◌}
use Rattle.std.proofs.lemmas.Result.{err_from_is_err_and}
use Rattle.line_files.specs.Entries.{entry_seen}
use Rattle.line_files.proofs.EntryLaws.{all_values, value_cut, value_more, value_wrong}
use Rattle.line_files.proofs.source.PathSections.entry.Goals as goal

pub returns-in_err-value : goal.returns-in_err-value
returns-in_err-value c =
    let p = err_from_is_err_and c.from_residual.result c.from_residual.ensures.1 in
    rw (p.1, p.2) (sym c.loop-format.invariant ∙ value_cut c.args.self.now.sections.now c.args.self.now.wide c.args.formats.now c.loop-format.format-index _ c.loop-format-test.true (entry_seen c.loop-format.entry) c.loop-format.cursor c.in_err-value.field-0.0 c.in_err-value.ensures)

pub returns-in_err-entry : goal.returns-in_err-entry
returns-in_err-entry c =
    let p = err_from_is_err_and c.from_residual-in_err-entry.result c.from_residual-in_err-entry.ensures.1 in
    rw (p.1, p.2) (sym c.loop-format.invariant ∙ value_wrong c.args.self.now.sections.now c.args.self.now.wide c.args.formats.now c.loop-format.format-index _ c.loop-format-test.true (entry_seen c.loop-format.entry) c.loop-format.cursor _ c.value.new.cursor c.in_err-entry.field-0.0 c.in_ok-value.ensures c.in_err-entry.ensures)

pub loop-format-preserved : goal.loop-format-preserved
loop-format-preserved c =
    sym (value_more c.args.self.now.sections.now c.args.self.now.wide c.args.formats.now c.loop-format.format-index _ c.loop-format-test.true (entry_seen c.loop-format.entry) c.loop-format.cursor _ c.value.new.cursor (entry_seen c.in_ok-entry.entry) c.in_ok-value.ensures c.in_ok-entry.ensures)
    ∙ c.loop-format.invariant

pub returns : goal.returns
returns c = sym c.loop-format.invariant ∙ all_values c.args.self.now.sections.now c.args.self.now.wide c.args.formats.now c.loop-format.format-index (entry_seen c.loop-format.entry) c.loop-format.cursor c.loop-format-test.false
