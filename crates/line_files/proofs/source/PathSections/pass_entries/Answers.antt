use Rattle.std.proofs.Common.{◌≡◌, ◌+◌, ◌-◌, [], sym, ◌∙◌, arith}
use Rattle.std.proofs.lemmas.Result.{err_from_is_err_and}
use Rattle.common_laws.proofs.Numbers.{one_left}
use Rattle.reach_model.specs.LineTables.{new_entry}
use Rattle.line_files.specs.Entries.{entry_seen, layout_seen}
use Rattle.line_files.proofs.TableLaws.{entries_behind_layout, no_layout, none_passed, one_passed, all_passed}
use Rattle.line_files.proofs.source.PathSections.pass_entries.Goals as goal

pub returns-in_err-layout : goal.returns-in_err-layout
returns-in_err-layout c =
    let p = err_from_is_err_and c.from_residual.result c.from_residual.ensures.1 in
    rw (p.1, p.2) (no_layout c.args.self.now.sections.now c.args.self.now.wide c.args.cursor.now c.in_err-layout.field-0.0 c.in_err-layout.ensures)

pub entries-init : goal.entries-init
entries-init c =
    let whole : c.in_ok-layout.layout.count - 0 ≡ c.in_ok-layout.layout.count = omega arith in
    rw whole (sym (entries_behind_layout c.args.self.now.sections.now c.args.self.now.wide c.args.cursor.now (layout_seen c.in_ok-layout.layout) c.read_layout.new.cursor c.in_ok-layout.ensures))

pub returns-in_err-entry : goal.returns-in_err-entry
returns-in_err-entry c =
    let count = c.in_ok-layout.layout.count in
    let k = c.entries.counter in
    let left = one_left count k c.entries-test.true in
    let read = new_entry c.args.self.now.sections.now c.args.self.now.wide c.in_ok-layout.layout.formats.items (record { name = []; dir = 0 }) in
    let p = err_from_is_err_and c.from_residual-in_err-entry.result c.from_residual-in_err-entry.ensures.1 in
    rw (p.1, p.2) (sym (rw left at c.entries.invariant) ∙ none_passed (count - (k + 1)) read c.entries.cursor c.in_err-entry.field-0.0 (rw c.as_slice.ensures.value at c.in_err-entry.ensures))

pub entries-preserved : goal.entries-preserved
entries-preserved c =
    let count = c.in_ok-layout.layout.count in
    let k = c.entries.counter in
    let left = one_left count k c.entries-test.true in
    let read = new_entry c.args.self.now.sections.now c.args.self.now.wide c.in_ok-layout.layout.formats.items (record { name = []; dir = 0 }) in
    sym (one_passed (count - (k + 1)) read c.entries.cursor (entry_seen c.in_ok-entry.field-0) c.entry.new.cursor (rw c.as_slice.ensures.value at c.in_ok-entry.ensures)) ∙ rw left at c.entries.invariant

pub returns : goal.returns
returns c =
    let out : c.in_ok-layout.layout.count - c.entries.counter ≡ 0 = omega arith in
    let read = new_entry c.args.self.now.sections.now c.args.self.now.wide c.in_ok-layout.layout.formats.items (record { name = []; dir = 0 }) in
    sym (rw out at c.entries.invariant) ∙ all_passed read c.entries.cursor
