use Rattle.std.proofs.Common.{ap, ◌∙◌}
use Rattle.index_model.specs.Meaning.{at_place}
use Rattle.line_files.specs.Entries.{entry_seen}
use Rattle.line_files.proofs.AheadLaws.{at_place-cons, left_ends, left_goes_on, left_stops}
use Rattle.line_files.proofs.files.FilesLeft.next.Goals as goal

pub returns-in-Err-clause-value : goal.returns-in-Err-clause-value
returns-in-Err-clause-value c =
    let f = c.args.self.now in
    let left = left_stops f.source.sections.now f.source.wide f.kind f.next f.end f.cursor c.in-Err.code c.in-Err.ensures.value in
    rw c.entry.ensures.others (ap (at_place f.start) left)

pub returns-in-Ok-None-clause-value : goal.returns-in-Ok-None-clause-value
returns-in-Ok-None-clause-value c =
    let f = c.args.self.now in
    let none = rw c.in-Ok-None.field-0-is at c.in-Ok-None.ensures.value in
    ap (at_place f.start) (left_ends f.source.sections.now f.source.wide f.kind f.next f.end f.cursor c.entry.new.self.cursor none)

pub returns-in-Ok-Some-clause-value : goal.returns-in-Ok-Some-clause-value
returns-in-Ok-Some-clause-value c =
    let f = c.args.self.now in
    let some = rw c.in-Ok-Some.field-0-is at c.in-Ok-Some.ensures.value in
    let on = left_goes_on f.source.sections.now f.source.wide f.kind f.next f.end f.cursor (entry_seen c.in-Ok-Some.entry) c.entry.new.self.cursor some in
    rw c.entry.ensures.others (ap (at_place f.start) on ∙ at_place-cons f.start _ _)
