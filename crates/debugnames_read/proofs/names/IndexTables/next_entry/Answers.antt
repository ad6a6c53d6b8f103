use Rattle.std.proofs.Common.{refl, sym}
use Rattle.debugnames_read.specs.Entries.{hit_seen}
use Rattle.debugnames_read.specs.Names.{tables_of}
use Rattle.debugnames_read.proofs.LeftLaws.{next_end, next_one, next_wrong}
use Rattle.debugnames_read.proofs.names.IndexTables.next_entry.Goals as goal

pub returns-in-Ok-Some-clause-value : goal.returns-in-Ok-Some-clause-value
returns-in-Ok-Some-clause-value c =
    let read = rw c.in-Ok-Some.field-0-is at c.in-Ok-Some.ensures.value in
    (next_one (tables_of c.args.self.now) c.args.entries.now c.in_ok-cursor.cursor c.read_entry.new.cursor (hit_seen c.in-Ok-Some.hit) (sym c.in_ok-cursor.ensures.value) c.requires read).list

pub returns-in-Ok-Some-clause-list : goal.returns-in-Ok-Some-clause-list
returns-in-Ok-Some-clause-list c =
    let read = rw c.in-Ok-Some.field-0-is at c.in-Ok-Some.ensures.value in
    (next_one (tables_of c.args.self.now) c.args.entries.now c.in_ok-cursor.cursor c.read_entry.new.cursor (hit_seen c.in-Ok-Some.hit) (sym c.in_ok-cursor.ensures.value) c.requires read).ok

pub returns-in-Ok-None-clause-value : goal.returns-in-Ok-None-clause-value
returns-in-Ok-None-clause-value c =
    let end = rw c.in-Ok-None.field-0-is at c.in-Ok-None.ensures.value in
    (next_end (tables_of c.args.self.now) c.args.entries.now c.in_ok-cursor.cursor (sym c.in_ok-cursor.ensures.value) end, rw c.take.ensures.after refl)

pub returns-in-Err-clause-value : goal.returns-in-Err-clause-value
returns-in-Err-clause-value c = absurd (next_wrong (tables_of c.args.self.now) c.args.entries.now c.in_ok-cursor.cursor _ (sym c.in_ok-cursor.ensures.value) c.requires c.in-Err.ensures.value)
