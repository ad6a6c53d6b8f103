use Rattle.std.proofs.Common.{◌≡◌, ◌++◌, List, Ok, filter, sym, ap, subst, ◌∙◌}
use Rattle.std.specs.Prelude.{OnOk}
use Rattle.std.specs.List.{AllZip}
use Rattle.file_image.specs.Images.{Image}
use Rattle.index_model.specs.declared.entry.Entry.{Entry}
use Rattle.index_model.specs.Faults.{program_of}
use Rattle.index_model.specs.Program.{located}
use Rattle.gdb_entries.specs.Reached.{is_seen}
use Rattle.gdb_entries.specs.Owners.{class_read}
use Rattle.gdb_scopes.specs.declared.seen.SeenItem.{SeenItem}
use Rattle.gdb_scopes.specs.Places.{seen_of, IsSeenIn}
use Rattle.gdb_index.proofs.UnitLaws.{class_told, number_told, owner_told, seen_looked_at, unit_listed}
use Rattle.gdb_index.proofs.unit.list_read.Goals as goal

pub returns-clause-value : goal.returns-clause-value
returns-clause-value c p is w wc number =
    let r = c.args.reading in
    let told = c.requires.reading p is w wc number in
    let after : program_of c.seen.new.self.file ≡ Ok p = ap (λ (e : Image). program_of e.file) c.seen.ensures.kept ∙ is in
    let seen = subst (λ (items : List SeenItem). AllZip (IsSeenIn p (class_read p w)) items (seen_of p w)) (sym c.as_slice.ensures.value) (c.in_ok-seen.ensures.value p is w wc number) in
    let looked_at = seen_looked_at c.args.names.now.file p is w wc r.class (class_told p w r told) c.as_slice.result.now seen in
    let all = c.list_items.ensures.value p after (owner_told p w r told).owner (filter (is_seen p r.class) (located w)) (number_told p w r told) looked_at in
    subst (λ (es : List Entry). OnOk c.list_items.result (c.list_items.new.entries.items ≡ c.args.entries.now.items ++ es)) (unit_listed p w r told) all
