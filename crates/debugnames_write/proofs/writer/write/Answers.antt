use Rattle.std.proofs.Common.{◌≡◌, List, map, sym, ap, ◌∙◌, subst, arith}
use Rattle.index_model.specs.declared.entry.Entry.{Entry}
use Rattle.index_model.specs.declared.unit.Unit.{Unit as UnitHeader}
use Rattle.index_model.specs.NameIndex.{Row as IndexRow, all_indexed, rows_of}
use Rattle.query_engine.specs.declared.listing.ListedName.{ListedName}
use Rattle.debugnames_write.specs.declared.groups.NameEntries.{NameEntries}
use Rattle.debugnames_write.specs.declared.item.IndexEntry.{IndexEntry}
use Rattle.debugnames_write.specs.Groups.{AreGroupsOf}
use Rattle.debugnames_write.specs.Items.{AreSortedItems}
use Rattle.debugnames_write.specs.Made.{AreMadeOf}
use Rattle.debugnames_write.specs.Names.{cut, kept_of_group}
use Rattle.debugnames_write.specs.Seen.{items_seen}
use Rattle.debugnames_write.proofs.GroupLaws.{groups_are, counts_fit}
use Rattle.debugnames_write.proofs.ItemLaws.{sorted_rows}
use Rattle.debugnames_write.proofs.UnitLaws.{starts_low}
use Rattle.debugnames_write.proofs.writer.write.Goals as goal

pub groups_of-requires : goal.groups_of-requires
groups_of-requires g c = rw (c.deref-2.ensures.value, c.deref-3.ensures.value)
    (counts_fit (all_indexed c.args.units.now c.args.table.now) c.in_ok-names.field-0.items.items c.in_ok-names.field-0.names.items c.in_ok-names.ensures)

pub name_bytes-requires-clause-starts : goal.name_bytes-requires-clause-starts
name_bytes-requires-clause-starts g c κs within k d lt =
    let low = starts_low 0 c.args.units.now c.requires.units_are.follow k d lt in
    omega (arith, low, c.requires.units_are.short)

made_of : (units : List UnitHeader) (rows : List IndexRow) (entries : List Entry) (shown items : List IndexEntry) (names : List ListedName) (groups passed : List NameEntries)
    → AreSortedItems (all_indexed units entries) items names → shown ≡ items → rows ≡ rows_of (items_seen shown) → map kept_of_group groups ≡ cut items names → passed ≡ groups
    → AreMadeOf units rows passed entries
made_of units rows entries shown items names groups passed sorted is_shown are is_cut is_passed = record {
  groups_are = subst (AreGroupsOf (all_indexed units entries)) (sym is_passed) (groups_are (all_indexed units entries) items names sorted groups is_cut);
  rows_are = are ∙ ap (λ (w : List IndexEntry). rows_of (items_seen w)) is_shown ∙ sorted_rows (all_indexed units entries) items names sorted;
}

pub name_bytes-requires-clause-made : goal.name_bytes-requires-clause-made
name_bytes-requires-clause-made g c κs within = (
  c.args.table.now,
  made_of c.args.units.now c.in_ok-abbreviations.abbreviations c.args.table.now c.deref.result.now c.in_ok-names.field-0.items.items c.in_ok-names.field-0.names.items c.in_ok-groups.groups.items c.deref-4.result.now
      c.in_ok-names.ensures c.deref.ensures.value c.in_ok-abbreviations.ensures
      (rw (← c.deref-3.ensures.value, ← c.deref-2.ensures.value) c.in_ok-groups.ensures) c.deref-4.ensures.value,
)

pub returns : goal.returns
returns g c =
    let made = made_of c.args.units.now c.in_ok-abbreviations.abbreviations c.args.table.now c.deref.result.now c.in_ok-names.field-0.items.items c.in_ok-names.field-0.names.items c.in_ok-groups.groups.items c.deref-4.result.now
    c.in_ok-names.ensures c.deref.ensures.value c.in_ok-abbreviations.ensures
    (rw (← c.deref-3.ensures.value, ← c.deref-2.ensures.value) c.in_ok-groups.ensures) c.deref-4.ensures.value in
    let written = c.name_bytes.ensures in
    record {
      names = written.names c.args.table.now made;
      strings = written.strings c.args.table.now made;
      fits = written.fits c.args.table.now made;
      too_large = written.too_large c.args.table.now made;
    }
