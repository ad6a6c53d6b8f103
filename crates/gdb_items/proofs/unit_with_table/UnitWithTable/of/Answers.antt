use Rattle.std.proofs.Common.{ℕ, List, subst}
use Rattle.entry_scan.specs.TablesAtOffsets.{IsAtOffset}
use Rattle.shard_build.proofs.WalkOfUnit.{has_table, is_sound, its_own, its_sections, its_walk}
use Rattle.gdb_items.proofs.unit_with_table.UnitWithTable.of.Goals as goal

pub take-requires : goal.take-requires
take-requires c =
    let e = c.of-home.ensures in
    has_table c.args.image.now c.of-home.ensures.of_file c.requires.sound.0 c.requires.sound.1 c.args.number c.of-home.result e.sections e.number e.unit c.args.tables.now c.requires.tables c.requires.number

pub returns-clause-unit : goal.returns-clause-unit
returns-clause-unit c =
    let im = c.args.image.now in
    let image = c.of-home.ensures.of_file in
    let n = c.args.number in
    let h = c.of-home.result in
    let e = c.of-home.ensures in
    let bytes = c.args.tables.now in
    let section = c.requires.tables in
    let t = c.in_ok-table.table in
    let found = c.in_ok-table.ensures.value in
    let p = c.requires.sound.0 in
    let is = c.requires.sound.1 in
    record {
      within = record {
        own = its_own im image p is n h e.sections e.number e.unit bytes section e.own e.header t.abbrevs found;
        header = e.header;
        small = e.small;
        ends = e.ends;
      };
      sound = is_sound im image p is n h e.sections e.number e.unit bytes section e.own e.header t.abbrevs found c.requires.number;
      table = subst (λ (bs : List ℕ). IsAtOffset bs t) section c.in_ok-table.ensures.place;
      home = λ q file. record {
        sections = its_sections im image q file n h e.sections e.number e.unit bytes section;
        walk = λ w wc at. its_walk im image q file n h e.sections e.number e.unit bytes section e.own e.header t.abbrevs found w wc at;
      };
    }
