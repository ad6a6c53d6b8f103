use Rattle.std.proofs.Common.{◌≡◌, ap, sym, ◌∙◌, arith}
use Rattle.index_model.specs.declared.index_code.TheConstants.{NAMES_ENTRY_POOL}
use Rattle.index_model.specs.Meaning.{fault, wrong_in}
use Rattle.debugnames_read.specs.Abbreviations.{abbreviations_in}
use Rattle.debugnames_read.specs.Names.{tables_of}
use Rattle.debugnames_read.proofs.Counted.{entry_place, entry_total}
use Rattle.debugnames_read.proofs.ListLaws.{list_inside}
use Rattle.debugnames_read.proofs.NameLaws.{list_found, no_list, pool_wrong}
use Rattle.debugnames_read.proofs.names.IndexTables.check_entries.Goals as goal

pub place-requires : goal.place-requires
place-requires c = omega (arith, entry_total c.args.self.now.tables, c.requires.within)

pub returns-in-None-clause-value : goal.returns-in-None-clause-value
returns-in-None-clause-value c =
    let t = tables_of c.args.self.now in
    let abbrevs = abbreviations_in t.abbreviations in
    let k = c.args.number in
    let is : c.fault.result ≡ pool_wrong t abbrevs k = c.fault.ensures ∙ ap (fault NAMES_ENTRY_POOL) (c.place.ensures ∙ entry_place c.args.self.now.tables k) in
    rw is (sym (ap wrong_in (no_list t abbrevs k (sym c.in-None.ensures))))

pub check_list-requires-clause-inside : goal.check_list-requires-clause-inside
check_list-requires-clause-inside c = list_inside (tables_of c.args.self.now) c.args.number c.in-Some.cursor (sym c.in-Some.ensures)

pub returns-in-Some-clause-value : goal.returns-in-Some-clause-value
returns-in-Some-clause-value c =
    let t = tables_of c.args.self.now in
    let abbrevs = abbreviations_in t.abbreviations in
    c.check_list.ensures.value ∙ sym (ap wrong_in (list_found t abbrevs c.args.number c.in-Some.cursor (sym c.in-Some.ensures)))
