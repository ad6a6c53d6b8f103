use Rattle.std.proofs.Common.{◌≡◌, ◌<◌, ◌-◌}
use Rattle.index_model.specs.NameIndexRead.{name_at}
use Rattle.debugnames_read.specs.Abbreviations.{abbreviations_in}
use Rattle.debugnames_read.specs.Lists.{AreSound}
use Rattle.debugnames_read.specs.Names.{tables_of, IsRight}
use Rattle.debugnames_read.proofs.NameLaws.{fault_from}
use Rattle.debugnames_read.proofs.names.IndexTables.check.Given as goal

-- the first fault is that of the names that are left, the name before them has none, and no list that was checked has one
abbrev pub invariant-loop-number : goal.invariant-loop-number
invariant-loop-number l =
    let t = tables_of l.self in
    let name = name_at t (abbreviations_in t.abbreviations) l.self.strings.now l.self.base in
    record {
      left : fault_from name l.number l.count ≡ fault_from name 0 l.count;
      before : 0 < l.number → IsRight l.self (l.number - 1);
      checked : AreSound t l.checked;
    }
