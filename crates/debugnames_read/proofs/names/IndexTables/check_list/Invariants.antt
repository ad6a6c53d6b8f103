use Rattle.std.proofs.Common.{◌≡◌, ◌+◌, ◌-◌, ◌≤◌, length}
use Rattle.index_model.specs.Meaning.{wrong_in}
use Rattle.index_model.specs.NameIndexRead.{entries_at}
use Rattle.debugnames_read.specs.Abbreviations.{abbreviations_in}
use Rattle.debugnames_read.specs.Lists.{list_from, IsIn}
use Rattle.debugnames_read.specs.Names.{tables_of}
use Rattle.debugnames_read.proofs.ListLaws.{IsSoundBehind}
use Rattle.debugnames_read.proofs.names.IndexTables.check_list.Given as goal

-- the first fault is that of the entries that are left, which are in the pool
abbrev pub invariant-entries : goal.invariant-entries
invariant-entries l =
    let t = tables_of l.self in
    record {
      left : wrong_in (entries_at t (abbreviations_in t.abbreviations) (l.end - l.counter) l.cursor) ≡ wrong_in (list_from t l.fn.cursor);
      inside : IsIn t.pool l.cursor;
      few : length l.cursor.rest + l.counter ≤ length t.pool.rest;
      sound : IsSoundBehind t l.checked l.cursor;
    }
