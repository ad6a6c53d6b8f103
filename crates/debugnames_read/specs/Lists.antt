-- The lists of entries by the places of the pool where they begin.
use Rattle.std.specs.Prelude.{IsOk, ◌≡◌, ℕ, ◌+◌, ◌≤◌, true, List, length, Result}
use Rattle.ix_base.specs.declared.fault.Fault.{Fault}
use Rattle.ix_base.specs.Reading.{Input, past}
use Rattle.index_model.specs.NameIndexRead.{NameHit, entries_at}
use Rattle.index_model.specs.NameTables.{Tables}
use Rattle.debugnames_read.specs.declared.checked.Checked.{Checked}
use Rattle.debugnames_read.specs.Abbreviations.{abbreviations_in}
use Rattle.debugnames_read.specs.Checked.{is_checked}

-- the entries from a place on, or their first fault
abbrev pub list_from : Tables → Input → Result (List NameHit) Fault
list_from t i = entries_at t (abbreviations_in t.abbreviations) (length t.pool.rest + 1) i

-- a place of the pool
pub record IsIn (pool i : Input) : Type 0 where
  pub passed : ℕ
  pub within : passed ≤ length pool.rest
  pub is : i ≡ past passed pool

-- the entries from each of these places of the pool on have no fault
abbrev pub AreSound : Tables → Checked → Type 0
AreSound t c = (k : ℕ) → is_checked c k ≡ true → IsOk (list_from t (past k t.pool))
