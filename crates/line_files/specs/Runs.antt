-- The files of a run of units with a name.
use Rattle.std.specs.Prelude.{◌≡◌, ◌+◌, ◌-◌, ◌*◌, ◌≤◌, ℕ, zero, suc, min, List, [], ◌∷◌, flat_map, take, drop, codes, length, Vec, Option, Result, Ok}
use Rattle.std.specs.declared.alloc.Global.{Global}
use Rattle.std.specs.List.{AllZip, enumerate_from}
use Rattle.std.specs.Option.{ForSome}
use Rattle.ix_base.specs.declared.fault.Fault.{Fault}
use Rattle.index_model.specs.declared.unit.Unit.{Unit as UnitHeader}
use Rattle.index_model.specs.Meaning.{◌>>=◌, each}
use Rattle.index_model.specs.Sections.{Section, section_bytes}
use Rattle.index_model.specs.Gives.{Stop}
use Rattle.index_model.specs.Gives.{Gives}
use Rattle.file_image.specs.Front.{with_front}
use Rattle.file_image.specs.Images.{Image}
use Rattle.reach_model.specs.LineTables.{FileHit, FileName, files_at, hits_in}
use Rattle.line_files.specs.declared.found.FileHit.{FileHit as FoundHit}
use Rattle.line_files.specs.declared.run.Last.{Last}
use Rattle.line_files.specs.declared.run.FilesSoFar.{FilesSoFar}
use Rattle.line_files.specs.Found.{hits_seen}
use Rattle.entry_scan.specs.TablesAtOffsets.{IsAtOffset}
use Rattle.line_files.specs.Places.{files_by}

-- the files of a unit that match
abbrev pub matches : ℕ → List ℕ → Result (List FileName) Fault → Result (List FileHit) Fault
matches number name files = files >>= λ fs. Ok (hits_in number name fs)

-- the same, by the unit's header
abbrev pub unit_hits_by : List Section → List ℕ → ℕ × UnitHeader → Result (List FileHit) Fault
unit_hits_by ss name u = matches u.0 name (files_by ss u)

-- those of some units
abbrev pub all_hits : List Section → List ℕ → List (ℕ × UnitHeader) → Result (List FileHit) Fault
all_hits ss name us = each (unit_hits_by ss name) us >>= λ hits. Ok (flat_map (λ found. found) hits)

-- the units from a number on up to another
abbrev pub units_between : List UnitHeader → ℕ → ℕ → List (ℕ × UnitHeader)
units_between us from to = enumerate_from from (take (to - from) (drop from us))

-- their files
abbrev pub hits_between : Image → List ℕ → ℕ → ℕ → Result (List FileHit) Fault
hits_between im name from to = all_hits im.sections name (units_between im.units from to)

-- the same file in the table of a unit
abbrev pub in_unit : ℕ → FileHit → FileHit
in_unit number h = record { unit = number; file = h.file }

-- the hits from the first on are those of the table, for some unit
pub record AreOfTable (ss : List Section) (name : List ℕ) (hits : List FileHit) (l : Last) : Type 0 where
  pub number : ℕ
  pub files : List FileName
  pub read : files_at ss l.place ≡ Ok files
  pub within : l.first ≤ length hits
  pub are : drop l.first hits ≡ hits_in number name files

-- the table that was read last
abbrev pub IsLast : List Section → List ℕ → List FileHit → Option Last → Type 0
IsLast ss name hits last = ForSome last (AreOfTable ss name hits)

-- what the next unit may have in common with the one before is right
pub record IsRun (ss : List Section) (r : FilesSoFar) : Type 0 where
  pub last : IsLast ss r.name.now (hits_seen r.hits.items) r.last
  pub at_hand : ForSome r.at_hand (IsAtOffset (section_bytes ss (codes ".debug_abbrev")))

-- ---- runs

-- the number of the first unit of a run, where there are so many units and each run has this size
abbrev pub run_start : ℕ → ℕ → ℕ → ℕ
run_start count size run = min (run * size) count

-- the files of n runs, the first of them with this number
abbrev pub hits_of_runs : Image → List ℕ → ℕ → ℕ → ℕ → ℕ → List (Result (List FileHit) Fault)
hits_of_runs im name count size first zero = []
hits_of_runs im name count size first (suc n) = hits_between im name (run_start count size first) (run_start count size (first + 1)) ∷ hits_of_runs im name count size (first + 1) n

-- the files of some units, and those of others behind them
abbrev pub joined : Result (List FileHit) Fault → Result (List FileHit) Fault → Result (List FileHit) Fault
joined front back = front >>= λ hs. with_front hs back

-- those of several runs
abbrev pub all_joined : List (Result (List FileHit) Fault) → Result (List FileHit) Fault
all_joined [] = Ok []
all_joined (m ∷ ms) = joined m (all_joined ms)

-- an answer that gives the files of some units
abbrev pub GivesHits : Result (Vec FoundHit Global) Stop → Result (List FileHit) Fault → Type 0
GivesHits = Gives (λ part. hits_seen part.items)

-- the answer gives what these answers give one behind the other
abbrev pub IsJoined : List (Result (Vec FoundHit Global) Stop) → Result (Vec FoundHit Global) Stop → Type 0
IsJoined parts answer = (ms : List (Result (List FileHit) Fault)) → AllZip GivesHits parts ms → GivesHits answer (all_joined ms)
