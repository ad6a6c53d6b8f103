-- The entries of the pool, one by one.
use Rattle.std.specs.Prelude.{ℕ, ◌==◌, if◌then◌else◌, List, Option, Some, None, Result, Ok}
use Rattle.ix_base.specs.declared.fault.Fault.{Fault}
use Rattle.ix_base.specs.Reading.{Input, uleb, ◌>>=◌ as ◌>>=?◌}
use Rattle.index_model.specs.declared.index_code.TheConstants.{NAMES_ENTRY_POOL}
use Rattle.index_model.specs.Meaning.{◌>>=◌, fault, some_or}
use Rattle.index_model.specs.NameAbbreviations.{Abbreviation}
use Rattle.index_model.specs.NameIndexRead.{NameHit as HitOf, Sort as SortOf, Compile, Local, Foreign, entry_with, number_or_none, unit_of}
use Rattle.index_model.specs.NameTables.{Tables}
use Rattle.debugnames_read.specs.declared.entry.Sort.{Sort}
use Rattle.debugnames_read.specs.declared.entry.Sort.TheVariants as of
use Rattle.debugnames_read.specs.declared.entry.NameHit.{NameHit}
use Rattle.debugnames_read.specs.Values.{Kept}

-- the list of a unit
abbrev pub sort_seen : Sort → SortOf
sort_seen of.Compile = Compile
sort_seen of.Local = Local
sort_seen of.Foreign = Foreign

-- a unit
abbrev pub unit_seen : Sort × ℕ → SortOf × ℕ
unit_seen u = (sort_seen u.0, u.1)

-- an entry
abbrev pub hit_seen : NameHit → HitOf
hit_seen h = record { sort = sort_seen h.sort; unit = h.unit; tag = h.tag; offset = h.offset }

-- what the first values of the attributes say
unfoldable pub hit_by : Tables → ℕ → Kept → Option HitOf
hit_by t tag kept =
    number_or_none kept.compile_unit >>=? λ compile. number_or_none kept.type_unit >>=? λ types. number_or_none kept.die_offset >>=? λ die_offset.
    die_offset >>=? λ offset. unit_of t types compile >>=? λ unit. Some (record { sort = unit.0; unit = unit.1; tag = tag; offset = offset })

-- the entry at the front, none at the code 0
unfoldable pub entry_at : Tables → List Abbreviation → Input → Result (Option (HitOf × Input)) Fault
entry_at t abbrevs i = do
  code ← some_or (uleb i) (fault NAMES_ENTRY_POOL i.at)
  let entry = some_or (entry_with t abbrevs code.0 code.1) (fault NAMES_ENTRY_POOL i.at) >>= λ first. Ok (Some first)
  if code.0 == 0 then Ok None else entry
