-- The index of a file in each form (GDB manual, index section format; gdb/dwarf2/index-write.c).
use Rattle.std.specs.Prelude.{ℕ, if◌then◌else◌, List, map, Option, Some, None}
use Rattle.std.specs.List.{list_any}
use Rattle.index_model.specs.declared.answer.Main.{Main}
use Rattle.index_model.specs.declared.entry.Entry.{Entry}
use Rattle.index_model.specs.declared.range.UnitRange.{UnitRange}
use Rattle.index_model.specs.declared.unit.Unit.{Unit as UnitHeader}
use Rattle.index_model.specs.Answers.{is_named}
use Rattle.index_model.specs.Cache.{Cache, gdb_cache, cache_in}
use Rattle.index_model.specs.Faults.{Built}
use Rattle.index_model.specs.GdbIndex.{gdb_index_bytes}
use Rattle.index_model.specs.MainProgram.{main_of}
use Rattle.index_model.specs.Pieces.{pieces}
use Rattle.index_model.specs.Program.{Program}
use Rattle.gdb_entries.specs.Entries.{listed}
use Rattle.index_forms.specs.Forms.{version_number}
use Rattle.index_forms.specs.declared.form.GdbVersion.{GdbVersion}
use Rattle.index_forms.specs.declared.form.IndexForm.{IndexForm}
use Rattle.index_forms.specs.declared.form.IndexForm.TheVariants.{ByDwarf, ByGdb}

-- main, where one of the entries has its name
abbrev pub main_listed : List Entry → Option Main → Option Main
main_listed entries (Some main) = if list_any (is_named main.name) entries then Some main else None
main_listed entries None = None

-- the bytes of the `.gdb_index` over these units, pieces of addresses and main, of the entries that gdb lists
abbrev pub listed_bytes : Program → List UnitHeader → List UnitRange → Option Main → GdbVersion → List ℕ
listed_bytes p units pieces main version =
    let entries = listed p in
    gdb_index_bytes units pieces (main_listed entries main) entries (version_number version)

-- those of an accepted file
unfoldable pub gdb_bytes : Built → GdbVersion → List ℕ
gdb_bytes b version = listed_bytes b.program (map (λ w. w.unit) b.program.walks) (pieces b.ranges) (main_of b.program b.links) version

-- the index of an accepted file in a form
abbrev pub index_in : IndexForm → Built → Cache
index_in (ByDwarf kind) b = cache_in kind b
index_in (ByGdb version) b = gdb_cache (gdb_bytes b version)
