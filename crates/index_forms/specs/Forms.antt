-- The forms of indexes: their kinds (GDB manual, index section format; DWARF 5, 6.1.1).
use Rattle.std.specs.Prelude.{ℕ, Option, Some, None}
use Rattle.index_model.specs.declared.job.CacheKind.{CacheKind}
use Rattle.index_model.specs.declared.job.CacheKind.TheVariants.{Gdb8, Gdb9, Names}
use Rattle.index_forms.specs.declared.form.GdbVersion.{GdbVersion}
use Rattle.index_forms.specs.declared.form.GdbVersion.TheVariants.{Eight, Nine}
use Rattle.index_forms.specs.declared.form.IndexForm.{IndexForm}
use Rattle.index_forms.specs.declared.form.IndexForm.TheVariants.{ByDwarf, ByGdb}

-- the number of a version
abbrev pub version_number : GdbVersion → ℕ
version_number Eight = 8
version_number Nine = 9

-- the index of a kind by gdb's rules, which are of the `.gdb_index` alone
abbrev pub by_gdb : CacheKind → Option IndexForm
by_gdb Gdb8 = Some (ByGdb Eight)
by_gdb Gdb9 = Some (ByGdb Nine)
by_gdb Names = None

-- the kind of an index
abbrev pub kind_of : IndexForm → CacheKind
kind_of (ByDwarf kind) = kind
kind_of (ByGdb Eight) = Gdb8
kind_of (ByGdb Nine) = Gdb9
