-- The law of a written index of what gdb lists that is read, as a statement (GDB manual, index section format).
use Rattle.std.specs.Prelude.{◌≡◌, ℕ, List, Option, None, Ok}
use Rattle.index_model.specs.declared.answer.Main.{Main}
use Rattle.index_model.specs.Cache.{GdbBytes}
use Rattle.index_model.specs.Faults.{Built, built_of}
use Rattle.index_model.specs.MainProgram.{main_of}
use Rattle.index_alike.specs.GdbAlike.{ReadsAs}
use Rattle.gdb_entries.specs.Entries.{listed}
use Rattle.index_forms.specs.declared.form.GdbVersion.{GdbVersion}
use Rattle.index_forms.specs.declared.form.GdbVersion.TheVariants.{Eight, Nine}
use Rattle.index_forms.specs.declared.form.IndexForm.TheVariants.{ByGdb}
use Rattle.gdb_index.specs.Indexes.{index_in, main_listed}

-- the index of a version, of an accepted file, where it isn't too large, answers of the entries that gdb lists
abbrev ReadsAsListed : GdbVersion → (Built → Option Main) → Type 0
ReadsAsListed version main = (file : List ℕ) (b : Built) (bytes : List ℕ) → built_of file ≡ Ok b → index_in (ByGdb version) b ≡ GdbBytes bytes → ReadsAs b (listed b.program) (main b) bytes

-- version 8 says no main
abbrev pub ListedIndex8ReadsAlike : Type 0
ListedIndex8ReadsAlike = ReadsAsListed Eight (λ b. None)

-- version 9 says the file's main, where one of the entries has its name
abbrev pub ListedIndex9ReadsAlike : Type 0
ListedIndex9ReadsAlike = ReadsAsListed Nine (λ b. main_listed (listed b.program) (main_of b.program b.links))
