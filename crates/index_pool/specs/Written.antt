-- The index of a file that has no fault, by what its core has published.
use Rattle.std.specs.Prelude.{◌≡◌, ℕ, ◌==◌, if◌then◌else◌, List, Ok, IsOkAnd, ⊤}
use Rattle.file_image.specs.Images.{Image}
use Rattle.index_model.specs.declared.entry.Entry.{Entry}
use Rattle.index_model.specs.declared.job.CacheKind.{CacheKind}
use Rattle.index_model.specs.declared.job.CacheKind.TheVariants.{Gdb8, Gdb9}
use Rattle.index_model.specs.Answers.{entries_in}
use Rattle.index_model.specs.Cache.{cache_in}
use Rattle.index_model.specs.Faults.{Built, built_of}
use Rattle.index_model.specs.Machine.{Output, Memory, Gave}
use Rattle.index_model.specs.MainProgram.{main_of}
use Rattle.index_model.specs.Outputs.{Summary, Made, CacheOf}
use Rattle.index_model.specs.Pieces.{IsPieces}

-- main, the map and the entries are those of the image's file, which has no fault
pub record ArePublished (image : Image) (m : Summary) (entries : List Entry) : Type 0 where
  pub built : Built
  pub accepted : built_of image.file ≡ Ok built
  pub main : m.main ≡ main_of built.program built.links
  pub map : IsPieces built.ranges m.map
  pub entries_are : entries ≡ entries_in built

-- the kind of a `.gdb_index` of this version
abbrev pub kind_of_version : ℕ → CacheKind
kind_of_version version = if version == 9 then Gdb9 else Gdb8

-- the index of this kind of the image's file, or want of memory
abbrev pub IsIndexOf : Image → CacheKind → Output Made → Type 0
IsIndexOf image kind Memory = ⊤
IsIndexOf image kind (Gave (CacheOf c)) = IsOkAnd (built_of image.file) (λ b. c ≡ cache_in kind b)
IsIndexOf image kind other = ⊥
