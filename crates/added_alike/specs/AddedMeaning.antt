-- The laws of what a program with sections added means, as statements.
use Rattle.std.specs.Prelude.{◌≡◌, ◌≢◌, ◌<◌, ◌≤◌, ◌^◌, ℕ, false, List, length, bytes_eq, codes, Some, Ok}
use Rattle.std.specs.List.{AllByRecursion as AllOf}
use Rattle.ix_base.specs.declared.limits.TheConstants.{MAX_FILE_BYTES}
use Rattle.index_model.specs.declared.job.CacheKind.{CacheKind}
use Rattle.index_model.specs.Sections.{Section, index_named, names_index}
use Rattle.index_model.specs.Cache.{cache_in}
use Rattle.index_model.specs.Faults.{Built, built_of}
use Rattle.reach_model.specs.Added.{Addition, added}
use Rattle.reach_model.specs.AddedIndex.{addition_of, is_indexed}
use Rattle.reach_model.specs.AddedSections.{AreBytes, Fits, IsClearOfTheHeader}
use Rattle.grown_alike.specs.Grown.{MeansTheSame}

-- the names of sections stand in no section of units
pub record NamesAreApart (file : List ℕ) (sections : List Section) : Type 0 where
  pub info : index_named sections (codes ".debug_info") ≢ Some (names_index file)
  pub types : index_named sections (codes ".debug_types") ≢ Some (names_index file)

-- the file has no fault, and means what the program means
abbrev pub IsAccepted : Built → List ℕ → Type 0
IsAccepted b file = (c : Built) × (built_of file ≡ Ok c) × MeansTheSame b c

-- a program without a fault has none with sections added either, none of which holds units, and means the same
abbrev pub AddedProgramsMeanTheSame : Type 0
AddedProgramsMeanTheSame = (file : List ℕ) (b : Built) (addition : Addition) → AreBytes file →
    built_of file ≡ Ok b → IsClearOfTheHeader file → NamesAreApart file b.program.sections →
    Fits file b.program.sections addition → AllOf (λ s. bytes_eq s.name (codes ".debug_types") ≡ false) addition.sections →
    IsAccepted b (added file b.program.sections addition)

-- so has a program within the limit to which its index is added
abbrev pub IndexedProgramsMeanTheSame : Type 0
IndexedProgramsMeanTheSame = (file : List ℕ) (b : Built) (kind : CacheKind) (addition : Addition) → AreBytes file → length file ≤ MAX_FILE_BYTES →
    built_of file ≡ Ok b → IsClearOfTheHeader file → NamesAreApart file b.program.sections →
    is_indexed kind b.program.sections ≡ false → addition_of (cache_in kind b) ≡ Some addition →
    length (added file b.program.sections addition) < 2 ^ 64 →
    IsAccepted b (added file b.program.sections addition)
