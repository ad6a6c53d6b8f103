-- The index of a program that is kept by its build-id, and what `cached` says of it.
use Rattle.std.specs.Prelude.{◌≡◌, ℕ, ◌≤◌, List, ◌++◌, length, Option, Some, None, Result, Ok, Err}
use Rattle.ix_base.specs.declared.fault.Fault.{Fault}
use Rattle.ix_base.specs.declared.limits.TheConstants.{MAX_FILE_BYTES}
use Rattle.index_model.specs.declared.job.CacheKind.TheVariants.{Gdb9}
use Rattle.index_model.specs.Cache.{GdbBytes, DoesNotFit, cache_in}
use Rattle.index_model.specs.GdbIndexRead.{GdbIndex}
use Rattle.index_model.specs.Meaning.{◌>>=◌, fault}
use Rattle.query_text.specs.Questions.{Question}
use Rattle.file_image.specs.Images.{image_of}
use Rattle.reach_model.specs.BuildIds.{build_id_of, cache_name}
use Rattle.reach_model.specs.KeptIndexes.{kept_bytes, kept_index}
use Rattle.reach_model.specs.KeptTexts.{text_of_hit, text_of_stale, text_of_stored, text_of_unsaved}
use Rattle.reach_model.specs.declared.code.TheConstants.{KEPT_TOO_LARGE}
use Rattle.outside.specs.Files.{Files, SameFiles, Stored, StoredOrPrefix}
use Rattle.command_base.specs.FilesRead.{Holds, HoldsMore}
use Rattle.command_base.specs.GdbLooks.{gdb_text, IsGdbAnswerOf}
use Rattle.command_base.specs.Tables.{ForBuilt}

-- ---- a program

-- its build-id, or none; or the first fault of its sections and units' headers
abbrev pub id_of : List ℕ → Result (Option (List ℕ)) Fault
id_of file = image_of file >>= λ image. Ok (build_id_of image.sections)

-- its sections or its units' headers have this fault
abbrev pub FaultsEarly : List ℕ → Fault → Type 0
FaultsEarly file f = image_of file ≡ Err f

-- the bytes are its `.gdb_index` of version 9, and it has no fault
abbrev pub IsIndexOf : List ℕ → List ℕ → Type 0
IsIndexOf file bytes = ForBuilt file (λ b. cache_in Gdb9 b ≡ GdbBytes bytes)

-- that index is too large, and it has no fault
abbrev pub IsTooLarge : List ℕ → Type 0
IsTooLarge file = ForBuilt file (λ b. cache_in Gdb9 b ≡ DoesNotFit)

-- ---- why no kept index answers

-- the name of a program's index holds this: something of which the index has a fault, or more than is read
pub data IsStale (told : Option Files) (name id : List ℕ) : Fault → Type 0 where
  refused : (kept : List ℕ) (f : Fault) → Holds told name kept → length kept ≤ MAX_FILE_BYTES → kept_index kept id ≡ Err f → IsStale told name id f
  too_large : HoldsMore told name MAX_FILE_BYTES → IsStale told name id (fault KEPT_TOO_LARGE 0)

-- the program has no build-id, a read of what is kept failed, or what was read has this fault
pub data IsMissed (told : Option Files) (file store : List ℕ) (kept_reads : Type 0) : Option Fault → Type 0 where
  without_id : id_of file ≡ Ok None → IsMissed told file store kept_reads None
  unread : (id : List ℕ) → id_of file ≡ Ok (Some id) → kept_reads → IsMissed told file store kept_reads None
  stale : (id : List ℕ) (f : Fault) → id_of file ≡ Ok (Some id) → IsStale told (cache_name store id) id f → IsMissed told file store kept_reads (Some f)

-- ---- what is said, and what the files hold then

-- the kept index answers
pub record IsHit (before after : Option Files) (file store : List ℕ) (q : Question) (text : List ℕ) : Type 0 where
  pub id : List ℕ
  pub own : id_of file ≡ Ok (Some id)
  pub kept : List ℕ
  pub held : Holds before (cache_name store id) kept
  pub small : length kept ≤ MAX_FILE_BYTES
  pub index : GdbIndex
  pub accepted : kept_index kept id ≡ Ok index
  pub answer : List ℕ
  pub answers : gdb_text index q ≡ Some answer
  pub text_is : text ≡ text_of_hit ++ answer
  pub same : SameFiles before after

-- the index was built, answers, and is kept now
pub record IsStored (before after : Option Files) (file store : List ℕ) (q : Question) (kept_reads : Type 0) (text : List ℕ) : Type 0 where
  pub why : Option Fault
  pub missed : IsMissed before file store kept_reads why
  pub bytes : List ℕ
  pub index : IsIndexOf file bytes
  pub answer : List ℕ
  pub answers : IsGdbAnswerOf bytes q answer
  pub text_is : text ≡ text_of_stale why ++ (text_of_stored ++ answer)
  pub id : List ℕ
  pub own : id_of file ≡ Ok (Some id)
  pub stored : Stored before after (cache_name store id) (kept_bytes id bytes)

-- the index isn't kept: the program has no build-id, or the store failed
pub data IsNotKept (before after : Option Files) (file store bytes : List ℕ) (stores : Type 0) : Type 0 where
  nowhere : id_of file ≡ Ok None → SameFiles before after → IsNotKept before after file store bytes stores
  failed : (id : List ℕ) → id_of file ≡ Ok (Some id) → stores → StoredOrPrefix before after (cache_name store id) (kept_bytes id bytes) → IsNotKept before after file store bytes stores

-- the index was built, answers, and isn't kept
pub record IsUnsaved (before after : Option Files) (file store : List ℕ) (q : Question) (kept_reads stores : Type 0) (text : List ℕ) : Type 0 where
  pub why : Option Fault
  pub missed : IsMissed before file store kept_reads why
  pub bytes : List ℕ
  pub index : IsIndexOf file bytes
  pub answer : List ℕ
  pub answers : IsGdbAnswerOf bytes q answer
  pub text_is : text ≡ text_of_stale why ++ (text_of_unsaved ++ answer)
  pub not_kept : IsNotKept before after file store bytes stores

-- what is written, and what the files hold then, by whether a read of what is kept failed, and a store
pub data IsCached (before after : Option Files) (file store : List ℕ) (q : Question) (kept_reads stores : Type 0) (text : List ℕ) : Type 0 where
  hit : IsHit before after file store q text → IsCached before after file store q kept_reads stores text
  stored : IsStored before after file store q kept_reads text → IsCached before after file store q kept_reads stores text
  unsaved : IsUnsaved before after file store q kept_reads stores text → IsCached before after file store q kept_reads stores text
