-- What is written of an index that may be kept, with what the files hold then.
use Rattle.std.specs.Prelude.{◌≡◌, ℕ, List, Option, Some, ⊤}
use Rattle.outside.specs.Files.{Files, SameFiles}
use Rattle.outside.specs.Written.{AppendsPrefix}
use Rattle.query_text.specs.Questions.{Question}
use Rattle.command_base.specs.Replies.{OfFileBytes, PrefixOf, Writes, line_of}
use Rattle.command_base.specs.declared.status.Status.{Status}
use Rattle.command_base.specs.declared.status.Status.TheVariants.{Answered, Refused, WriteFault, IndexTooLarge}
use Rattle.cached_command.specs.Cached.{LooksFirst, SaysTied}
use Rattle.cached_command.specs.Caches.{IsCached}
use Rattle.index_cmd.specs.Requests.{Request, OfCached}

-- the line of this status may be cut: that an index is too large is said only where no kept one answered
abbrev pub MayCutLine : Option Files → List ℕ → List ℕ → Type 0 → Status → Type 0
MayCutLine told file store kept_reads IndexTooLarge = OfFileBytes told file (λ bytes. LooksFirst told bytes store kept_reads IndexTooLarge)
MayCutLine told file store kept_reads other = ⊤

-- A write failed: of an answer or of the first fault, a prefix of which was appended, with what the files hold then; or of the line of
-- another status, before which nothing was stored.
pub data IsCutShort (told shelf : Option Files) (file store : List ℕ) (q : Question) (kept_reads stores : Type 0) (old new : Option (List ℕ)) : Type 0 where
  in_result : OfFileBytes told file (λ bytes. PrefixOf (SaysTied told shelf bytes store q kept_reads stores) old new) → IsCutShort told shelf file store q kept_reads stores old new
  in_line : (status : Status) (line : List ℕ) → line_of status ≡ Some line → MayCutLine told file store kept_reads status → SameFiles told shelf → AppendsPrefix old new line → IsCutShort told shelf file store q kept_reads stores old new

-- Where an index that may be kept was asked: an answer is that of the kept one, or of the one that was built, which is kept then or
-- isn't; a later fault, or that the index is too large, is said only where no kept one answered. Where a write failed, what was appended is
-- a front of such a text, and what was stored goes with it. Of other requests nothing is said here.
abbrev pub UsesKept : Option Request → Option Files → Option Files → Type 0 → Type 0 → Option (List ℕ) → Option (List ℕ) → Status → Type 0
UsesKept (Some (OfCached file store q)) told shelf kept_reads stores old new Answered = Writes old new (λ text. OfFileBytes told file (λ bytes. IsCached told shelf bytes store q kept_reads stores text))
UsesKept (Some (OfCached file store q)) told shelf kept_reads stores old new Refused = OfFileBytes told file (λ bytes. LooksFirst told bytes store kept_reads Refused)
UsesKept (Some (OfCached file store q)) told shelf kept_reads stores old new IndexTooLarge = OfFileBytes told file (λ bytes. LooksFirst told bytes store kept_reads IndexTooLarge)
UsesKept (Some (OfCached file store q)) told shelf kept_reads stores old new WriteFault = IsCutShort told shelf file store q kept_reads stores old new
UsesKept request told shelf kept_reads stores old new status = ⊤
