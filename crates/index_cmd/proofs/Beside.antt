-- A second file is read behind the first.
use Rattle.std.proofs.Common.{◌≡◌, ℕ, ◌≤◌, List, length, Option, refl}
use Rattle.outside.specs.Files.{Files}
use Rattle.outside.proofs.WrittenLaws.{appends_none}
use Rattle.command_base.specs.FilesRead.{Holds, HoldsMore}
use Rattle.command_base.specs.Replies.{CausesOfResult, Wrote}
use Rattle.command_base.specs.Stops.{stop_status}
use Rattle.command_base.specs.declared.file.Unread.{Unread}
use Rattle.command_base.specs.declared.file.Unread.TheVariants as unread
use Rattle.ix_base.specs.declared.or_memory.OrMemory.{OrMemory}
use Rattle.ix_base.specs.declared.or_memory.OrMemory.TheVariants as stops
use Rattle.command_base.specs.declared.status.Status.{Status}
use Rattle.command_base.specs.declared.status.Status.TheVariants.{Answered, Refused, Usage, ReadFault, StoreFault, WriteFault, NoMemory, IndexRefused, TableRefused, IndexTooLarge, FileTooBig, AlreadyIndexed, TooManySections, InputFault, InputTooLong, Stopped}
use Rattle.command_base.proofs.ReplyLaws.{wrote_weaker}
use Rattle.race_command.specs.RaceEnds.{CausesOfRace}
use Rattle.index_cmd.specs.Doings.{CausesBeside, SaysBeside}

-- what is said of its bytes
pub wrote_beside : (told : Option Files) (file held : List ℕ) (most : ℕ) (Meaning : List ℕ → Status → List ℕ → Type 0) → Holds told file held → length held ≤ most → (status : Status) (old new : Option (List ℕ)) → Wrote (Meaning held) status old new → Wrote (SaysBeside told file most Meaning) status old new
wrote_beside told file held most Meaning holds small status old new w = wrote_weaker (Meaning held) (SaysBeside told file most Meaning) (λ s text says. (held, holds, small, says)) status old new w

-- where it wasn't read, nothing is written
pub wrote_stopped : (Says : Status → List ℕ → Type 0) (out : Option (List ℕ)) (stop : OrMemory Unread) → Wrote Says (stop_status stop) out out
wrote_stopped Says out (stops.Cause unread.Fault) = appends_none out
wrote_stopped Says out (stops.Cause unread.TooBig) = appends_none out
wrote_stopped Says out stops.Memory = appends_none out

module _ (told : Option Files) (file : List ℕ) (most : ℕ) (reads writes : Type 0) where
  pub causes_stopped : (stop : OrMemory Unread) → (stop ≡ stops.Cause unread.Fault → reads) → (stop ≡ stops.Cause unread.TooBig → HoldsMore told file most) → CausesBeside told file most reads writes (stop_status stop)
  causes_stopped (stops.Cause unread.Fault) fault big = fault refl
  causes_stopped (stops.Cause unread.TooBig) fault big = big refl
  causes_stopped stops.Memory fault big = tt

  pub causes_looked : (status : Status) → CausesOfResult writes status → CausesBeside told file most reads writes status
  causes_looked Answered c = tt
  causes_looked Refused c = tt
  causes_looked Usage c = absurd c
  causes_looked ReadFault c = absurd c
  causes_looked StoreFault c = absurd c
  causes_looked WriteFault c = c
  causes_looked NoMemory c = tt
  causes_looked IndexRefused c = tt
  causes_looked (TableRefused table) c = absurd c
  causes_looked IndexTooLarge c = absurd c
  causes_looked FileTooBig c = absurd c
  causes_looked AlreadyIndexed c = absurd c
  causes_looked TooManySections c = absurd c
  causes_looked InputFault c = absurd c
  causes_looked InputTooLong c = absurd c
  causes_looked Stopped c = absurd c

  pub causes_raced : (status : Status) → CausesOfRace writes status → CausesBeside told file most reads writes status
  causes_raced Answered c = tt
  causes_raced Refused c = tt
  causes_raced Usage c = absurd c
  causes_raced ReadFault c = absurd c
  causes_raced StoreFault c = absurd c
  causes_raced WriteFault c = c
  causes_raced NoMemory c = absurd c
  causes_raced IndexRefused c = absurd c
  causes_raced (TableRefused table) c = absurd c
  causes_raced IndexTooLarge c = absurd c
  causes_raced FileTooBig c = absurd c
  causes_raced AlreadyIndexed c = absurd c
  causes_raced TooManySections c = absurd c
  causes_raced InputFault c = absurd c
  causes_raced InputTooLong c = tt
  causes_raced Stopped c = tt
