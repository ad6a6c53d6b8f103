-- A module of the definitions is checked where something names it. Here stand those that no contract of this crate names.
use Rattle.std.proofs.Common.{ℕ, List, Option, Result}
use Rattle.ix_base.specs.declared.fault.Fault.{Fault}
use Rattle.index_model.specs.Gives.{Stop}
use Rattle.index_model.specs.declared.answer.CacheSize.{CacheSize}
use Rattle.index_model.specs.declared.answer.Reply.{Reply as Replied}
use Rattle.index_model.specs.declared.shard.Shard.{Shard}
use Rattle.index_model.specs.Gives.{Gives}
use Rattle.index_model.specs.Sections.{Section}
use Rattle.index_model.specs.Program.{Walked}
use Rattle.index_model.specs.Answers.{Reply}
use Rattle.index_model.specs.Texts.{text_of_line}
use Rattle.index_model.specs.Seen.{reply_seen}
use Rattle.index_model.specs.Shards.{StandsFor}
use Rattle.index_model.specs.Faults.{Built}
use Rattle.index_model.specs.Transcripts.{transcript_of}
use Rattle.index_model.specs.NameIndexRead.{NameIndex, name_index}

-- what is written for a line
abbrev written : List ℕ → CacheSize → List ℕ → Option (ℕ × List ℕ)
written = text_of_line

-- what a reply is
abbrev seen : Replied → Reply
seen = reply_seen

-- what a shard stands for
abbrev stands : List Section → Shard → List Walked → Type 0
stands = StandsFor

-- what a call gives
abbrev gives : {X Y : Type 0} → (X → Y) → Result X Stop → Result Y Fault → Type 0
gives = Gives

-- what a session writes
abbrev session : Result Built Fault → CacheSize → List (List ℕ) → List ℕ → List ℕ
session = transcript_of

-- what a `.debug_names` means
abbrev names : List ℕ → List ℕ → ℕ → Result NameIndex Fault
names = name_index
