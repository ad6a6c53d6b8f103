-- What the shelf holds then, by what was asked.
use Rattle.std.specs.Prelude.{◌⊎◌, Option, Some}
use Rattle.outside.specs.Files.{Files, SameFiles, Stored, StoredOrPrefix}
use Rattle.command_base.specs.declared.status.Status.{Status}
use Rattle.command_base.specs.declared.status.Status.TheVariants.{Answered, StoreFault, WriteFault}
use Rattle.store_commands.specs.Stores.{ForIndex, Keeps, KeepsPart}
use Rattle.store_commands.specs.Adds.{ForNamedProgram, OfAdded}
use Rattle.command_base.specs.Replies.{OfFileBytes}
use Rattle.cached_command.specs.Cached.{MayKeep}
use Rattle.index_forms.specs.Forms.{kind_of}
use Rattle.index_cmd.specs.Requests.{Request, OfIndex, OfAdd, OfCached}

-- the index is stored, or the program with its index, where that was asked for; an index that is asked may be kept; nothing else is
-- stored
abbrev pub IsStored : Option Request → Option Files → Option Files → Type 0
IsStored (Some (OfIndex form file out)) old new = ForIndex old file form (Keeps old new out)
IsStored (Some (OfAdd form file out)) old new = ForNamedProgram old file form (OfAdded (kind_of form) (Stored old new out))
IsStored (Some (OfCached file store q)) old new = OfFileBytes old file (λ bytes. MayKeep old new bytes store)
IsStored other old new = SameFiles old new

-- A store of the index, or of the program with it, failed, and left this. Where an index may be kept, a store that failed changes no
-- status.
abbrev pub IsPartStored : Option Request → Option Files → Option Files → Type 0
IsPartStored (Some (OfIndex form file out)) old new = ForIndex old file form (KeepsPart old new out)
IsPartStored (Some (OfAdd form file out)) old new = ForNamedProgram old file form (OfAdded (kind_of form) (StoredOrPrefix old new out))
IsPartStored other old new = ⊥

-- an index that was asked may be kept, wholly or in part
abbrev pub IsMaybeKept : Option Request → Option Files → Option Files → Type 0
IsMaybeKept (Some (OfCached file store q)) old new = OfFileBytes old file (λ bytes. MayKeep old new bytes store)
IsMaybeKept other old new = ⊥

-- A write failed. The shelf holds what it held; or a store failed before, whose line was cut, and left a part; or an index that was
-- asked may be kept.
abbrev pub LeavesCut : Option Request → Option Files → Option Files → Type 0 → Type 0
LeavesCut request old new stores = SameFiles old new ⊎ (stores × IsPartStored request old new) ⊎ IsMaybeKept request old new

-- a write of a result failed, and the shelf holds this
abbrev pub IsCut : Option Request → Option Files → Option Files → Type 0
IsCut request old new = SameFiles old new ⊎ IsMaybeKept request old new

-- what the shelf holds, by the status that a command came to
abbrev pub Leaves : Option Request → Option Files → Option Files → Status → Type 0
Leaves request old new Answered = IsStored request old new
Leaves request old new StoreFault = IsPartStored request old new
Leaves request old new WriteFault = IsCut request old new
Leaves request old new other = SameFiles old new

-- the same, once the status's line was to be written, by whether a store failed
abbrev pub LeavesAtEnd : Option Request → Option Files → Option Files → Type 0 → Status → Type 0
LeavesAtEnd request old new stores WriteFault = LeavesCut request old new stores
LeavesAtEnd request old new stores status = Leaves request old new status
