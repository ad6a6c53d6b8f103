-- How a command ends whose program isn't given its index, or isn't stored.
use Rattle.std.specs.Prelude.{ℕ, List, ⊤}
use Rattle.index_forms.specs.Forms.{kind_of}
use Rattle.index_forms.specs.declared.form.IndexForm.{IndexForm}
use Rattle.command_base.specs.declared.status.Status.{Status}
use Rattle.command_base.specs.declared.status.Status.TheVariants.{Answered, StoreFault, NoMemory, IndexTooLarge, AlreadyIndexed, TooManySections}
use Rattle.store_commands.specs.Adds.{ForProgram, HasIndex, HasNoRoom, HasTooLarge}
use Rattle.store_commands.specs.declared.program.NotAdded.{NotAdded}
use Rattle.store_commands.specs.declared.program.NotAdded.TheVariants as stops

abbrev pub stop_status : NotAdded → Status
stop_status stops.Present = AlreadyIndexed
stop_status stops.TooMany = TooManySections
stop_status stops.TooLarge = IndexTooLarge
stop_status stops.Memory = NoMemory

-- the cause of a status, where a program with its index was to be stored
abbrev pub CausesOfStore : List ℕ → IndexForm → Type 0 → Status → Type 0
CausesOfStore file form stores Answered = ⊤
CausesOfStore file form stores NoMemory = ⊤
CausesOfStore file form stores StoreFault = stores
CausesOfStore file form stores AlreadyIndexed = ForProgram file form (HasIndex (kind_of form))
CausesOfStore file form stores TooManySections = ForProgram file form (HasNoRoom (kind_of form))
CausesOfStore file form stores IndexTooLarge = ForProgram file form (HasTooLarge (kind_of form))
CausesOfStore file form stores other = ⊥
