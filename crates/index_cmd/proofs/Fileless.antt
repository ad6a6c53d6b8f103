-- What a command did that asked no file's bytes.
use Rattle.std.proofs.Common.{◌≡◌, ◌⊎◌, inl, inr, ℕ, List, Option, Some, refl, sym, subst}
use Rattle.ix_base.specs.declared.limits.TheConstants.{MAX_FILE_BYTES}
use Rattle.outside.specs.Files.{Files, SameFiles}
use Rattle.outside.specs.Written.{Appends, AppendsPrefix}
use Rattle.outside.proofs.FileLaws.{same_files-refl}
use Rattle.outside.proofs.WrittenLaws.{appends_none}
use Rattle.command_base.specs.FilesRead.{HoldsMore}
use Rattle.command_base.specs.Replies.{Wrote}
use Rattle.command_base.specs.Stops.{stop_status}
use Rattle.command_base.specs.declared.file.Unread.{Unread}
use Rattle.command_base.specs.declared.file.Unread.TheVariants as unread
use Rattle.ix_base.specs.declared.or_memory.OrMemory.{OrMemory}
use Rattle.ix_base.specs.declared.or_memory.OrMemory.TheVariants as stops
use Rattle.command_base.specs.declared.status.Status.{Status}
use Rattle.command_base.specs.declared.status.Status.TheVariants.{Answered, Refused, Usage, ReadFault, StoreFault, WriteFault, NoMemory, IndexRefused, TableRefused, IndexTooLarge, FileTooBig, AlreadyIndexed, TooManySections, InputFault, InputTooLong, Stopped}
use Rattle.session_base.specs.Heard.{Heard}
use Rattle.drill_command.specs.DrillResults.{CausesOfDrill, SaysDrill}
use Rattle.index_cmd.specs.Doings.{Does}
use Rattle.index_cmd.specs.Replies.{Causes, IsAnswer}
use Rattle.index_cmd.specs.Requests.{Request, OfDrill, AsksFile, StoresNothing}
use Rattle.index_cmd.specs.Tasks.{request_on}
use Rattle.index_cmd.specs.declared.task.Action.{Action}
use Rattle.index_cmd.specs.declared.task.Action.TheVariants as actions
use Rattle.index_cmd.proofs.Leavings.{leaves_same}
use Rattle.index_cmd.proofs.Outcomes.{IsPlain, says_plain}

-- ---- the file wasn't read

asks_first : (file : List ℕ) (action : Action) (P : List ℕ → ℕ → Type 0) → P file MAX_FILE_BYTES → AsksFile (Some (request_on file action)) P
asks_first file (actions.Ask q) P p = p
asks_first file (actions.Index form out) P p = p
asks_first file (actions.Add form out) P p = p
asks_first file (actions.LookGdb q) P p = p
asks_first file (actions.LookNames look strings name) P p = inl p
asks_first file (actions.Serve how) P p = p
asks_first file (actions.Race how script) P p = inl p
asks_first file actions.Aranges P p = p
asks_first file (actions.Files name) P p = p
asks_first file (actions.Cached store q) P p = p

module _ (file : List ℕ) (action : Action) (told shelf : Option Files) (heard : Heard) (reads stores writes : Type 0) (out : Option (List ℕ)) (same : SameFiles told shelf) where
  abbrev on_file : Option Request
  on_file = Some (request_on file action)

  pub stopped_reading : (stop : OrMemory Unread) → (stop ≡ stops.Cause unread.Fault → reads) → (stop ≡ stops.Cause unread.TooBig → HoldsMore told file MAX_FILE_BYTES) → Does on_file told shelf heard reads stores writes out out (stop_status stop)
  stopped_reading (stops.Cause unread.Fault) fault big = record { wrote = appends_none out; causes = asks_first file action (λ _ _. reads) (fault refl); leaves = same }
  stopped_reading (stops.Cause unread.TooBig) fault big = record { wrote = appends_none out; causes = asks_first file action (HoldsMore told) (big refl); leaves = same }
  stopped_reading stops.Memory fault big = record { wrote = appends_none out; causes = tt; leaves = same }

-- ---- a text of the program's own

module _ (request : Request) (told : Option Files) (heard : Heard) (reads stores writes : Type 0) (old new : Option (List ℕ)) (text : List ℕ) where
  pub own_text : IsPlain (Some request) → StoresNothing (Some request) → IsAnswer (Some request) told text → (result : Status) → (result ≡ Answered → Appends old new text) → (result ≡ Answered) ⊎ (result ≡ WriteFault) → (result ≡ WriteFault → writes) → (result ≡ WriteFault → AppendsPrefix old new text) →
      Does (Some request) told told heard reads stores writes old new result
  own_text plain nothing is result said (inl e) fault left = subst (Does (Some request) told told heard reads stores writes old new) (sym e) (record {
    wrote = (text, says_plain (Some request) plain told heard Answered text is, said e);
    causes = tt;
    leaves = leaves_same (Some request) told told nothing told reads stores writes Answered tt (same_files-refl told);
  })
  own_text plain nothing is result said (inr e) fault left = subst (Does (Some request) told told heard reads stores writes old new) (sym e) (record {
    wrote = (Answered, text, says_plain (Some request) plain told heard Answered text is, left e);
    causes = fault e;
    leaves = leaves_same (Some request) told told nothing told reads stores writes WriteFault (fault e) (same_files-refl told);
  })

-- ---- `drill`

module _ (seed units : ℕ) (told : Option Files) (heard : Heard) (reads stores writes : Type 0) (old new : Option (List ℕ)) where
  causes_drilled : (status : Status) → CausesOfDrill seed units writes status → Causes (Some (OfDrill seed units)) told reads stores writes status
  causes_drilled Answered c = tt
  causes_drilled Refused c = tt
  causes_drilled Usage c = absurd c
  causes_drilled ReadFault c = absurd c
  causes_drilled StoreFault c = absurd c
  causes_drilled WriteFault c = c
  causes_drilled NoMemory c = tt
  causes_drilled IndexRefused c = absurd c
  causes_drilled (TableRefused table) c = absurd c
  causes_drilled IndexTooLarge c = c
  causes_drilled FileTooBig c = absurd c
  causes_drilled AlreadyIndexed c = absurd c
  causes_drilled TooManySections c = absurd c
  causes_drilled InputFault c = absurd c
  causes_drilled InputTooLong c = absurd c
  causes_drilled Stopped c = absurd c

  pub drilled : (status : Status) → Wrote (SaysDrill seed units) status old new → CausesOfDrill seed units writes status → Does (Some (OfDrill seed units)) told told heard reads stores writes old new status
  drilled status w c =
      let causes = causes_drilled status c in
      record { wrote = w; causes = causes; leaves = leaves_same (Some (OfDrill seed units)) told told tt told reads stores writes status causes (same_files-refl told) }
