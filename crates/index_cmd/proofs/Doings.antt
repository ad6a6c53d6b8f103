-- What a command did, by what its call says.
use Rattle.std.specs.Prelude.{⊤}
use Rattle.std.proofs.Common.{inl, inr, ℕ, List, Option, Some, subst}
use Rattle.ix_base.specs.declared.limits.TheConstants.{MAX_FILE_BYTES}
use Rattle.index_forms.specs.declared.form.IndexForm.{IndexForm}
use Rattle.gdb_index.specs.Indexes.{index_in}
use Rattle.query_text.specs.Questions.{Question}
use Rattle.outside.specs.Counts.{Rose}
use Rattle.outside.specs.Files.{Files, SameFiles, Stored, StoredOrPrefix}
use Rattle.outside.specs.declared.shelf.Shelf.{Ghosts as OfShelf}
use Rattle.outside.proofs.CountLaws.{then-rose}
use Rattle.outside.proofs.FileLaws.{same_files-refl, same_files-trans}
use Rattle.command_base.specs.FilesRead.{HoldsMore}
use Rattle.command_base.specs.Replies.{CausesOfResult, SaysFile, Wrote}
use Rattle.command_base.specs.declared.status.RefusedTable.TheVariants.{Addresses, Lines}
use Rattle.command_base.specs.declared.status.Status.{Status}
use Rattle.command_base.specs.declared.status.Status.TheVariants.{Answered, Refused, Usage, ReadFault, StoreFault, WriteFault, NoMemory, IndexRefused, TableRefused, IndexTooLarge, FileTooBig, AlreadyIndexed, TooManySections, InputFault, InputTooLong, Stopped}
use Rattle.command_base.proofs.FileReads.{same_more, same_whole}
use Rattle.command_base.proofs.ReplyLaws.{wrote_weaker}
use Rattle.race_command.specs.declared.script.TheConstants.{MAX_SCRIPT_BYTES}
use Rattle.session_base.specs.Heard.{Heard}
use Rattle.serve_command.specs.Listens.{CausesOfSession}
use Rattle.race_command.specs.Races.{SaysRace}
use Rattle.serve_command.specs.SessionResults.{SaysServe}
use Rattle.command_base.specs.GdbLooks.{SaysGdb}
use Rattle.store_commands.specs.Indexes.{CausesOfIndex, LeavesIndex, SaysIndex}
use Rattle.index_cmd.specs.declared.task.Racing.{Racing}
use Rattle.index_cmd.specs.declared.task.Serving.{Serving}
use Rattle.index_commands.specs.declared.names.NamesLook.{NamesLook}
use Rattle.index_commands.specs.NamesLooks.{SaysNames}
use Rattle.store_commands.specs.Adds.{CausesOfAdd, LeavesAdd, SaysAdd}
use Rattle.command_base.specs.Tables.{CausesOfTable}
use Rattle.aranges_command.specs.Comparisons.{SaysAranges}
use Rattle.files_command.specs.Listings.{SaysFiles}
use Rattle.cached_command.specs.Cached.{CausesOfCached, LeavesCached, SaysCached}
use Rattle.index_cmd.proofs.Keeping.{cached_from, may_from}
use Rattle.index_cmd.specs.Doings.{CausesBeside, Does, SaysBeside, WasRead}
use Rattle.index_cmd.specs.Replies.{Causes}
use Rattle.index_cmd.specs.Requests.{Request, OfFile, OfIndex, OfAdd, OfGdb, OfNames, OfServe, OfRace, OfAranges, OfFiles, OfCached, AsksFile, StoresNothing}
use Rattle.index_cmd.specs.Results.{Says}
use Rattle.index_cmd.specs.Stores.{Leaves}
use Rattle.index_cmd.proofs.Leavings.{leaves_same}
use Rattle.cached_command.proofs.FilesLaws.{left_since, stored_since}
use Rattle.index_cmd.proofs.Storings.{keeps_from, keeps_part_from, of_added}

-- ---- the bytes of a file are asked

causes_of_result : (request : Option Request) (told : Option Files) (reads stores writes : Type 0) (status : Status) → CausesOfResult writes status → Causes request told reads stores writes status
causes_of_result request told reads stores writes Answered c = tt
causes_of_result request told reads stores writes Refused c = tt
causes_of_result request told reads stores writes Usage c = absurd c
causes_of_result request told reads stores writes ReadFault c = absurd c
causes_of_result request told reads stores writes StoreFault c = absurd c
causes_of_result request told reads stores writes WriteFault c = c
causes_of_result request told reads stores writes NoMemory c = tt
causes_of_result request told reads stores writes IndexRefused c = tt
causes_of_result request told reads stores writes (TableRefused table) c = absurd c
causes_of_result request told reads stores writes IndexTooLarge c = absurd c
causes_of_result request told reads stores writes FileTooBig c = absurd c
causes_of_result request told reads stores writes AlreadyIndexed c = absurd c
causes_of_result request told reads stores writes TooManySections c = absurd c
causes_of_result request told reads stores writes InputFault c = absurd c
causes_of_result request told reads stores writes InputTooLong c = absurd c
causes_of_result request told reads stores writes Stopped c = absurd c

module _ {F : Type 0} (seen : OfShelf F) (before middle last : F) (file bytes : List ℕ) (heard : Heard) (writes : Type 0) (was : WasRead seen before middle file bytes) (old new : Option (List ℕ)) where
  abbrev told : Option Files
  told = seen.files before

  abbrev shelf : Option Files
  shelf = seen.files middle

  -- what fails from here on, and what fails from before the file was read on
  abbrev later_reads : Type 0
  later_reads = Rose (seen.read_faults middle) (seen.read_faults last)

  abbrev later_stores : Type 0
  later_stores = Rose (seen.store_faults middle) (seen.store_faults last)

  abbrev reads : Type 0
  reads = Rose (seen.read_faults before) (seen.read_faults last)

  abbrev stores : Type 0
  stores = Rose (seen.store_faults before) (seen.store_faults last)

  reads_on : later_reads → reads
  reads_on = then-rose (seen.read_faults before) (seen.read_faults middle) (seen.read_faults last) was.reads_on

  stores_on : later_stores → stores
  stores_on = subst (λ (n : ℕ). Rose n (seen.store_faults last)) was.stores_stay

  -- a command that stores nothing
  does : (request : Request) → StoresNothing (Some request) → (after : Option Files) → SameFiles shelf after → (status : Status) → Wrote (Says (Some request) told heard) status old new → Causes (Some request) told reads stores writes status → Does (Some request) told after heard reads stores writes old new status
  does request nothing after kept status w c = record { wrote = w; causes = c; leaves = leaves_same (Some request) told after nothing told reads stores writes status c (same_files-trans told shelf after was.same kept) }

  -- where a second file is read behind it
  causes_beside : (request : Request) (second : List ℕ) (most : ℕ) → ((P : List ℕ → ℕ → Type 0) → P second most → AsksFile (Some request) P) → (status : Status) → CausesBeside shelf second most later_reads writes status → Causes (Some request) told reads stores writes status
  causes_beside request second most asks Answered c = tt
  causes_beside request second most asks Refused c = tt
  causes_beside request second most asks Usage c = absurd c
  causes_beside request second most asks ReadFault c = asks (λ _ _. reads) (reads_on c)
  causes_beside request second most asks StoreFault c = absurd c
  causes_beside request second most asks WriteFault c = c
  causes_beside request second most asks NoMemory c = tt
  causes_beside request second most asks IndexRefused c = tt
  causes_beside request second most asks (TableRefused table) c = absurd c
  causes_beside request second most asks IndexTooLarge c = absurd c
  causes_beside request second most asks FileTooBig c = asks (HoldsMore told) (same_more second most told shelf was.same c)
  causes_beside request second most asks AlreadyIndexed c = absurd c
  causes_beside request second most asks TooManySections c = absurd c
  causes_beside request second most asks InputFault c = absurd c
  causes_beside request second most asks InputTooLong c = tt
  causes_beside request second most asks Stopped c = tt

  -- ---- `ask`

  module _ (q : Question) where
    says_asked : (status : Status) (text : List ℕ) → SaysFile bytes q status text → Says (Some (OfFile file q)) told heard status text
    says_asked Answered text h = (bytes, was.holds, was.small, h)
    says_asked Refused text h = (bytes, was.holds, was.small, h)
    says_asked Usage text h = absurd h
    says_asked ReadFault text h = absurd h
    says_asked StoreFault text h = absurd h
    says_asked WriteFault text h = absurd h
    says_asked NoMemory text h = absurd h
    says_asked IndexRefused text h = absurd h
    says_asked (TableRefused table) text h = absurd h
    says_asked IndexTooLarge text h = absurd h
    says_asked FileTooBig text h = absurd h
    says_asked AlreadyIndexed text h = absurd h
    says_asked TooManySections text h = absurd h
    says_asked InputFault text h = absurd h
    says_asked InputTooLong text h = absurd h
    says_asked Stopped text h = absurd h

    pub asked : (status : Status) → Wrote (SaysFile bytes q) status old new → CausesOfResult writes status → Does (Some (OfFile file q)) told shelf heard reads stores writes old new status
    asked status w c = does (OfFile file q) tt shelf (same_files-refl shelf) status (wrote_weaker (SaysFile bytes q) (Says (Some (OfFile file q)) told heard) says_asked status old new w) (causes_of_result (Some (OfFile file q)) told reads stores writes status c)

    -- ---- `look gdb`

    says_looked : (status : Status) (text : List ℕ) → SaysGdb bytes q status text → Says (Some (OfGdb file q)) told heard status text
    says_looked Answered text h = (bytes, was.holds, was.small, h)
    says_looked Refused text h = absurd h
    says_looked Usage text h = absurd h
    says_looked ReadFault text h = absurd h
    says_looked StoreFault text h = absurd h
    says_looked WriteFault text h = absurd h
    says_looked NoMemory text h = absurd h
    says_looked IndexRefused text h = (bytes, was.holds, was.small, h)
    says_looked (TableRefused table) text h = absurd h
    says_looked IndexTooLarge text h = absurd h
    says_looked FileTooBig text h = absurd h
    says_looked AlreadyIndexed text h = absurd h
    says_looked TooManySections text h = absurd h
    says_looked InputFault text h = absurd h
    says_looked InputTooLong text h = absurd h
    says_looked Stopped text h = absurd h

    pub looked : (status : Status) → Wrote (SaysGdb bytes q) status old new → CausesOfResult writes status → Does (Some (OfGdb file q)) told shelf heard reads stores writes old new status
    looked status w c = does (OfGdb file q) tt shelf (same_files-refl shelf) status (wrote_weaker (SaysGdb bytes q) (Says (Some (OfGdb file q)) told heard) says_looked status old new w) (causes_of_result (Some (OfGdb file q)) told reads stores writes status c)

  -- ---- `aranges` and `files`

  causes_of_table : (request : Option Request) (status : Status) → CausesOfTable writes status → Causes request told reads stores writes status
  causes_of_table request (TableRefused table) c = tt
  causes_of_table request Answered c = tt
  causes_of_table request Refused c = tt
  causes_of_table request Usage c = absurd c
  causes_of_table request ReadFault c = absurd c
  causes_of_table request StoreFault c = absurd c
  causes_of_table request WriteFault c = c
  causes_of_table request NoMemory c = tt
  causes_of_table request IndexRefused c = tt
  causes_of_table request IndexTooLarge c = absurd c
  causes_of_table request FileTooBig c = absurd c
  causes_of_table request AlreadyIndexed c = absurd c
  causes_of_table request TooManySections c = absurd c
  causes_of_table request InputFault c = absurd c
  causes_of_table request InputTooLong c = absurd c
  causes_of_table request Stopped c = absurd c

  says_compared : (status : Status) (text : List ℕ) → SaysAranges bytes status text → Says (Some (OfAranges file)) told heard status text
  says_compared Answered text h = (bytes, was.holds, was.small, h)
  says_compared Refused text h = (bytes, was.holds, was.small, h)
  says_compared (TableRefused Addresses) text h = (bytes, was.holds, was.small, h)
  says_compared (TableRefused Lines) text h = absurd h
  says_compared Usage text h = absurd h
  says_compared ReadFault text h = absurd h
  says_compared StoreFault text h = absurd h
  says_compared WriteFault text h = absurd h
  says_compared NoMemory text h = absurd h
  says_compared IndexRefused text h = absurd h
  says_compared IndexTooLarge text h = absurd h
  says_compared FileTooBig text h = absurd h
  says_compared AlreadyIndexed text h = absurd h
  says_compared TooManySections text h = absurd h
  says_compared InputFault text h = absurd h
  says_compared InputTooLong text h = absurd h
  says_compared Stopped text h = absurd h

  pub compared : (status : Status) → Wrote (SaysAranges bytes) status old new → CausesOfTable writes status → Does (Some (OfAranges file)) told shelf heard reads stores writes old new status
  compared status w c = does (OfAranges file) tt shelf (same_files-refl shelf) status (wrote_weaker (SaysAranges bytes) (Says (Some (OfAranges file)) told heard) says_compared status old new w) (causes_of_table (Some (OfAranges file)) status c)

  module _ (name : List ℕ) where
    says_listed : (status : Status) (text : List ℕ) → SaysFiles bytes name status text → Says (Some (OfFiles file name)) told heard status text
    says_listed Answered text h = (bytes, was.holds, was.small, h)
    says_listed Refused text h = (bytes, was.holds, was.small, h)
    says_listed (TableRefused Lines) text h = (bytes, was.holds, was.small, h)
    says_listed (TableRefused Addresses) text h = absurd h
    says_listed Usage text h = absurd h
    says_listed ReadFault text h = absurd h
    says_listed StoreFault text h = absurd h
    says_listed WriteFault text h = absurd h
    says_listed NoMemory text h = absurd h
    says_listed IndexRefused text h = absurd h
    says_listed IndexTooLarge text h = absurd h
    says_listed FileTooBig text h = absurd h
    says_listed AlreadyIndexed text h = absurd h
    says_listed TooManySections text h = absurd h
    says_listed InputFault text h = absurd h
    says_listed InputTooLong text h = absurd h
    says_listed Stopped text h = absurd h

    pub listed : (status : Status) → Wrote (SaysFiles bytes name) status old new → CausesOfTable writes status → Does (Some (OfFiles file name)) told shelf heard reads stores writes old new status
    listed status w c = does (OfFiles file name) tt shelf (same_files-refl shelf) status (wrote_weaker (SaysFiles bytes name) (Says (Some (OfFiles file name)) told heard) says_listed status old new w) (causes_of_table (Some (OfFiles file name)) status c)

  -- ---- `cached`

  module _ (store : List ℕ) (q : Question) where
    says_cached : (status : Status) (text : List ℕ) → SaysCached shelf bytes store q status text → Says (Some (OfCached file store q)) told heard status text
    says_cached Answered text h = (bytes, was.holds, was.small, (h.0, cached_from told shelf was.same h.0 bytes store q ⊤ ⊤ ⊤ ⊤ (λ k. k) (λ s. s) text h.1))
    says_cached Refused text h = (bytes, was.holds, was.small, h)
    says_cached Usage text h = absurd h
    says_cached ReadFault text h = absurd h
    says_cached StoreFault text h = absurd h
    says_cached WriteFault text h = absurd h
    says_cached NoMemory text h = absurd h
    says_cached IndexRefused text h = absurd h
    says_cached (TableRefused table) text h = absurd h
    says_cached IndexTooLarge text h = absurd h
    says_cached FileTooBig text h = absurd h
    says_cached AlreadyIndexed text h = absurd h
    says_cached TooManySections text h = absurd h
    says_cached InputFault text h = absurd h
    says_cached InputTooLong text h = absurd h
    says_cached Stopped text h = absurd h

    causes_cached : (status : Status) → CausesOfCached bytes writes status → Causes (Some (OfCached file store q)) told reads stores writes status
    causes_cached Answered c = tt
    causes_cached Refused c = tt
    causes_cached Usage c = absurd c
    causes_cached ReadFault c = absurd c
    causes_cached StoreFault c = absurd c
    causes_cached WriteFault c = c
    causes_cached NoMemory c = tt
    causes_cached IndexRefused c = absurd c
    causes_cached (TableRefused table) c = absurd c
    causes_cached IndexTooLarge c = (bytes, was.holds, was.small, c)
    causes_cached FileTooBig c = absurd c
    causes_cached AlreadyIndexed c = absurd c
    causes_cached TooManySections c = absurd c
    causes_cached InputFault c = absurd c
    causes_cached InputTooLong c = absurd c
    causes_cached Stopped c = absurd c

    cached_leaves : (after : Option Files) (status : Status) → CausesOfCached bytes writes status → LeavesCached bytes store shelf after status → Leaves (Some (OfCached file store q)) told after status
    cached_leaves after Answered c h = (bytes, was.holds, was.small, may_from told shelf was.same after bytes store h)
    cached_leaves after WriteFault c h = inr (bytes, was.holds, was.small, may_from told shelf was.same after bytes store h)
    cached_leaves after StoreFault c h = absurd c
    cached_leaves after Refused c h = same_files-trans told shelf after was.same h
    cached_leaves after Usage c h = same_files-trans told shelf after was.same h
    cached_leaves after ReadFault c h = same_files-trans told shelf after was.same h
    cached_leaves after NoMemory c h = same_files-trans told shelf after was.same h
    cached_leaves after IndexRefused c h = same_files-trans told shelf after was.same h
    cached_leaves after (TableRefused table) c h = same_files-trans told shelf after was.same h
    cached_leaves after IndexTooLarge c h = same_files-trans told shelf after was.same h
    cached_leaves after FileTooBig c h = same_files-trans told shelf after was.same h
    cached_leaves after AlreadyIndexed c h = same_files-trans told shelf after was.same h
    cached_leaves after TooManySections c h = same_files-trans told shelf after was.same h
    cached_leaves after InputFault c h = same_files-trans told shelf after was.same h
    cached_leaves after InputTooLong c h = same_files-trans told shelf after was.same h
    cached_leaves after Stopped c h = same_files-trans told shelf after was.same h

    pub cached_does : (after : Option Files) (status : Status) → Wrote (SaysCached shelf bytes store q) status old new → CausesOfCached bytes writes status → LeavesCached bytes store shelf after status → Does (Some (OfCached file store q)) told after heard reads stores writes old new status
    cached_does after status w c l = record { wrote = wrote_weaker (SaysCached shelf bytes store q) (Says (Some (OfCached file store q)) told heard) says_cached status old new w; causes = causes_cached status c; leaves = cached_leaves after status c l }

  -- ---- `look names`

  module _ (look : NamesLook) (strings name : List ℕ) where
    says_names : (status : Status) (text : List ℕ) → SaysBeside shelf strings MAX_FILE_BYTES (λ held. SaysNames bytes held look name) status text → Says (Some (OfNames look file strings name)) told heard status text
    says_names Answered text h = (bytes, was.holds, was.small, (h.0, same_whole strings h.0 told shelf was.same h.1, h.2, h.3))
    says_names Refused text h = absurd h.3
    says_names Usage text h = absurd h.3
    says_names ReadFault text h = absurd h.3
    says_names StoreFault text h = absurd h.3
    says_names WriteFault text h = absurd h.3
    says_names NoMemory text h = absurd h.3
    says_names IndexRefused text h = (bytes, was.holds, was.small, (h.0, same_whole strings h.0 told shelf was.same h.1, h.2, h.3))
    says_names (TableRefused table) text h = absurd h.3
    says_names IndexTooLarge text h = absurd h.3
    says_names FileTooBig text h = absurd h.3
    says_names AlreadyIndexed text h = absurd h.3
    says_names TooManySections text h = absurd h.3
    says_names InputFault text h = absurd h.3
    says_names InputTooLong text h = absurd h.3
    says_names Stopped text h = absurd h.3

    pub looked_names : (after : Option Files) → SameFiles shelf after → (status : Status) → Wrote (SaysBeside shelf strings MAX_FILE_BYTES (λ held. SaysNames bytes held look name)) status old new → CausesBeside shelf strings MAX_FILE_BYTES later_reads writes status → Does (Some (OfNames look file strings name)) told after heard reads stores writes old new status
    looked_names after kept status w c = does (OfNames look file strings name) tt after kept status
        (wrote_weaker (SaysBeside shelf strings MAX_FILE_BYTES (λ held. SaysNames bytes held look name)) (Says (Some (OfNames look file strings name)) told heard) says_names status old new w)
        (causes_beside (OfNames look file strings name) strings MAX_FILE_BYTES (λ P p. inr p) status c)

  -- ---- `serve`

  causes_served : (how : Serving) (status : Status) → CausesOfSession writes status → Causes (Some (OfServe how file)) told reads stores writes status
  causes_served how Answered c = tt
  causes_served how Refused c = tt
  causes_served how Usage c = absurd c
  causes_served how ReadFault c = absurd c
  causes_served how StoreFault c = absurd c
  causes_served how WriteFault c = c
  causes_served how NoMemory c = absurd c
  causes_served how IndexRefused c = absurd c
  causes_served how (TableRefused table) c = absurd c
  causes_served how IndexTooLarge c = absurd c
  causes_served how FileTooBig c = absurd c
  causes_served how AlreadyIndexed c = absurd c
  causes_served how TooManySections c = absurd c
  causes_served how InputFault c = tt
  causes_served how InputTooLong c = tt
  causes_served how Stopped c = tt

  pub served : (how : Serving) (status : Status) → Wrote (SaysServe how.spelling bytes how.wait heard) status old new → CausesOfSession writes status → Does (Some (OfServe how file)) told shelf heard reads stores writes old new status
  served how status w c = does (OfServe how file) tt shelf (same_files-refl shelf) status (wrote_weaker (SaysServe how.spelling bytes how.wait heard) (Says (Some (OfServe how file)) told heard) (λ s text says. (bytes, was.holds, was.small, says)) status old new w) (causes_served how status c)

  -- ---- `race`

  pub raced : (how : Racing) (script : List ℕ) (after : Option Files) → SameFiles shelf after → (status : Status) → Wrote (SaysBeside shelf script MAX_SCRIPT_BYTES (SaysRace how.spelling bytes how.readers)) status old new → CausesBeside shelf script MAX_SCRIPT_BYTES later_reads writes status → Does (Some (OfRace how file script)) told after heard reads stores writes old new status
  raced how script after kept status w c = does (OfRace how file script) tt after kept status
      (wrote_weaker (SaysBeside shelf script MAX_SCRIPT_BYTES (SaysRace how.spelling bytes how.readers)) (Says (Some (OfRace how file script)) told heard) (λ s text says. (bytes, was.holds, was.small, (says.0, same_whole script says.0 told shelf was.same says.1, says.2, says.3))) status old new w)
      (causes_beside (OfRace how file script) script MAX_SCRIPT_BYTES (λ P p. inr p) status c)

  -- ---- `index`

  module _ (form : IndexForm) (out : List ℕ) where
    abbrev stored : Option Request
    stored = Some (OfIndex form file out)

    says_index : (status : Status) (text : List ℕ) → SaysIndex bytes status text → Says stored told heard status text
    says_index Answered text h = h
    says_index Refused text h = (bytes, was.holds, was.small, h)
    says_index Usage text h = absurd h
    says_index ReadFault text h = absurd h
    says_index StoreFault text h = absurd h
    says_index WriteFault text h = absurd h
    says_index NoMemory text h = absurd h
    says_index IndexRefused text h = absurd h
    says_index (TableRefused table) text h = absurd h
    says_index IndexTooLarge text h = absurd h
    says_index FileTooBig text h = absurd h
    says_index AlreadyIndexed text h = absurd h
    says_index TooManySections text h = absurd h
    says_index InputFault text h = absurd h
    says_index InputTooLong text h = absurd h
    says_index Stopped text h = absurd h

    index_causes : (status : Status) → CausesOfIndex bytes form later_stores writes status → Causes stored told reads stores writes status
    index_causes Answered c = tt
    index_causes Refused c = tt
    index_causes Usage c = absurd c
    index_causes ReadFault c = absurd c
    index_causes StoreFault c = stores_on c
    index_causes WriteFault c = c
    index_causes NoMemory c = tt
    index_causes IndexRefused c = tt
    index_causes (TableRefused table) c = absurd c
    index_causes IndexTooLarge c = (bytes, was.holds, was.small, c)
    index_causes FileTooBig c = absurd c
    index_causes AlreadyIndexed c = absurd c
    index_causes TooManySections c = absurd c
    index_causes InputFault c = absurd c
    index_causes InputTooLong c = absurd c
    index_causes Stopped c = absurd c

    index_leaves : (after : Option Files) (status : Status) → CausesOfIndex bytes form later_stores writes status → LeavesIndex bytes form shelf after out status → Leaves stored told after status
    index_leaves after Answered c h = (bytes, was.holds, was.small, record { built = h.built; accepted = h.accepted; holds = keeps_from out told shelf after was.same (index_in form h.built) h.holds })
    index_leaves after Refused c h = same_files-trans told shelf after was.same h
    index_leaves after Usage c h = absurd c
    index_leaves after ReadFault c h = absurd c
    index_leaves after StoreFault c h = (bytes, was.holds, was.small, record { built = h.built; accepted = h.accepted; holds = keeps_part_from out told shelf after was.same (index_in form h.built) h.holds })
    index_leaves after WriteFault c h = inl (same_files-trans told shelf after was.same h)
    index_leaves after NoMemory c h = same_files-trans told shelf after was.same h
    index_leaves after IndexRefused c h = same_files-trans told shelf after was.same h
    index_leaves after (TableRefused table) c h = same_files-trans told shelf after was.same h
    index_leaves after IndexTooLarge c h = same_files-trans told shelf after was.same h
    index_leaves after FileTooBig c h = absurd c
    index_leaves after AlreadyIndexed c h = absurd c
    index_leaves after TooManySections c h = absurd c
    index_leaves after InputFault c h = absurd c
    index_leaves after InputTooLong c h = absurd c
    index_leaves after Stopped c h = absurd c

    pub indexed : (after : Option Files) (status : Status) → Wrote (SaysIndex bytes) status old new → CausesOfIndex bytes form later_stores writes status → LeavesIndex bytes form shelf after out status → Does stored told after heard reads stores writes old new status
    indexed after status w c h = record {
      wrote = wrote_weaker (SaysIndex bytes) (Says stored told heard) says_index status old new w;
      causes = index_causes status c;
      leaves = index_leaves after status c h;
    }

  -- ---- `add`

  module _ (form : IndexForm) (out : List ℕ) where
    abbrev with_index : Option Request
    with_index = Some (OfAdd form file out)

    says_add : (status : Status) (text : List ℕ) → SaysAdd bytes status text → Says with_index told heard status text
    says_add Answered text h = h
    says_add Refused text h = (bytes, was.holds, was.small, h)
    says_add Usage text h = absurd h
    says_add ReadFault text h = absurd h
    says_add StoreFault text h = absurd h
    says_add WriteFault text h = absurd h
    says_add NoMemory text h = absurd h
    says_add IndexRefused text h = absurd h
    says_add (TableRefused table) text h = absurd h
    says_add IndexTooLarge text h = absurd h
    says_add FileTooBig text h = absurd h
    says_add AlreadyIndexed text h = absurd h
    says_add TooManySections text h = absurd h
    says_add InputFault text h = absurd h
    says_add InputTooLong text h = absurd h
    says_add Stopped text h = absurd h

    add_causes : (status : Status) → CausesOfAdd bytes form later_stores writes status → Causes with_index told reads stores writes status
    add_causes Answered c = tt
    add_causes Refused c = tt
    add_causes Usage c = absurd c
    add_causes ReadFault c = absurd c
    add_causes StoreFault c = stores_on c
    add_causes WriteFault c = c
    add_causes NoMemory c = tt
    add_causes IndexRefused c = tt
    add_causes (TableRefused table) c = absurd c
    add_causes IndexTooLarge c = (bytes, was.holds, was.small, c)
    add_causes FileTooBig c = absurd c
    add_causes AlreadyIndexed c = (bytes, was.holds, was.small, c)
    add_causes TooManySections c = (bytes, was.holds, was.small, c)
    add_causes InputFault c = absurd c
    add_causes InputTooLong c = absurd c
    add_causes Stopped c = absurd c

    add_leaves : (after : Option Files) (status : Status) → CausesOfAdd bytes form later_stores writes status → LeavesAdd bytes form shelf after out status → Leaves with_index told after status
    add_leaves after Answered c h = (bytes, was.holds, was.small, of_added bytes form (Stored shelf after out) (Stored told after out) (λ program. stored_since out program told shelf after was.same) h)
    add_leaves after Refused c h = same_files-trans told shelf after was.same h
    add_leaves after Usage c h = absurd c
    add_leaves after ReadFault c h = absurd c
    add_leaves after StoreFault c h = (bytes, was.holds, was.small, of_added bytes form (StoredOrPrefix shelf after out) (StoredOrPrefix told after out) (λ program. left_since out program told shelf after was.same) h)
    add_leaves after WriteFault c h = inl (same_files-trans told shelf after was.same h)
    add_leaves after NoMemory c h = same_files-trans told shelf after was.same h
    add_leaves after IndexRefused c h = same_files-trans told shelf after was.same h
    add_leaves after (TableRefused table) c h = same_files-trans told shelf after was.same h
    add_leaves after IndexTooLarge c h = same_files-trans told shelf after was.same h
    add_leaves after FileTooBig c h = absurd c
    add_leaves after AlreadyIndexed c h = same_files-trans told shelf after was.same h
    add_leaves after TooManySections c h = same_files-trans told shelf after was.same h
    add_leaves after InputFault c h = absurd c
    add_leaves after InputTooLong c h = absurd c
    add_leaves after Stopped c h = absurd c

    pub added : (after : Option Files) (status : Status) → Wrote (SaysAdd bytes) status old new → CausesOfAdd bytes form later_stores writes status → LeavesAdd bytes form shelf after out status → Does with_index told after heard reads stores writes old new status
    added after status w c h = record {
      wrote = wrote_weaker (SaysAdd bytes) (Says with_index told heard) says_add status old new w;
      causes = add_causes status c;
      leaves = add_leaves after status c h;
    }
