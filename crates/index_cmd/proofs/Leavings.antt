-- What the shelf holds, once a status's line is written.
use Rattle.std.proofs.Common.{◌≡◌, inl, inr, ℕ, List, Option, Some, None}
use Rattle.outside.specs.Files.{Files, SameFiles}
use Rattle.index_cmd.specs.Requests.{Request, TheHelp, TheVersion, OfFile, OfIndex, OfAdd, OfGdb, OfNames, OfServe, OfRace, OfDrill, OfAranges, OfFiles, OfCached, AsksIndex, StoresNothing}
use Rattle.index_cmd.specs.Replies.{Causes, Ends, without_line, with_line, cut}
use Rattle.command_base.specs.Replies.{line_of}
use Rattle.index_cmd.specs.Stores.{IsMaybeKept, IsStored, IsPartStored, Leaves, LeavesAtEnd, LeavesCut}
use Rattle.command_base.specs.declared.status.Status.{Status}
use Rattle.command_base.specs.declared.status.Status.TheVariants.{Answered, Refused, Usage, ReadFault, StoreFault, WriteFault, NoMemory, IndexRefused, TableRefused, IndexTooLarge, FileTooBig, AlreadyIndexed, TooManySections, InputFault, InputTooLong, Stopped}
use Rattle.index_cmd.proofs.Outcomes.{asks_index}

-- ---- a command that stores nothing

stored_same : (request : Option Request) (old new : Option Files) → StoresNothing request → IsStored request old new → SameFiles old new
stored_same None old new n h = h
stored_same (Some TheHelp) old new n h = h
stored_same (Some TheVersion) old new n h = h
stored_same (Some (OfFile file q)) old new n h = h
stored_same (Some (OfGdb index q)) old new n h = h
stored_same (Some (OfNames look index strings name)) old new n h = h
stored_same (Some (OfServe how file)) old new n h = h
stored_same (Some (OfRace how file script)) old new n h = h
stored_same (Some (OfDrill seed units)) old new n h = h
stored_same (Some (OfAranges file)) old new n h = h
stored_same (Some (OfFiles file name)) old new n h = h
stored_same (Some (OfIndex form file out)) old new n h = absurd n
stored_same (Some (OfAdd form file out)) old new n h = absurd n
stored_same (Some (OfCached file store q)) old new n h = absurd n

same_stored : (request : Option Request) (old new : Option Files) → StoresNothing request → SameFiles old new → IsStored request old new
same_stored None old new n h = h
same_stored (Some TheHelp) old new n h = h
same_stored (Some TheVersion) old new n h = h
same_stored (Some (OfFile file q)) old new n h = h
same_stored (Some (OfGdb index q)) old new n h = h
same_stored (Some (OfNames look index strings name)) old new n h = h
same_stored (Some (OfServe how file)) old new n h = h
same_stored (Some (OfRace how file script)) old new n h = h
same_stored (Some (OfDrill seed units)) old new n h = h
same_stored (Some (OfAranges file)) old new n h = h
same_stored (Some (OfFiles file name)) old new n h = h
same_stored (Some (OfIndex form file out)) old new n h = absurd n
same_stored (Some (OfAdd form file out)) old new n h = absurd n
same_stored (Some (OfCached file store q)) old new n h = absurd n

no_part : (request : Option Request) (old new : Option Files) → StoresNothing request → IsPartStored request old new → ⊥
no_part None old new n h = h
no_part (Some TheHelp) old new n h = h
no_part (Some TheVersion) old new n h = h
no_part (Some (OfFile file q)) old new n h = h
no_part (Some (OfGdb index q)) old new n h = h
no_part (Some (OfNames look index strings name)) old new n h = h
no_part (Some (OfServe how file)) old new n h = h
no_part (Some (OfRace how file script)) old new n h = h
no_part (Some (OfDrill seed units)) old new n h = h
no_part (Some (OfAranges file)) old new n h = h
no_part (Some (OfFiles file name)) old new n h = h
no_part (Some (OfIndex form file out)) old new n h = n
no_part (Some (OfAdd form file out)) old new n h = n
no_part (Some (OfCached file store q)) old new n h = n

no_index : (request : Option Request) (P : Type 0) → StoresNothing request → AsksIndex request (λ _ _ _. P) → ⊥
no_index None P n h = h
no_index (Some TheHelp) P n h = h
no_index (Some TheVersion) P n h = h
no_index (Some (OfFile file q)) P n h = h
no_index (Some (OfGdb index q)) P n h = h
no_index (Some (OfNames look index strings name)) P n h = h
no_index (Some (OfServe how file)) P n h = h
no_index (Some (OfRace how file script)) P n h = h
no_index (Some (OfDrill seed units)) P n h = h
no_index (Some (OfAranges file)) P n h = h
no_index (Some (OfFiles file name)) P n h = h
no_index (Some (OfIndex form file out)) P n h = n
no_index (Some (OfAdd form file out)) P n h = n
no_index (Some (OfCached file store q)) P n h = h

not_kept : (request : Option Request) (old new : Option Files) → StoresNothing request → IsMaybeKept request old new → ⊥
not_kept None old new n h = h
not_kept (Some TheHelp) old new n h = h
not_kept (Some TheVersion) old new n h = h
not_kept (Some (OfFile file q)) old new n h = h
not_kept (Some (OfGdb index q)) old new n h = h
not_kept (Some (OfNames look index strings name)) old new n h = h
not_kept (Some (OfServe how file)) old new n h = h
not_kept (Some (OfRace how file script)) old new n h = h
not_kept (Some (OfDrill seed units)) old new n h = h
not_kept (Some (OfAranges file)) old new n h = h
not_kept (Some (OfFiles file name)) old new n h = h
not_kept (Some (OfIndex form file out)) old new n h = h
not_kept (Some (OfAdd form file out)) old new n h = h
not_kept (Some (OfCached file store q)) old new n h = n

module _ (request : Option Request) (old new : Option Files) (n : StoresNothing request) where
  -- it leaves what was there
  pub leaves_same : (told : Option Files) (reads stores writes : Type 0) (status : Status) → Causes request told reads stores writes status → SameFiles old new → Leaves request old new status
  leaves_same told reads stores writes Answered c same = same_stored request old new n same
  leaves_same told reads stores writes StoreFault c same = absurd (no_index request stores n c)
  leaves_same told reads stores writes Refused c same = same
  leaves_same told reads stores writes Usage c same = same
  leaves_same told reads stores writes ReadFault c same = same
  leaves_same told reads stores writes WriteFault c same = inl same
  leaves_same told reads stores writes NoMemory c same = same
  leaves_same told reads stores writes IndexRefused c same = same
  leaves_same told reads stores writes (TableRefused table) c same = same
  leaves_same told reads stores writes IndexTooLarge c same = same
  leaves_same told reads stores writes FileTooBig c same = same
  leaves_same told reads stores writes AlreadyIndexed c same = same
  leaves_same told reads stores writes TooManySections c same = same
  leaves_same told reads stores writes InputFault c same = same
  leaves_same told reads stores writes InputTooLong c same = same
  leaves_same told reads stores writes Stopped c same = same

  pub kept : (stores : Type 0) (status : Status) → LeavesAtEnd request old new stores status → SameFiles old new
  kept stores Answered h = stored_same request old new n h
  kept stores StoreFault h = absurd (no_part request old new n h)
  kept stores WriteFault (inl h) = h
  kept stores WriteFault (inr (inl part)) = absurd (no_part request old new n part.1)
  kept stores WriteFault (inr (inr may)) = absurd (not_kept request old new n may)
  kept stores Refused h = h
  kept stores Usage h = h
  kept stores ReadFault h = h
  kept stores NoMemory h = h
  kept stores IndexRefused h = h
  kept stores (TableRefused table) h = h
  kept stores IndexTooLarge h = h
  kept stores FileTooBig h = h
  kept stores AlreadyIndexed h = h
  kept stores TooManySections h = h
  kept stores InputFault h = h
  kept stores InputTooLong h = h
  kept stores Stopped h = h

-- ---- any command

module _ (request : Option Request) (old new : Option Files) (stores : Type 0) where
  as_left : (status : Status) → Leaves request old new status → LeavesAtEnd request old new stores status
  as_left WriteFault (inl same) = inl same
  as_left WriteFault (inr may) = inr (inr may)
  as_left Answered h = h
  as_left StoreFault h = h
  as_left Refused h = h
  as_left Usage h = h
  as_left ReadFault h = h
  as_left NoMemory h = h
  as_left IndexRefused h = h
  as_left (TableRefused table) h = h
  as_left IndexTooLarge h = h
  as_left FileTooBig h = h
  as_left AlreadyIndexed h = h
  as_left TooManySections h = h
  as_left InputFault h = h
  as_left InputTooLong h = h
  as_left Stopped h = h

  -- the line wasn't written whole
  cut_left : (told : Option Files) (reads writes : Type 0) (status : Status) (text : List ℕ) → line_of status ≡ Some text → Causes request told reads stores writes status → Leaves request old new status → LeavesCut request old new stores
  cut_left told reads writes StoreFault text has c h = inr (inl (asks_index request stores c, h))
  cut_left told reads writes Usage text has c h = inl h
  cut_left told reads writes ReadFault text has c h = inl h
  cut_left told reads writes NoMemory text has c h = inl h
  cut_left told reads writes IndexTooLarge text has c h = inl h
  cut_left told reads writes FileTooBig text has c h = inl h
  cut_left told reads writes AlreadyIndexed text has c h = inl h
  cut_left told reads writes TooManySections text has c h = inl h
  cut_left told reads writes Answered text has c h = absurd (cc has)
  cut_left told reads writes Refused text has c h = absurd (cc has)
  cut_left told reads writes IndexRefused text has c h = absurd (cc has)
  cut_left told reads writes (TableRefused table) text has c h = absurd (cc has)
  cut_left told reads writes WriteFault text has c h = absurd (cc has)
  cut_left told reads writes InputFault text has c h = absurd (cc has)
  cut_left told reads writes InputTooLong text has c h = absurd (cc has)
  cut_left told reads writes Stopped text has c h = absurd (cc has)

  pub left_at_end : (told : Option Files) (reads writes : Type 0) (status result : Status) (written_old written_new : Option (List ℕ)) (failed : Type 0) → Ends status written_old written_new failed result → Causes request told reads stores writes status → Leaves request old new status →
      LeavesAtEnd request old new stores result
  left_at_end told reads writes status result a b failed (without_line none same) c h = as_left status h
  left_at_end told reads writes status result a b failed (with_line text has all) c h = as_left status h
  left_at_end told reads writes status result a b failed (cut text has f part) c h = cut_left told reads writes status text has c h
