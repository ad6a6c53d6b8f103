-- What is said of an index that may be kept, by what was asked and the status.
use Rattle.std.proofs.Common.{◌≡◌, ℕ, List, [], Option, Some, None, refl, subst}
use Rattle.std.specs.Prelude.{⊤}
use Rattle.outside.specs.Counts.{Rose}
use Rattle.outside.specs.Files.{Files}
use Rattle.outside.specs.declared.shelf.Shelf.{Ghosts as OfShelf}
use Rattle.outside.specs.Written.{Appends, AppendsPrefix}
use Rattle.outside.proofs.WrittenLaws.{appends_more_prefix}
use Rattle.query_text.specs.Questions.{Question}
use Rattle.command_base.specs.Replies.{PrefixOf, Wrote, line_of}
use Rattle.command_base.specs.Stops.{stop_status}
use Rattle.command_base.specs.declared.file.Unread.{Unread}
use Rattle.command_base.specs.declared.file.Unread.TheVariants as unread
use Rattle.ix_base.specs.declared.or_memory.OrMemory.{OrMemory}
use Rattle.ix_base.specs.declared.or_memory.OrMemory.TheVariants as stops
use Rattle.command_base.specs.declared.status.Status.{Status}
use Rattle.command_base.specs.declared.status.Status.TheVariants.{Answered, Refused, Usage, ReadFault, StoreFault, WriteFault, NoMemory, IndexRefused, TableRefused, IndexTooLarge, FileTooBig, AlreadyIndexed, TooManySections, InputFault, InputTooLong, Stopped}
use Rattle.session_base.specs.Heard.{Heard}
use Rattle.cached_command.specs.Cached.{LooksFirst, SaysTied}
use Rattle.cached_command.specs.Caches.{IsCached}
use Rattle.index_cmd.specs.Caching.{UsesKept, IsCutShort, in_result, in_line}
use Rattle.index_cmd.specs.Doings.{WasRead}
use Rattle.index_cmd.specs.Replies.{Ends, without_line, with_line, cut}
use Rattle.index_cmd.specs.Requests.{Request, TheHelp, TheVersion, OfFile, OfIndex, OfAdd, OfGdb, OfNames, OfServe, OfRace, OfDrill, OfAranges, OfFiles, OfCached}
use Rattle.index_cmd.specs.Results.{Says}
use Rattle.index_cmd.specs.Stores.{Leaves}
use Rattle.index_cmd.proofs.Keeping.{cached_from, looks_from, looks_large_from, prefix_from}
use Rattle.index_cmd.proofs.Outcomes.{nothing}

-- ---- by what was asked

-- only where an index that may be kept was asked is there something to show
module _ (told shelf : Option Files) (kept_reads stores : Type 0) (old new : Option (List ℕ)) (status : Status) (P : Option Request → Type 0) where
  by_request : ((file store : List ℕ) (q : Question) → P (Some (OfCached file store q)) → UsesKept (Some (OfCached file store q)) told shelf kept_reads stores old new status) → (request : Option Request) → P request → UsesKept request told shelf kept_reads stores old new status
  by_request f None p = tt
  by_request f (Some TheHelp) p = tt
  by_request f (Some TheVersion) p = tt
  by_request f (Some (OfFile file q)) p = tt
  by_request f (Some (OfGdb index q)) p = tt
  by_request f (Some (OfNames look index strings name)) p = tt
  by_request f (Some (OfServe how file)) p = tt
  by_request f (Some (OfRace how file script)) p = tt
  by_request f (Some (OfDrill seed units)) p = tt
  by_request f (Some (OfAranges file)) p = tt
  by_request f (Some (OfFiles file name)) p = tt
  by_request f (Some (OfIndex form file out)) p = tt
  by_request f (Some (OfAdd form file out)) p = tt
  by_request f (Some (OfCached file store q)) p = f file store q p

-- of a file that wasn't read nothing is said
pub unread_file : (told shelf : Option Files) (kept_reads stores : Type 0) (old new : Option (List ℕ)) (request : Option Request) (stop : OrMemory Unread) → UsesKept request told shelf kept_reads stores old new (stop_status stop)
unread_file told shelf kept_reads stores old new request (stops.Cause unread.Fault) = by_request told shelf kept_reads stores old new ReadFault (λ _. ⊤) (λ file store q o. tt) request tt
unread_file told shelf kept_reads stores old new request (stops.Cause unread.TooBig) = by_request told shelf kept_reads stores old new FileTooBig (λ _. ⊤) (λ file store q o. tt) request tt
unread_file told shelf kept_reads stores old new request stops.Memory = by_request told shelf kept_reads stores old new NoMemory (λ _. ⊤) (λ file store q o. tt) request tt

-- ---- the command

module _ {F : Type 0} (seen : OfShelf F) (before middle last : F) (file bytes store : List ℕ) (q : Question) (was : WasRead seen before middle file bytes) (old new : Option (List ℕ)) where
  -- what fails from here on, and what fails from before the file was read on
  abbrev later_kept : Type 0
  later_kept = Rose (seen.kept_faults middle) (seen.kept_faults last)

  abbrev later_stores : Type 0
  later_stores = Rose (seen.store_faults middle) (seen.store_faults last)

  abbrev kept : Type 0
  kept = Rose (seen.kept_faults before) (seen.kept_faults last)

  abbrev stores : Type 0
  stores = Rose (seen.store_faults before) (seen.store_faults last)

  kept_on : later_kept → kept
  kept_on = subst (λ (n : ℕ). Rose n (seen.kept_faults last)) was.kept_stay

  stores_on : later_stores → stores
  stores_on = subst (λ (n : ℕ). Rose n (seen.store_faults last)) was.stores_stay

  pub uses : (status : Status) → (status ≡ Answered → (text : List ℕ) × IsCached (seen.files middle) (seen.files last) bytes store q later_kept later_stores text × Appends old new text) → (status ≡ WriteFault → PrefixOf (SaysTied (seen.files middle) (seen.files last) bytes store q later_kept later_stores) old new) → LooksFirst (seen.files middle) bytes store later_kept status → UsesKept (Some (OfCached file store q)) (seen.files before) (seen.files last) kept stores old new status
  uses Answered tied part first = let t = tied refl in (t.0, (bytes, was.holds, was.small, cached_from (seen.files before) (seen.files middle) was.same (seen.files last) bytes store q later_kept later_stores kept stores kept_on stores_on t.0 t.1), t.2)
  uses Refused tied part first = (bytes, was.holds, was.small, looks_from (seen.files before) (seen.files middle) was.same bytes store later_kept kept kept_on first)
  uses IndexTooLarge tied part first = (bytes, was.holds, was.small, looks_large_from (seen.files before) (seen.files middle) was.same bytes store later_kept kept kept_on first)
  uses Usage tied part first = tt
  uses ReadFault tied part first = tt
  uses StoreFault tied part first = tt
  uses WriteFault tied part first = in_result (bytes, was.holds, was.small, prefix_from (seen.files before) (seen.files middle) was.same (seen.files last) bytes store q later_kept later_stores kept stores kept_on stores_on old new (part refl))
  uses InputFault tied part first = tt
  uses NoMemory tied part first = tt
  uses IndexRefused tied part first = tt
  uses (TableRefused table) tied part first = tt
  uses FileTooBig tied part first = tt
  uses AlreadyIndexed tied part first = tt
  uses TooManySections tied part first = tt
  uses InputTooLong tied part first = tt
  uses Stopped tied part first = tt

-- ---- once the line is written

module _ (told shelf : Option Files) (kept_reads stores : Type 0) (old mid new : Option (List ℕ)) (file store : List ℕ) (q : Question) where
  abbrev asked : Option Request
  asked = Some (OfCached file store q)

  -- a status with a line says nothing of the text
  of_line : (status : Status) (text : List ℕ) → line_of status ≡ Some text → UsesKept asked told shelf kept_reads stores old mid status → UsesKept asked told shelf kept_reads stores old new status
  of_line Answered text is u = absurd (cc is)
  of_line Refused text is u = u
  of_line IndexTooLarge text is u = u
  of_line WriteFault text is u = absurd (cc is)
  of_line Usage text is u = tt
  of_line ReadFault text is u = tt
  of_line StoreFault text is u = tt
  of_line InputFault text is u = tt
  of_line NoMemory text is u = tt
  of_line IndexRefused text is u = tt
  of_line (TableRefused table) text is u = tt
  of_line FileTooBig text is u = tt
  of_line AlreadyIndexed text is u = tt
  of_line TooManySections text is u = tt
  of_line InputTooLong text is u = tt
  of_line Stopped text is u = tt

  -- the line wasn't written whole
  cut_line : (status : Status) (text : List ℕ) → line_of status ≡ Some text → AppendsPrefix old new text → UsesKept asked told shelf kept_reads stores old mid status → Leaves asked told shelf status → IsCutShort told shelf file store q kept_reads stores old new
  cut_line Usage text is part u same = in_line Usage text is tt same part
  cut_line ReadFault text is part u same = in_line ReadFault text is tt same part
  cut_line NoMemory text is part u same = in_line NoMemory text is tt same part
  cut_line IndexTooLarge text is part u same = in_line IndexTooLarge text is u same part
  cut_line FileTooBig text is part u same = in_line FileTooBig text is tt same part
  cut_line AlreadyIndexed text is part u same = in_line AlreadyIndexed text is tt same part
  cut_line TooManySections text is part u same = in_line TooManySections text is tt same part
  cut_line StoreFault text is part u never = absurd never
  cut_line Answered text is part u left = absurd (cc is)
  cut_line Refused text is part u left = absurd (cc is)
  cut_line WriteFault text is part u left = absurd (cc is)
  cut_line InputFault text is part u left = absurd (cc is)
  cut_line IndexRefused text is part u left = absurd (cc is)
  cut_line (TableRefused table) text is part u left = absurd (cc is)
  cut_line InputTooLong text is part u left = absurd (cc is)
  cut_line Stopped text is part u left = absurd (cc is)

module _ (told shelf : Option Files) (heard : Heard) (kept_reads stores : Type 0) (old mid new : Option (List ℕ)) (second : Type 0) (request : Option Request) where
  pub at_end : (status result : Status) → Ends status mid new second result → UsesKept request told shelf kept_reads stores old mid status → Wrote (Says request told heard) status old mid → Leaves request told shelf status → UsesKept request told shelf kept_reads stores old new result
  at_end status result (without_line none same) u w left = subst (λ (o : Option (List ℕ)). UsesKept request told shelf kept_reads stores old o status) same u
  at_end status result (with_line text has all) u w left = by_request told shelf kept_reads stores old new status (λ r. UsesKept r told shelf kept_reads stores old mid status) (λ file store q. of_line told shelf kept_reads stores old mid new file store q status text has) request u
  at_end status result (cut text has f part) u w left =
      let whole : AppendsPrefix old new text = appends_more_prefix old mid new [] text (nothing request told heard status text old mid has w) part in
      by_request told shelf kept_reads stores old new WriteFault (λ r. UsesKept r told shelf kept_reads stores old mid status × Leaves r told shelf status) (λ file store q h. cut_line told shelf kept_reads stores old mid new file store q status text has whole h.0 h.1) request (u, left)
