-- What a command came to, once its status's line is written.
use Rattle.std.proofs.Common.{◌≡◌, ◌⊎◌, inl, inr, ℕ, List, [], Option, Some, None, Ok, refl, sym, ap, subst, ◌∙◌}
use Rattle.std.specs.Prelude.{option_and_then, ⊤}
use Rattle.ix_base.specs.declared.fault.Fault.{Fault}
use Rattle.index_model.specs.Faults.{Built, first_fault, built_of}
use Rattle.index_model.specs.Meaning.{wrong_in}
use Rattle.outside.specs.Files.{Files}
use Rattle.outside.specs.Written.{Appends, AppendsPrefix}
use Rattle.outside.proofs.WrittenLaws.{appends_more, appends_more_prefix}
use Rattle.command_words.specs.Words.{Wanted, command_of}
use Rattle.session_base.specs.Heard.{Heard}
use Rattle.index_cmd.specs.Requests.{Request, TheHelp, TheVersion, OfFile, OfIndex, OfAdd, OfGdb, OfNames, OfServe, OfRace, OfDrill, OfAranges, OfFiles, OfCached, AsksIndex, requested, request_of}
use Rattle.index_cmd.specs.Replies.{Causes, Ends, without_line, with_line, cut, IsAnswer, IsRefusal, IsIndexRefusal, IsTableRefusal, SaysRequest}
use Rattle.command_base.specs.Replies.{Wrote, Writes, line_of}
use Rattle.index_cmd.specs.Results.{Says, WritesPrefix}
use Rattle.index_cmd.specs.Runs.{Run, HasWritten}
use Rattle.command_base.specs.declared.status.RefusedTable.{RefusedTable}
use Rattle.command_base.specs.declared.status.Status.{Status}
use Rattle.command_base.specs.declared.status.Status.TheVariants.{Answered, Refused, Usage, ReadFault, StoreFault, WriteFault, NoMemory, IndexRefused, TableRefused, IndexTooLarge, FileTooBig, AlreadyIndexed, TooManySections, InputFault, InputTooLong, Stopped}

-- ---- outcomes

-- a text is told with these, and no line
abbrev pub IsTold : Status → Type 0
IsTold Answered = ⊤
IsTold Refused = ⊤
IsTold IndexRefused = ⊤
IsTold (TableRefused table) = ⊤
IsTold InputFault = ⊤
IsTold InputTooLong = ⊤
IsTold other = ⊥

module _ (request : Option Request) (told : Option Files) (heard : Heard) (reads stores writes : Type 0) (old new : Option (List ℕ)) where
  -- a result was written, sessions stopped, or the line of a status with its cause, or a write failed
  pub data Outcome : Status → Type 0 where
    tells : {status : Status} → IsTold status → Writes old new (Says request told heard status) → Outcome status
    stops : (text : List ℕ) → Says request told heard Stopped text → AppendsPrefix old new text → Outcome Stopped
    lines : {status : Status} (text : List ℕ) → line_of status ≡ Some text → Causes request told reads stores writes status → Appends old new text → Outcome status
    fails : writes → WritesPrefix request told heard old new → Outcome WriteFault

-- what is promised of a run, by what it came to
module _ (run : Run) where
  abbrev pub Came : Status → Type 0
  Came = Outcome run.request run.files_before run.heard run.read_failed run.store_failed run.write_failed run.written_before run.written_after

  same_line : (line text : List ℕ) → Some line ≡ Some text → Appends run.written_before run.written_after text → Appends run.written_before run.written_after line
  same_line line text is a = let same : Some text ≡ Some line = sym is in subst (Appends run.written_before run.written_after) (cc same) a

  pub has_written : (status : Status) → Came status → HasWritten run status
  has_written Answered (tells t w) = w
  has_written Refused (tells t w) = w
  has_written IndexRefused (tells t w) = w
  has_written (TableRefused table) (tells t w) = w
  has_written InputFault (tells t w) = w
  has_written InputTooLong (tells t w) = w
  has_written Usage (tells t w) = absurd t
  has_written ReadFault (tells t w) = absurd t
  has_written StoreFault (tells t w) = absurd t
  has_written NoMemory (tells t w) = absurd t
  has_written IndexTooLarge (tells t w) = absurd t
  has_written FileTooBig (tells t w) = absurd t
  has_written AlreadyIndexed (tells t w) = absurd t
  has_written TooManySections (tells t w) = absurd t
  has_written WriteFault (tells t w) = absurd t
  has_written Stopped (tells t w) = absurd t
  has_written Usage (lines text is c a) = same_line _ text is a
  has_written ReadFault (lines text is c a) = same_line _ text is a
  has_written StoreFault (lines text is c a) = same_line _ text is a
  has_written NoMemory (lines text is c a) = same_line _ text is a
  has_written IndexTooLarge (lines text is c a) = same_line _ text is a
  has_written FileTooBig (lines text is c a) = same_line _ text is a
  has_written AlreadyIndexed (lines text is c a) = same_line _ text is a
  has_written TooManySections (lines text is c a) = same_line _ text is a
  has_written Answered (lines text is c a) = absurd (cc is)
  has_written Refused (lines text is c a) = absurd (cc is)
  has_written IndexRefused (lines text is c a) = absurd (cc is)
  has_written (TableRefused table) (lines text is c a) = absurd (cc is)
  has_written InputFault (lines text is c a) = absurd (cc is)
  has_written InputTooLong (lines text is c a) = absurd (cc is)
  has_written WriteFault (lines text is c a) = absurd (cc is)
  has_written Stopped (lines text is c a) = absurd (cc is)
  has_written status (stops text says part) = (text, says, part)
  has_written status (fails f p) = p

  told_causes : (status : Status) → IsTold status → Causes run.request run.files_before run.read_failed run.store_failed run.write_failed status
  told_causes Answered t = tt
  told_causes Refused t = tt
  told_causes IndexRefused t = tt
  told_causes (TableRefused table) t = tt
  told_causes InputFault t = tt
  told_causes InputTooLong t = tt
  told_causes Usage t = absurd t
  told_causes ReadFault t = absurd t
  told_causes StoreFault t = absurd t
  told_causes NoMemory t = absurd t
  told_causes IndexTooLarge t = absurd t
  told_causes FileTooBig t = absurd t
  told_causes AlreadyIndexed t = absurd t
  told_causes TooManySections t = absurd t
  told_causes WriteFault t = absurd t
  told_causes Stopped t = absurd t

  pub causes : (status : Status) → Came status → Causes run.request run.files_before run.read_failed run.store_failed run.write_failed status
  causes status (tells t w) = told_causes status t
  causes status (stops text says part) = tt
  causes status (lines text is c a) = c
  causes status (fails f p) = f

-- ---- requests that are neither sessions nor a generated program

abbrev pub IsPlain : Option Request → Type 0
IsPlain (Some (OfServe how file)) = ⊥
IsPlain (Some (OfRace how file script)) = ⊥
IsPlain (Some (OfDrill seed units)) = ⊥
IsPlain other = ⊤

-- what is said of them
pub says_plain : (request : Option Request) → IsPlain request → (told : Option Files) (heard : Heard) (status : Status) (text : List ℕ) → SaysRequest request told status text → Says request told heard status text
says_plain None p told heard status text h = h
says_plain (Some TheHelp) p told heard status text h = h
says_plain (Some TheVersion) p told heard status text h = h
says_plain (Some (OfFile file q)) p told heard status text h = h
says_plain (Some (OfIndex form file out)) p told heard status text h = h
says_plain (Some (OfAdd form file out)) p told heard status text h = h
says_plain (Some (OfGdb index q)) p told heard status text h = h
says_plain (Some (OfNames look index strings name)) p told heard status text h = h
says_plain (Some (OfAranges file)) p told heard status text h = h
says_plain (Some (OfFiles file name)) p told heard status text h = h
says_plain (Some (OfCached file store q)) p told heard status text h = h
says_plain (Some (OfServe how file)) p told heard status text h = absurd p
says_plain (Some (OfRace how file script)) p told heard status text h = absurd p
says_plain (Some (OfDrill seed units)) p told heard status text h = absurd p

-- what such a request comes to
module _ (request : Option Request) (told : Option Files) (reads stores writes : Type 0) (old new : Option (List ℕ)) where
  pub data Plain : Status → Type 0 where
    answers : Writes old new (IsAnswer request told) → Plain Answered
    refuses : Writes old new (IsRefusal request told) → Plain Refused
    index_refuses : Writes old new (IsIndexRefusal request told) → Plain IndexRefused
    table_refuses : (table : RefusedTable) → Writes old new (IsTableRefusal request table told) → Plain (TableRefused table)
    plain_lines : {status : Status} (text : List ℕ) → line_of status ≡ Some text → Causes request told reads stores writes status → Plain status
    plain_fails : writes → Plain WriteFault

  module _ (heard : Heard) (f : (status : Status) (text : List ℕ) → Says request told heard status text → SaysRequest request told status text) where
    pub plain : (status : Status) → Outcome request told heard reads stores writes old new status → Plain status
    plain Answered (tells t w) = answers (w.0, f Answered w.0 w.1, w.2)
    plain Refused (tells t w) = refuses (w.0, f Refused w.0 w.1, w.2)
    plain IndexRefused (tells t w) = index_refuses (w.0, f IndexRefused w.0 w.1, w.2)
    plain (TableRefused table) (tells t w) = table_refuses table (w.0, f (TableRefused table) w.0 w.1, w.2)
    plain InputFault (tells t w) = absurd (f InputFault w.0 w.1)
    plain InputTooLong (tells t w) = absurd (f InputTooLong w.0 w.1)
    plain Usage (tells t w) = absurd t
    plain ReadFault (tells t w) = absurd t
    plain StoreFault (tells t w) = absurd t
    plain WriteFault (tells t w) = absurd t
    plain NoMemory (tells t w) = absurd t
    plain IndexTooLarge (tells t w) = absurd t
    plain FileTooBig (tells t w) = absurd t
    plain AlreadyIndexed (tells t w) = absurd t
    plain TooManySections (tells t w) = absurd t
    plain Stopped (tells t w) = absurd t
    plain status (stops text says part) = absurd (f Stopped text says)
    plain status (lines text is c a) = plain_lines text is c
    plain status (fails h p) = plain_fails h

-- what doesn't depend on the file
pub asks_index : (request : Option Request) (P : Type 0) → AsksIndex request (λ _ _ _. P) → P
asks_index (Some (OfIndex form file out)) P h = h
asks_index (Some (OfAdd form file out)) P h = h
asks_index (Some (OfFile file q)) P h = absurd h
asks_index (Some (OfGdb index q)) P h = absurd h
asks_index (Some (OfNames look index strings name)) P h = absurd h
asks_index (Some (OfServe how file)) P h = absurd h
asks_index (Some (OfRace how file script)) P h = absurd h
asks_index (Some (OfDrill seed units)) P h = absurd h
asks_index (Some (OfAranges file)) P h = absurd h
asks_index (Some (OfFiles file name)) P h = absurd h
asks_index (Some (OfCached file store q)) P h = absurd h
asks_index (Some TheHelp) P h = absurd h
asks_index (Some TheVersion) P h = absurd h
asks_index None P h = absurd h

-- ---- from what was written before the line

module _ (request : Option Request) (told : Option Files) (heard : Heard) where
  -- a status with a line wrote nothing before it
  pub nothing : (status : Status) (line : List ℕ) (old mid : Option (List ℕ)) → line_of status ≡ Some line → Wrote (Says request told heard) status old mid → Appends old mid []
  nothing Answered line old mid has w = absurd (cc has)
  nothing Refused line old mid has w = absurd (cc has)
  nothing WriteFault line old mid has w = absurd (cc has)
  nothing Usage line old mid has w = w
  nothing ReadFault line old mid has w = w
  nothing NoMemory line old mid has w = w
  nothing FileTooBig line old mid has w = w
  nothing AlreadyIndexed line old mid has w = w
  nothing TooManySections line old mid has w = w
  nothing StoreFault line old mid has w = w
  nothing IndexTooLarge line old mid has w = w
  nothing IndexRefused line old mid has w = absurd (cc has)
  nothing (TableRefused table) line old mid has w = absurd (cc has)
  nothing InputFault line old mid has w = absurd (cc has)
  nothing InputTooLong line old mid has w = absurd (cc has)
  nothing Stopped line old mid has w = absurd (cc has)

module _ (request : Option Request) (told : Option Files) (heard : Heard) (reads stores first second writes : Type 0) (weaker : first → writes) (later : second → writes) where
  cause_up : (status : Status) → Causes request told reads stores first status → Causes request told reads stores writes status
  cause_up Answered c = tt
  cause_up Refused c = tt
  cause_up Usage c = c
  cause_up ReadFault c = c
  cause_up WriteFault c = weaker c
  cause_up NoMemory c = tt
  cause_up FileTooBig c = c
  cause_up AlreadyIndexed c = c
  cause_up TooManySections c = c
  cause_up InputFault c = tt
  cause_up InputTooLong c = tt
  cause_up Stopped c = tt
  cause_up StoreFault c = c
  cause_up IndexRefused c = tt
  cause_up (TableRefused table) c = tt
  cause_up IndexTooLarge c = c

  without : (status : Status) (old new : Option (List ℕ)) → line_of status ≡ None → Wrote (Says request told heard) status old new → Causes request told reads stores first status → Outcome request told heard reads stores writes old new status
  without Answered old new none w c = tells tt w
  without Refused old new none w c = tells tt w
  without WriteFault old new none w c = fails (weaker c) (w.1, (w.0, inl w.2), w.3)
  without Usage old new none w c = absurd (cc none)
  without ReadFault old new none w c = absurd (cc none)
  without NoMemory old new none w c = absurd (cc none)
  without FileTooBig old new none w c = absurd (cc none)
  without AlreadyIndexed old new none w c = absurd (cc none)
  without TooManySections old new none w c = absurd (cc none)
  without StoreFault old new none w c = absurd (cc none)
  without IndexTooLarge old new none w c = absurd (cc none)
  without IndexRefused old new none w c = tells tt w
  without (TableRefused table) old new none w c = tells tt w
  without InputFault old new none w c = tells tt w
  without InputTooLong old new none w c = tells tt w
  without Stopped old new none w c = stops w.0 w.1 w.2

  pub outcome : (status result : Status) (old mid new : Option (List ℕ)) → Wrote (Says request told heard) status old mid → Causes request told reads stores first status → Ends status mid new second result → Outcome request told heard reads stores writes old new result
  outcome status result old mid new w c (without_line none same) = without status old new none (subst (λ (o : Option (List ℕ)). Wrote (Says request told heard) status old o) same w) c
  outcome status result old mid new w c (with_line text has all) = lines text has (cause_up status c) (appends_more old mid new [] text (nothing request told heard status text old mid has w) all)
  outcome status result old mid new w c (cut text has f part) = fails (later f) (text, (status, inr has), appends_more_prefix old mid new [] text (nothing request told heard status text old mid has w) part)

-- ---- words outside the grammar

module _ (told : Option Files) (reads stores writes : Type 0) (old new : Option (List ℕ)) where
  -- where nothing is asked, that is said, or memory was refused, or a write failed
  pub no_request : (status : Status) → Plain None told reads stores writes old new status → (status ≡ Usage) ⊎ ((status ≡ WriteFault) × writes) ⊎ (status ≡ NoMemory)
  no_request status (answers w) = absurd w.1
  no_request status (refuses w) = absurd w.1
  no_request status (index_refuses w) = absurd w.1
  no_request status (table_refuses table w) = absurd w.1
  no_request status (plain_fails f) = inr (inl (refl, f))
  no_request Usage (plain_lines text is c) = inl refl
  no_request NoMemory (plain_lines text is c) = inr (inr refl)
  no_request Answered (plain_lines text is c) = absurd (cc is)
  no_request Refused (plain_lines text is c) = absurd (cc is)
  no_request WriteFault (plain_lines text is c) = absurd (cc is)
  no_request ReadFault (plain_lines text is c) = absurd c
  no_request FileTooBig (plain_lines text is c) = absurd c
  no_request AlreadyIndexed (plain_lines text is c) = absurd c
  no_request TooManySections (plain_lines text is c) = absurd c
  no_request StoreFault (plain_lines text is c) = absurd c
  no_request IndexTooLarge (plain_lines text is c) = absurd c
  no_request IndexRefused (plain_lines text is c) = absurd (cc is)
  no_request (TableRefused table) (plain_lines text is c) = absurd (cc is)
  no_request InputFault (plain_lines text is c) = absurd (cc is)
  no_request InputTooLong (plain_lines text is c) = absurd (cc is)
  no_request Stopped (plain_lines text is c) = absurd (cc is)

pub outside_grammar : (request : Option Request) (told : Option Files) (heard : Heard) (reads stores writes : Type 0) (old new : Option (List ℕ)) (status : Status) → Outcome request told heard reads stores writes old new status → request ≡ None → (status ≡ Usage) ⊎ (status ≡ WriteFault) ⊎ (status ≡ NoMemory)
outside_grammar request told heard reads stores writes old new status o is =
    by (no_request told reads stores writes old new status (plain None told reads stores writes old new heard (λ _ _ h. h) status (subst (λ (r : Option Request). Outcome r told heard reads stores writes old new status) is o)))
  where
    by : (status ≡ Usage) ⊎ ((status ≡ WriteFault) × writes) ⊎ (status ≡ NoMemory) → (status ≡ Usage) ⊎ (status ≡ WriteFault) ⊎ (status ≡ NoMemory)
    by (inl e) = inl e
    by (inr (inl e)) = inr (inl e.0)
    by (inr (inr e)) = inr (inr e)

-- the file holds no other bytes than these
pub same_bytes : (held : Option (List ℕ)) (a b : List ℕ) → held ≡ Some a → held ≡ Some b → a ≡ b
same_bytes held a b x y = let same : Some a ≡ Some b = sym x ∙ y in cc same

pub accepted_built : (file : List ℕ) (b : Built) → built_of file ≡ Ok b → first_fault file ≡ None
accepted_built file b is = ap wrong_in is

pub none_some : (f : Fault) → None ≡ Some f → ⊥
none_some f e = cc e

-- ---- a status's line is written

-- no line goes with these
pub no_line : (status : Status) (written : Option (List ℕ)) (failed : Type 0) → line_of status ≡ None → Ends status written written failed status
no_line status written failed none = without_line none refl

pub line_said : (status result : Status) (old new : Option (List ℕ)) (failed : Type 0) (text : List ℕ) → line_of status ≡ Some text → (result ≡ status → Appends old new text) → (result ≡ status) ⊎ (result ≡ WriteFault) → (result ≡ WriteFault → failed) → (result ≡ WriteFault → AppendsPrefix old new text) → Ends status old new failed result
line_said status result old new failed text has said (inl e) fault left = subst (Ends status old new failed) (sym e) (with_line text has (said e))
line_said status result old new failed text has said (inr e) fault left = subst (Ends status old new failed) (sym e) (cut text has (fault e) (left e))

-- what the words of a command ask for
pub request_is : (words : List (List ℕ)) (w : Wanted) → Some w ≡ command_of words → request_of words ≡ requested w
request_is words w is = ap (option_and_then requested) (sym is)
