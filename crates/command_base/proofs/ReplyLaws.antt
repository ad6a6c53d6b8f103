-- A reply is written.
use Rattle.std.proofs.Common.{◌≡◌, ℕ, List, Option, Result, Ok, Err, refl, sym, subst, inl, inr, ◌∙◌}
use Rattle.std.specs.Prelude.{OnOk, OnErr}
use mathlib.Core.Logic.{◌⊎◌}
use Rattle.ix_base.specs.declared.fault.Fault.{Fault}
use Rattle.index_model.specs.Answers.{Answer, Reply, Answered as Replied, Refused as Refuses, Stopped as NotSaid}
use Rattle.index_model.specs.Texts.{text_of_fault, text_of_reply}
use Rattle.name_quotes.specs.declared.quote.Spelling.{Spelling}
use Rattle.name_quotes.specs.declared.quote.Spelling.TheVariants.{Plain, Quoted}
use Rattle.query_text.specs.Spelled.{answer_in, reply_in}
use Rattle.outside.specs.declared.shelf.Failed.{Failed}
use Rattle.outside.specs.Written.{Appends, AppendsPrefix}
use Rattle.command_base.specs.Replies.{SaysReply, Wrote, status_after, status_of_reply}
use Rattle.command_base.specs.declared.status.Status.{Status}
use Rattle.command_base.specs.declared.status.RefusedTable.{RefusedTable}
use Rattle.command_base.specs.declared.status.Status.TheVariants.{Answered, Refused, Usage, ReadFault, StoreFault, WriteFault, NoMemory, IndexRefused, TableRefused, IndexTooLarge, FileTooBig, AlreadyIndexed, TooManySections, InputFault, InputTooLong, Stopped}

-- ---- what is written

-- what says more says less
pub wrote_weaker : (Says More : Status → List ℕ → Type 0) → ((status : Status) (text : List ℕ) → Says status text → More status text) → (status : Status) (old new : Option (List ℕ)) → Wrote Says status old new → Wrote More status old new
wrote_weaker Says More f Answered old new w = (w.0, f Answered w.0 w.1, w.2)
wrote_weaker Says More f Refused old new w = (w.0, f Refused w.0 w.1, w.2)
wrote_weaker Says More f IndexRefused old new w = (w.0, f IndexRefused w.0 w.1, w.2)
wrote_weaker Says More f (TableRefused table) old new w = (w.0, f (TableRefused table) w.0 w.1, w.2)
wrote_weaker Says More f WriteFault old new w = (w.0, w.1, f w.0 w.1 w.2, w.3)
wrote_weaker Says More f InputFault old new w = (w.0, f InputFault w.0 w.1, w.2)
wrote_weaker Says More f InputTooLong old new w = (w.0, f InputTooLong w.0 w.1, w.2)
wrote_weaker Says More f Stopped old new w = (w.0, f Stopped w.0 w.1, w.2)
wrote_weaker Says More f Usage old new w = w
wrote_weaker Says More f ReadFault old new w = w
wrote_weaker Says More f StoreFault old new w = w
wrote_weaker Says More f NoMemory old new w = w
wrote_weaker Says More f IndexTooLarge old new w = w
wrote_weaker Says More f FileTooBig old new w = w
wrote_weaker Says More f AlreadyIndexed old new w = w
wrote_weaker Says More f TooManySections old new w = w

-- the status is that of the reply, or the write failed
pub after_reply : (written : Result (Unit {0}) Failed) (reply : Reply) (result status : Status) → result ≡ status_after written status → status ≡ status_of_reply reply → (result ≡ status_of_reply reply) ⊎ (result ≡ WriteFault)
after_reply (Ok x) reply result status is same = inl (is ∙ same)
after_reply (Err e) reply result status is same = inr is

-- ---- a reply is written

module _ (reply : Reply) (old new : Option (List ℕ)) where
  -- the text was appended, or a prefix of it
  pub sent : (r : Result (Unit {0}) Failed) (status : Status) (text : List ℕ) → SaysReply reply status text → (status ≡ Answered) ⊎ (status ≡ Refused) → OnOk r (Appends old new text) → OnErr r (AppendsPrefix old new text) → Wrote (SaysReply reply) (status_after r status) old new
  sent (Ok x) Answered text says is all part = (text, says, all)
  sent (Ok x) Refused text says is all part = (text, says, all)
  sent (Err e) status text says is all part = (status, text, says, part)
  sent (Ok x) Usage text says (inl is) all part = absurd (cc is)
  sent (Ok x) Usage text says (inr is) all part = absurd (cc is)
  sent (Ok x) ReadFault text says (inl is) all part = absurd (cc is)
  sent (Ok x) ReadFault text says (inr is) all part = absurd (cc is)
  sent (Ok x) WriteFault text says (inl is) all part = absurd (cc is)
  sent (Ok x) WriteFault text says (inr is) all part = absurd (cc is)
  sent (Ok x) NoMemory text says (inl is) all part = absurd (cc is)
  sent (Ok x) NoMemory text says (inr is) all part = absurd (cc is)
  sent (Ok x) FileTooBig text says (inl is) all part = absurd (cc is)
  sent (Ok x) AlreadyIndexed text says (inl is) all part = absurd (cc is)
  sent (Ok x) TooManySections text says (inl is) all part = absurd (cc is)
  sent (Ok x) InputFault text says (inl is) all part = absurd (cc is)
  sent (Ok x) InputTooLong text says (inl is) all part = absurd (cc is)
  sent (Ok x) Stopped text says (inl is) all part = absurd (cc is)
  sent (Ok x) FileTooBig text says (inr is) all part = absurd (cc is)
  sent (Ok x) AlreadyIndexed text says (inr is) all part = absurd (cc is)
  sent (Ok x) TooManySections text says (inr is) all part = absurd (cc is)
  sent (Ok x) InputFault text says (inr is) all part = absurd (cc is)
  sent (Ok x) InputTooLong text says (inr is) all part = absurd (cc is)
  sent (Ok x) Stopped text says (inr is) all part = absurd (cc is)
  sent (Ok x) StoreFault text says (inl is) all part = absurd (cc is)
  sent (Ok x) StoreFault text says (inr is) all part = absurd (cc is)
  sent (Ok x) IndexRefused text says (inl is) all part = absurd (cc is)
  sent (Ok x) IndexRefused text says (inr is) all part = absurd (cc is)
  sent (Ok x) (TableRefused table) text says (inl is) all part = absurd (cc is)
  sent (Ok x) (TableRefused table) text says (inr is) all part = absurd (cc is)
  sent (Ok x) IndexTooLarge text says (inl is) all part = absurd (cc is)
  sent (Ok x) IndexTooLarge text says (inr is) all part = absurd (cc is)

-- how names are written changes neither that a reply is an answer nor a fault
pub answered_in : (spelling : Spelling) (a : Answer) → reply_in spelling (Replied a) ≡ Replied (answer_in spelling a)
answered_in Plain a = refl
answered_in Quoted a = refl

pub refused_in : (spelling : Spelling) (f : Fault) → reply_in spelling (Refuses f) ≡ Refuses f
refused_in Plain f = refl
refused_in Quoted f = refl

pub stopped_in : (spelling : Spelling) → reply_in spelling NotSaid ≡ NotSaid
stopped_in Plain = refl
stopped_in Quoted = refl

pub says_answer : (r : Reply) (a : Answer) → r ≡ Replied a → SaysReply r Answered (text_of_reply r)
unfolding text_of_reply
says_answer r a is = subst (λ (x : Reply). SaysReply x Answered (text_of_reply x)) (sym is) refl

pub says_fault : (r : Reply) (f : Fault) → r ≡ Refuses f → SaysReply r Refused (text_of_reply r)
unfolding text_of_reply
says_fault r f is = subst (λ (x : Reply). SaysReply x Refused (text_of_reply x)) (sym is) refl

-- ---- a text is written

module _ (Says : Status → List ℕ → Type 0) (old new : Option (List ℕ)) (text : List ℕ) where
  pub sent_answer : (r : Result (Unit {0}) Failed) → Says Answered text → OnOk r (Appends old new text) → OnErr r (AppendsPrefix old new text) → Wrote Says (status_after r Answered) old new
  sent_answer (Ok x) says all part = (text, says, all)
  sent_answer (Err e) says all part = (Answered, text, says, part)

  pub sent_refusal : (r : Result (Unit {0}) Failed) → Says IndexRefused text → OnOk r (Appends old new text) → OnErr r (AppendsPrefix old new text) → Wrote Says (status_after r IndexRefused) old new
  sent_refusal (Ok x) says all part = (text, says, all)
  sent_refusal (Err e) says all part = (IndexRefused, text, says, part)

  pub sent_table : (table : RefusedTable) (r : Result (Unit {0}) Failed) → Says (TableRefused table) text → OnOk r (Appends old new text) → OnErr r (AppendsPrefix old new text) → Wrote Says (status_after r (TableRefused table)) old new
  sent_table table (Ok x) says all part = (text, says, all)
  sent_table table (Err e) says all part = (TableRefused table, text, says, part)

-- ---- the first fault of a file

module _ (Says : Status → List ℕ → Type 0) (f : Fault) (says : (text : List ℕ) → text ≡ text_of_fault f → Says Refused text) where
  of_reply : (status : Status) (text : List ℕ) → SaysReply (Refuses f) status text → Says status text
  of_reply Refused text h = says text h
  of_reply Answered text h = absurd h
  of_reply Usage text h = absurd h
  of_reply ReadFault text h = absurd h
  of_reply StoreFault text h = absurd h
  of_reply WriteFault text h = absurd h
  of_reply NoMemory text h = absurd h
  of_reply IndexRefused text h = absurd h
  of_reply (TableRefused table) text h = absurd h
  of_reply IndexTooLarge text h = absurd h
  of_reply FileTooBig text h = absurd h
  of_reply AlreadyIndexed text h = absurd h
  of_reply TooManySections text h = absurd h
  of_reply InputFault text h = absurd h
  of_reply InputTooLong text h = absurd h
  of_reply Stopped text h = absurd h

  -- the reply says what this says of the fault
  pub wrote_refused : (status : Status) (old new : Option (List ℕ)) → Wrote (SaysReply (Refuses f)) status old new → Wrote Says status old new
  wrote_refused status old new w = wrote_weaker (SaysReply (Refuses f)) Says of_reply status old new w
