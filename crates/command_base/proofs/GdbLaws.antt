-- The answer of a `.gdb_index`.
use Rattle.std.proofs.Common.{◌≡◌, ℕ, List, Option, Some, Ok, sym, ap, ◌∙◌}
use Rattle.index_model.specs.Answers.{Answer, Answered as Replied}
use Rattle.index_model.specs.GdbIndexRead.{GdbIndex, gdb_index}
use Rattle.query_text.specs.Questions.{Question}
use Rattle.index_model.specs.Texts.{text_of_answer}
use Rattle.command_base.specs.Replies.{SaysReply, Wrote}
use Rattle.command_base.specs.declared.status.Status.{Status}
use Rattle.command_base.specs.declared.status.Status.TheVariants.{Answered, Refused, Usage, ReadFault, StoreFault, WriteFault, NoMemory, IndexRefused, TableRefused, IndexTooLarge, FileTooBig, AlreadyIndexed, TooManySections, InputFault, InputTooLong, Stopped}
use Rattle.command_base.proofs.ReplyLaws.{wrote_weaker}
use Rattle.command_base.specs.GdbLooks.{gdb_text, SaysGdb, SaysLook}

module _ (index : GdbIndex) (q : Question) (a : Answer) (is : gdb_text index q ≡ Some (text_of_answer a)) where
  short : (status : Status) (text : List ℕ) → SaysReply (Replied a) status text → SaysLook index q status text
  short Answered text h = is ∙ ap (λ (t : List ℕ). Some t) (sym h)
  short Refused text h = absurd h
  short Usage text h = absurd h
  short ReadFault text h = absurd h
  short StoreFault text h = absurd h
  short WriteFault text h = absurd h
  short NoMemory text h = absurd h
  short IndexRefused text h = absurd h
  short IndexTooLarge text h = absurd h
  short FileTooBig text h = absurd h
  short AlreadyIndexed text h = absurd h
  short TooManySections text h = absurd h
  short (TableRefused table) text h = absurd h
  short InputFault text h = absurd h
  short InputTooLong text h = absurd h
  short Stopped text h = absurd h

  -- an answer of one line is that of the index
  pub wrote_short : (status : Status) (old new : Option (List ℕ)) → Wrote (SaysReply (Replied a)) status old new → Wrote (SaysLook index q) status old new
  wrote_short status old new w = wrote_weaker (SaysReply (Replied a)) (SaysLook index q) short status old new w

module _ (bytes : List ℕ) (index : GdbIndex) (opened : gdb_index bytes ≡ Ok index) (q : Question) where
  by_bytes : (status : Status) (text : List ℕ) → SaysLook index q status text → SaysGdb bytes q status text
  by_bytes Answered text h = record { index = index; accepted = opened; text_is = h }
  by_bytes Refused text h = h
  by_bytes Usage text h = h
  by_bytes ReadFault text h = h
  by_bytes StoreFault text h = h
  by_bytes WriteFault text h = h
  by_bytes NoMemory text h = h
  by_bytes IndexRefused text h = absurd h
  by_bytes IndexTooLarge text h = h
  by_bytes FileTooBig text h = h
  by_bytes AlreadyIndexed text h = h
  by_bytes TooManySections text h = h
  by_bytes (TableRefused table) text h = h
  by_bytes InputFault text h = h
  by_bytes InputTooLong text h = h
  by_bytes Stopped text h = h

  -- the answer of the index is that of its bytes
  pub wrote_opened : (status : Status) (old new : Option (List ℕ)) → Wrote (SaysLook index q) status old new → Wrote (SaysGdb bytes q) status old new
  wrote_opened status old new w = wrote_weaker (SaysLook index q) (SaysGdb bytes q) by_bytes status old new w
