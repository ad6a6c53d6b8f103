-- What one look-up of a session writes, and how it stops.
use Rattle.std.specs.Prelude.{ℕ, List, [], ◌∷◌, ◌++◌, codes, Option}
use Rattle.outside.specs.Counts.{Rose}
use Rattle.outside.specs.Written.{Appends, AppendsPrefix}
use Rattle.index_model.specs.Answers.{Reply}
use Rattle.index_model.specs.Queries.{Query}
use Rattle.index_model.specs.Texts.{text_of_reply}
use Rattle.index_model.specs.Transcripts.{digit_of}
use Rattle.index_board.specs.Readers.{Reader}
use Rattle.name_quotes.specs.declared.quote.Spelling.{Spelling}
use Rattle.query_text.specs.declared.fault.SessionFault.{SessionFault}
use Rattle.query_text.specs.declared.fault.SessionFault.TheVariants.{WriteFault, NoMemory}
use Rattle.query_text.specs.Gains.{Gains}
use Rattle.query_text.specs.Sessions.{look_text}
use Rattle.query_text.specs.Spelled.{reply_in}

-- a look-up that was refused memory
pub record LookRefused (old new : Reader) (told_old told_new : Option (List ℕ)) : Type 0 where
  pub mark : ℕ
  pub gained : Gains old new (mark ∷ [])
  pub text : Appends told_old told_new []

module _ (spelling : Spelling) where
  -- the digit of a mark, a space, and the text of a reply
  abbrev pub look_line : ℕ → Reply → List ℕ
  look_line mark reply = digit_of mark ++ codes " " ++ text_of_reply (reply_in spelling reply)

  -- a look-up that was answered in part, since the output failed
  pub record LookCut (old new : Reader) (told_old told_new : Option (List ℕ)) (q : Query) : Type 0 where
    pub mark : ℕ
    pub gained : Gains old new (mark ∷ [])
    pub text : AppendsPrefix told_old told_new (look_text spelling old.board.subject q mark)

  -- how a look-up stops: each way it made a mark
  abbrev pub LookStops : Reader → Reader → Option (List ℕ) → Option (List ℕ) → ℕ → ℕ → Query → SessionFault → Type 0
  LookStops old new told_old told_new faults_old faults_new q WriteFault = Rose faults_old faults_new × LookCut old new told_old told_new q
  LookStops old new told_old told_new faults_old faults_new q NoMemory = LookRefused old new told_old told_new
  LookStops old new told_old told_new faults_old faults_new q _ = ⊥
