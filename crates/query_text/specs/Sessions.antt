-- What a session does: the lines that it answers, the marks that its reader gains, and what it writes.
use Rattle.std.specs.Prelude.{◌≡◌, ◌≤◌, ◌<◌, ℕ, ◌+◌, ◌^◌, Bool, true, List, [], ◌∷◌, ◌++◌, length, All, Option, Some, None, IsSome}
use Rattle.outside.specs.Counts.{Rose}
use Rattle.outside.specs.Taken.{Takes, IsAtEnd}
use Rattle.outside.specs.Written.{Appends, AppendsPrefix}
use Rattle.index_model.specs.Cache.{size_in}
use Rattle.index_model.specs.Faults.{built_of}
use Rattle.index_model.specs.Outputs.{Subject}
use Rattle.index_model.specs.Queries.{Query, query_of}
use Rattle.index_board.specs.Readers.{Reader}
use Rattle.name_quotes.specs.declared.quote.Spelling.{Spelling}
use Rattle.query_text.specs.declared.fault.SessionFault.{SessionFault}
use Rattle.query_text.specs.declared.fault.SessionFault.TheVariants.{ReadFault, WriteFault, LineTooLong, InputTooLong, NoMemory}
use Rattle.query_text.specs.Buffers.{longest_line}
use Rattle.query_text.specs.Gains.{Gains}
use Rattle.query_text.specs.Spelled.{text_of_look_in, transcript_in}
use Rattle.query_text.specs.WholeLines.{HasNoNewline, whole_lines_of, known_lines}

-- one more for a query
abbrev pub one_if : Option Query → ℕ → ℕ
one_if None n = n
one_if (Some q) n = n + 1

-- how many of the lines are queries
abbrev pub look_ups : List (List ℕ) → ℕ
look_ups [] = 0
look_ups (line ∷ lines) = one_if (query_of line) (look_ups lines)

-- So much was taken of an input, which has ended or may go on.
pub record TakesUntil (left_old left_new : Option (List ℕ)) (ended : Bool) (taken : List ℕ) : Type 0 where
  pub takes : Takes left_old left_new taken
  pub end : ended ≡ true → IsAtEnd left_new

-- a line has no more bytes than the longest
abbrev pub IsShort : List ℕ → Type 0
IsShort line = length line ≤ longest_line

-- the bytes behind the last newline begin a line that is longer than the longest
pub record HasLongLine (taken : List ℕ) : Type 0 where
  pub before : List ℕ
  pub part : List ℕ
  pub whole : taken ≡ before ++ part
  pub one_line : HasNoNewline part
  pub long : longest_line < length part

-- ---- what is written, by how names are

module _ (spelling : Spelling) where
  -- what a look-up at a mark writes
  abbrev pub look_text : Subject → Query → ℕ → List ℕ
  look_text s q mark = text_of_look_in spelling (built_of s.file) (size_in s.cache (built_of s.file)) q mark

  -- what these lines write, each look-up at the next of the marks
  abbrev pub transcript : Subject → List (List ℕ) → List ℕ → List ℕ
  transcript s lines marks = transcript_in spelling (built_of s.file) (size_in s.cache (built_of s.file)) lines marks

  -- The lines were answered: the reader gained a mark for each query among them, and their text was appended.
  pub record Answers (old new : Reader) (told_old told_new : Option (List ℕ)) (lines : List (List ℕ)) : Type 0 where
    pub marks : List ℕ
    pub gained : Gains old new marks
    pub count : length marks ≡ look_ups lines
    pub text : Appends told_old told_new (transcript old.board.subject lines marks)

  -- The same, but for the text, of which a prefix was appended.
  pub record AnswersInPart (old new : Reader) (told_old told_new : Option (List ℕ)) (lines : List (List ℕ)) : Type 0 where
    pub marks : List ℕ
    pub gained : Gains old new marks
    pub count : length marks ≡ look_ups lines
    pub text : AppendsPrefix told_old told_new (transcript old.board.subject lines marks)

  -- The lines were answered, and then the look-up of one more was refused memory: that line added a mark and no text.
  pub record AnswersBefore (old new : Reader) (told_old told_new : Option (List ℕ)) (lines : List (List ℕ)) (line : List ℕ) : Type 0 where
    pub query : IsSome (query_of line)
    pub marks : List ℕ
    pub mark : ℕ
    pub gained : Gains old new (marks ++ mark ∷ [])
    pub count : length marks ≡ look_ups lines
    pub text : Appends told_old told_new (transcript old.board.subject lines marks)

  -- one of the lines is the last whose reply was begun
  pub record StopsWithin (old new : Reader) (told_old told_new : Option (List ℕ)) (known : List (List ℕ)) : Type 0 where
    pub lines : List (List ℕ)
    pub rest : List (List ℕ)
    pub front : lines ++ rest ≡ known
    pub answers : AnswersInPart old new told_old told_new lines

  -- one of the lines was refused memory, and those before it were answered
  pub record StopsBefore (old new : Reader) (told_old told_new : Option (List ℕ)) (known : List (List ℕ)) : Type 0 where
    pub lines : List (List ℕ)
    pub line : List ℕ
    pub rest : List (List ℕ)
    pub front : lines ++ line ∷ rest ≡ known
    pub answers : AnswersBefore old new told_old told_new lines line

  -- how the answers to known lines stop: at a fault of the output, whose count rose, or of memory
  abbrev pub Stops : Reader → Reader → Option (List ℕ) → Option (List ℕ) → ℕ → ℕ → List (List ℕ) → SessionFault → Type 0
  Stops old new told_old told_new faults_old faults_new known WriteFault = Rose faults_old faults_new × StopsWithin old new told_old told_new known
  Stops old new told_old told_new faults_old faults_new known NoMemory = StopsBefore old new told_old told_new known
  Stops old new told_old told_new faults_old faults_new known _ = ⊥

  -- what was taken of the input, and that the lines of it that are whole were answered, none of which is too long
  pub record AnswersWhole (left_old left_new : Option (List ℕ)) (old new : Reader) (told_old told_new : Option (List ℕ)) : Type 0 where
    pub taken : List ℕ
    pub takes : Takes left_old left_new taken
    pub few : length taken ≤ 2 ^ 32
    pub short : All IsShort (whole_lines_of taken)
    pub answers : Answers old new told_old told_new (whole_lines_of taken)

  -- what was taken of the input, and how the answers to the lines that are known to be whole stop, none of which is too long
  pub record StopsAt (left_old left_new : Option (List ℕ)) (old new : Reader) (told_old told_new : Option (List ℕ)) (faults_old faults_new : ℕ) (fault : SessionFault) : Type 0 where
    pub taken : List ℕ
    pub ended : Bool
    pub takes : TakesUntil left_old left_new ended taken
    pub few : length taken ≤ 2 ^ 32
    pub short : All IsShort (known_lines ended taken)
    pub stops : Stops old new told_old told_new faults_old faults_new (known_lines ended taken) fault

  -- How a session stops. After a fault of the input, a line too long and an input too long, all lines that are whole were answered.
  abbrev pub SessionStops : Option (List ℕ) → Option (List ℕ) → ℕ → ℕ → Reader → Reader → Option (List ℕ) → Option (List ℕ) → ℕ → ℕ → SessionFault → Type 0
  SessionStops left_old left_new reads_old reads_new old new told_old told_new faults_old faults_new ReadFault =
      Rose reads_old reads_new × AnswersWhole left_old left_new old new told_old told_new
  SessionStops left_old left_new reads_old reads_new old new told_old told_new faults_old faults_new LineTooLong =
      (a : AnswersWhole left_old left_new old new told_old told_new) × HasLongLine a.taken
  SessionStops left_old left_new reads_old reads_new old new told_old told_new faults_old faults_new InputTooLong =
      (a : AnswersWhole left_old left_new old new told_old told_new) × (length a.taken ≡ 2 ^ 32)
  SessionStops left_old left_new reads_old reads_new old new told_old told_new faults_old faults_new WriteFault =
      StopsAt left_old left_new old new told_old told_new faults_old faults_new WriteFault
  SessionStops left_old left_new reads_old reads_new old new told_old told_new faults_old faults_new NoMemory =
      StopsAt left_old left_new old new told_old told_new faults_old faults_new NoMemory
