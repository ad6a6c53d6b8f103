-- Replies whose names are written as they stand in the file, or quoted.
use Rattle.std.specs.Prelude.{◌≡◌, ℕ, List, [], ◌∷◌, ◌++◌, map, flat_map, codes, Option, Some, None, option_map, Result}
use Rattle.ix_base.specs.declared.fault.Fault.{Fault}
use Rattle.name_quotes.specs.declared.quote.Spelling.{Spelling}
use Rattle.name_quotes.specs.declared.quote.Spelling.TheVariants.{Plain, Quoted}
use Rattle.name_quotes.specs.Quotes.{spelled}
use Rattle.index_model.specs.declared.entry.Entry.{Entry}
use Rattle.index_model.specs.declared.answer.CacheSize.{CacheSize}
use Rattle.index_model.specs.declared.answer.Main.{Main}
use Rattle.index_model.specs.Answers.{Answer, Entries, InUnit, MainIs, CacheIs, Reply, Answered, Pending, Refused, Stopped, entries_at, reply_at}
use Rattle.index_model.specs.Faults.{Built}
use Rattle.index_model.specs.Queries.{Query, query_of}
use Rattle.index_model.specs.Texts.{text_of_entry, text_of_reply}
use Rattle.index_model.specs.Transcripts.{bad_query, digit_of, transcript_of}

-- an entry, and the main program, with the name as it is written
abbrev pub entry_in : Spelling → Entry → Entry
entry_in spelling e = record e { name = spelled spelling e.name }

abbrev pub main_in : Spelling → Main → Main
main_in spelling m = record m { name = spelled spelling m.name }

-- an answer with its names so
abbrev pub answer_in : Spelling → Answer → Answer
answer_in Plain a = a
answer_in Quoted (Entries es ks) = Entries (map (entry_in Quoted) es) ks
answer_in Quoted (InUnit u) = InUnit u
answer_in Quoted (MainIs m) = MainIs (option_map (main_in Quoted) m)
answer_in Quoted (CacheIs size) = CacheIs size

-- a reply with its names so
abbrev pub reply_in : Spelling → Reply → Reply
reply_in Plain reply = reply
reply_in Quoted (Answered a) = Answered (answer_in Quoted a)
reply_in Quoted Pending = Pending
reply_in Quoted (Refused f) = Refused f
reply_in Quoted Stopped = Stopped

-- the lines of the entries at these places
abbrev pub texts_at : Spelling → List Entry → List ℕ → List ℕ
texts_at spelling es ks = flat_map (λ e. text_of_entry (entry_in spelling e)) (entries_at es ks)

-- ---- sessions

module _ (spelling : Spelling) (r : Result Built Fault) (cache : CacheSize) where
  -- what a look-up at a mark writes
  abbrev pub text_of_look_in : Query → ℕ → List ℕ
  text_of_look_in q mark = digit_of mark ++ codes " " ++ text_of_reply (reply_in spelling (reply_at r cache q mark))

  -- line by line what these queries write, each look-up at the next of the marks
  unfoldable pub texts_in : List (Option Query) → List ℕ → List ℕ
  texts_in [] marks = []
  texts_in (None ∷ lines) marks = bad_query ++ texts_in lines marks
  texts_in (Some q ∷ lines) [] = []
  texts_in (Some q ∷ lines) (mark ∷ marks) = text_of_look_in q mark ++ texts_in lines marks

  -- what a session writes on these lines
  unfoldable pub transcript_in : List (List ℕ) → List ℕ → List ℕ
  transcript_in lines marks = texts_in (map query_of lines) marks

-- where names are written as they stand, that is the transcript
abbrev pub PlainSessionsAreTranscripts : Type 0
PlainSessionsAreTranscripts = (r : Result Built Fault) (cache : CacheSize) (lines : List (List ℕ)) (marks : List ℕ) → transcript_in Plain r cache lines marks ≡ transcript_of r cache lines marks
