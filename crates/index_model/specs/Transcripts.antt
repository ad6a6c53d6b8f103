-- The lines of a session, and what it writes.
use Rattle.std.specs.Prelude.{ℕ, ◌+◌, ◌==◌, if◌then◌else◌, List, [], ◌∷◌, ◌++◌, map, codes, Option, Some, None, Result}
use Rattle.ix_base.specs.declared.fault.Fault.{Fault}
use Rattle.index_model.specs.declared.answer.CacheSize.{CacheSize}
use Rattle.index_model.specs.Faults.{Built}
use Rattle.index_model.specs.Queries.{Query, query_of}
use Rattle.index_model.specs.Answers.{reply_at}
use Rattle.index_model.specs.Texts.{newline, text_of_reply}

-- ---- lines

-- a byte before the first of some lines, or as a line of its own
abbrev pub onto_first : ℕ → List (List ℕ) → List (List ℕ)
onto_first c [] = (c ∷ []) ∷ []
onto_first c (line ∷ lines) = (c ∷ line) ∷ lines

-- a newline ends each line; the last may lack it if it isn't empty
unfoldable pub lines_of : List ℕ → List (List ℕ)
lines_of [] = []
lines_of (c ∷ cs) = if c == 10 then [] ∷ lines_of cs else onto_first c (lines_of cs)

-- ---- transcripts

-- the digit of a mark
abbrev pub digit_of : ℕ → List ℕ
digit_of mark = (48 + mark) ∷ []

-- what a look-up at a mark writes: the digit, a space, and the text of the reply
unfoldable pub text_of_look : Result Built Fault → CacheSize → Query → ℕ → List ℕ
text_of_look r cache q mark = digit_of mark ++ codes " " ++ text_of_reply (reply_at r cache q mark)

-- what a line that is no query writes
abbrev pub bad_query : List ℕ
bad_query = codes "- bad query" ++ newline

-- line by line what these queries write, each look-up at the next of the marks
unfoldable pub texts_at : Result Built Fault → CacheSize → List (Option Query) → List ℕ → List ℕ
texts_at r cache [] marks = []
texts_at r cache (None ∷ lines) marks = bad_query ++ texts_at r cache lines marks
texts_at r cache (Some q ∷ lines) [] = []
texts_at r cache (Some q ∷ lines) (mark ∷ marks) = text_of_look r cache q mark ++ texts_at r cache lines marks

-- what a session writes on these lines, for a file that was built or refused; there are as many marks as lines that are queries
unfoldable pub transcript_of : Result Built Fault → CacheSize → List (List ℕ) → List ℕ → List ℕ
transcript_of r cache lines marks = texts_at r cache (map query_of lines) marks
