-- The texts of answers and replies, and what `ask` writes.
use Rattle.std.specs.Prelude.{ℕ, Bool, false, if◌then◌else◌, List, [], ◌∷◌, ◌++◌, length, flat_map, decimal, codes, Option, Some, None, option_map, Result, Ok, Err}
use Rattle.std.specs.Fmt.{digits}
use Rattle.ix_base.specs.declared.fault.Fault.{Fault}
use Rattle.index_model.specs.declared.entry.Entry.{Entry}
use Rattle.index_model.specs.declared.entry.Kind.{Kind}
use Rattle.index_model.specs.declared.entry.Kind.TheVariants.{TypeName, Variable, Function, Other}
use Rattle.index_model.specs.declared.answer.CacheSize.{CacheSize}
use Rattle.index_model.specs.declared.answer.CacheSize.TheVariants.{Bytes, TooLarge}
use Rattle.index_model.specs.Faults.{Built, built_of}
use Rattle.index_model.specs.Queries.{Query, query_of}
use Rattle.index_model.specs.Answers.{Answer, Entries, InUnit, MainIs, CacheIs, entries_at, answer_to, Reply, Answered, Pending, Refused, Stopped}

-- a number in lower-case hexadecimal
abbrev pub hex : ℕ → List ℕ
hex n = digits 16 false n

-- the byte that ends a line
abbrev pub newline : List ℕ
newline = 10 ∷ []

-- words with a space between each two, and a newline
abbrev pub line : List (List ℕ) → List ℕ
line [] = newline
line (word ∷ []) = word ++ newline
line (word ∷ next ∷ words) = word ++ codes " " ++ line (next ∷ words)

-- the word of a kind
abbrev pub kind_word : Kind → List ℕ
kind_word TypeName = codes "type"
kind_word Variable = codes "variable"
kind_word Function = codes "function"
kind_word Other = codes "other"

-- static or global
abbrev pub scope_word : Bool → List ℕ
scope_word local = if local then codes "static" else codes "global"

-- by linkage name or by name
abbrev pub way_word : Bool → List ℕ
way_word linkage = if linkage then codes "linkage" else codes "name"

-- unit, offset, tag, kind, scope, way and name
unfoldable pub text_of_entry : Entry → List ℕ
text_of_entry e = line (decimal e.unit ∷ hex e.offset ∷ hex e.tag ∷ kind_word e.kind ∷ scope_word e.local ∷ way_word e.linkage ∷ e.name ∷ [])

-- how many entries were found, and each of them
unfoldable pub text_of_entries : List Entry → List ℕ
text_of_entries es = line (codes "found" ∷ decimal (length es) ∷ []) ++ flat_map text_of_entry es

-- the text of an answer
unfoldable pub text_of_answer : Answer → List ℕ
text_of_answer (Entries es ks) = text_of_entries (entries_at es ks)
text_of_answer (InUnit (Some u)) = line (codes "unit" ∷ decimal u ∷ [])
text_of_answer (InUnit None) = line (codes "none" ∷ [])
text_of_answer (MainIs (Some m)) = line (codes "main" ∷ hex m.language ∷ m.name ∷ [])
text_of_answer (MainIs None) = line (codes "none" ∷ [])
text_of_answer (CacheIs (Bytes n)) = line (codes "cache" ∷ decimal n ∷ [])
text_of_answer (CacheIs TooLarge) = line (codes "too" ∷ codes "large" ∷ [])

-- the text of a refusal: code and place
unfoldable pub text_of_fault : Fault → List ℕ
text_of_fault f = line (codes "refused" ∷ decimal f.code ∷ hex f.at ∷ [])

-- the text of a reply
unfoldable pub text_of_reply : Reply → List ℕ
text_of_reply (Answered a) = text_of_answer a
text_of_reply Pending = line (codes "pending" ∷ [])
text_of_reply (Refused f) = text_of_fault f
text_of_reply Stopped = line (codes "stopped" ∷ [])

-- the status of `ask` and what it writes, for a file that was built or refused
unfoldable pub asked : Result Built Fault → CacheSize → Query → ℕ × List ℕ
asked (Ok b) cache q = (0, text_of_answer (answer_to b cache q))
asked (Err f) cache q = (1, text_of_fault f)

-- the same, for the bytes of a file
unfoldable pub text_of_ask : List ℕ → CacheSize → Query → ℕ × List ℕ
text_of_ask f cache q = asked (built_of f) cache q

-- the same, for a query line; none where it is a bad query
unfoldable pub text_of_line : List ℕ → CacheSize → List ℕ → Option (ℕ × List ℕ)
text_of_line f cache line = option_map (text_of_ask f cache) (query_of line)
