-- The words of a command line, each as its bytes: `ask [--workers N] [--quote] FILE QUERY`, `index --as KIND [--rules gdb] [--workers N] FILE OUT`,
-- `look gdb [--quote] INDEX QUERY`, `look names [--base B] [--quote] INDEX STRINGS QUERY`, `aranges`, `files`, `cached`, `serve`, `race`, `drill`, `--help`, `--version`.
use Rattle.std.specs.Prelude.{ℕ, ◌&&◌, nat_lt, if◌then◌else◌, List, [], ◌∷◌, length, bytes_eq, codes, Option, Some, None, option_map, option_and_then}
use Rattle.std.specs.List.{join_with_byte}
use Rattle.command_words.specs.Numbers.{number_between}
use Rattle.command_words.specs.DrillWords.{Drilled, drill_of}
use Rattle.command_words.specs.IndexWords.{Indexed, index_of}
use Rattle.command_words.specs.SessionWords.{Raced, Served, race_of, serve_of}
use Rattle.command_words.specs.KeptWords.{Kept, kept_of}
use Rattle.command_words.specs.TableWords.{Compared, Sought, aranges_of, sought_of}
use Rattle.name_quotes.specs.declared.quote.Spelling.{Spelling}
use Rattle.command_words.specs.WordParts.{Quoting, is_file_name, quoting_and_others, workers_and_others}

-- `ask`: how many workers, how names are written, the file's name, and the words of the query
pub record Asked : Type 0 where
  pub workers : ℕ
  pub spelling : Spelling
  pub file : List ℕ
  pub query : List (List ℕ)

-- `look gdb`: how names are written, the index's name, and the words of the query
pub record Looked : Type 0 where
  pub spelling : Spelling
  pub index : List ℕ
  pub query : List (List ℕ)

-- `look names`: from where on the strings are given, how names are written, the names of the index and of the strings, and the words of the query
pub record NamesLooked : Type 0 where
  pub base : ℕ
  pub spelling : Spelling
  pub index : List ℕ
  pub strings : List ℕ
  pub query : List (List ℕ)

-- what a command line asks for
pub data Wanted : Type 0 where
  Help Version : Wanted
  Ask : Asked → Wanted
  Index Add : Indexed → Wanted
  LookGdb : Looked → Wanted
  LookNames : NamesLooked → Wanted
  Serve : Served → Wanted
  Race : Raced → Wanted
  Drill : Drilled → Wanted
  Aranges : Compared → Wanted
  Files : Sought → Wanted
  Cached : Kept → Wanted

-- the base of the strings, and the words behind it
pub record Based : Type 0 where
  pub base : ℕ
  pub others : List (List ℕ)

-- a file's name, and then a query of one word or more
abbrev pub file_and_query : ℕ → Spelling → List (List ℕ) → Option Asked
file_and_query n spelling [] = None
file_and_query n spelling (file ∷ query) = if is_file_name file && nat_lt 0 (length query) then Some (record { workers = n; spelling = spelling; file = file; query = query }) else None

abbrev pub asked_from : ℕ → Quoting → Option Asked
asked_from n q = file_and_query n q.spelling q.others

-- the words behind `ask`
abbrev pub ask_of : List (List ℕ) → Option Asked
ask_of words = option_and_then (λ w. asked_from w.workers (quoting_and_others w.others)) (workers_and_others words)

-- an index's name, and then a query of one word or more
abbrev pub index_and_query : Spelling → List (List ℕ) → Option Looked
index_and_query spelling [] = None
index_and_query spelling (index ∷ query) = if is_file_name index && nat_lt 0 (length query) then Some (record { spelling = spelling; index = index; query = query }) else None

abbrev pub looked_from : Quoting → Option Looked
looked_from q = index_and_query q.spelling q.others

-- the words behind `gdb`
abbrev pub look_gdb_of : List (List ℕ) → Option Looked
look_gdb_of words = looked_from (quoting_and_others words)

-- what stands behind `--base`: a number from 0 to 4,294,967,295
abbrev pub base_before : List (List ℕ) → Option Based
base_before [] = None
base_before (word ∷ others) = option_map (λ n. record { base = n; others = others }) (number_between 0 4294967295 word)

-- the base that is given, 0 where none is, and the words behind that
abbrev pub base_and_others : List (List ℕ) → Option Based
base_and_others [] = Some (record { base = 0; others = [] })
base_and_others (word ∷ others) = if bytes_eq word (codes "--base") then base_before others else Some (record { base = 0; others = word ∷ others })

-- the names of an index and of its strings, and then a query of one word or more
abbrev pub names_and_query : ℕ → Spelling → List (List ℕ) → Option NamesLooked
names_and_query base spelling [] = None
names_and_query base spelling (index ∷ []) = None
names_and_query base spelling (index ∷ strings ∷ query) = if is_file_name index && is_file_name strings && nat_lt 0 (length query) then Some (record { base = base; spelling = spelling; index = index; strings = strings; query = query }) else None

abbrev pub names_from : ℕ → Quoting → Option NamesLooked
names_from base q = names_and_query base q.spelling q.others

-- the words behind `names`
abbrev pub look_names_of : List (List ℕ) → Option NamesLooked
look_names_of words = option_and_then (λ b. names_from b.base (quoting_and_others b.others)) (base_and_others words)

-- the words behind `look`
abbrev pub look_of : List (List ℕ) → Option Wanted
look_of [] = None
look_of (word ∷ others) = if bytes_eq word (codes "gdb") then option_map LookGdb (look_gdb_of others) else if bytes_eq word (codes "names") then option_map LookNames (look_names_of others) else None

-- the one word that asks about the program itself
abbrev pub about : List ℕ → Option Wanted
about word = if bytes_eq word (codes "--help") then Some Help else if bytes_eq word (codes "--version") then Some Version else None

-- a command that reads a table of a program, or answers from a kept index
abbrev pub table_command : List ℕ → List (List ℕ) → Option Wanted
table_command word others = if bytes_eq word (codes "aranges") then option_map Aranges (aranges_of others) else if bytes_eq word (codes "files") then option_map Files (sought_of others) else if bytes_eq word (codes "cached") then option_map Cached (kept_of others) else None

-- a command that answers while it builds, or reads a table
abbrev pub session_command : List ℕ → List (List ℕ) → Option Wanted
session_command word others = if bytes_eq word (codes "serve") then option_map Serve (serve_of others) else if bytes_eq word (codes "race") then option_map Race (race_of others) else table_command word others

-- a command that isn't `ask` or `index` and has words behind it
abbrev pub longer_command : List ℕ → List (List ℕ) → Option Wanted
longer_command word others = if bytes_eq word (codes "look") then look_of others else if bytes_eq word (codes "add") then option_map Add (index_of others) else if bytes_eq word (codes "drill") then option_map Drill (drill_of others) else session_command word others

-- a command that isn't `ask` or `index`
abbrev pub other_command : List ℕ → List (List ℕ) → Option Wanted
other_command word others = if nat_lt 0 (length others) then longer_command word others else about word

-- what the words after the program's name ask for; none where they aren't in the grammar
abbrev pub command_of : List (List ℕ) → Option Wanted
command_of [] = None
command_of (word ∷ others) = if bytes_eq word (codes "ask") then option_map Ask (ask_of others) else if bytes_eq word (codes "index") then option_map Index (index_of others) else other_command word others

-- the words of a query, joined by one space each
abbrev pub query_text : List (List ℕ) → List ℕ
query_text words = join_with_byte 32 words
