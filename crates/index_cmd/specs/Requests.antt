-- What the words of a command line ask for.
use Rattle.std.specs.Prelude.{◌⊎◌, ℕ, List, Option, Some, None, option_map, option_and_then, ⊤}
use Rattle.index_forms.specs.declared.form.IndexForm.{IndexForm}
use Rattle.index_model.specs.Queries.{Query, AskName, query_of}
use Rattle.name_quotes.specs.declared.quote.Spelling.{Spelling}
use Rattle.query_text.specs.Questions.{Question}
use Rattle.index_commands.specs.declared.names.NamesLook.{NamesLook}
use Rattle.index_cmd.specs.declared.task.Racing.{Racing}
use Rattle.index_cmd.specs.declared.task.Serving.{Serving}
use Rattle.ix_base.specs.declared.limits.TheConstants.{MAX_FILE_BYTES}
use Rattle.race_command.specs.declared.script.TheConstants.{MAX_SCRIPT_BYTES}
use Rattle.command_base.specs.GdbLooks.{offer_gdb}
use Rattle.command_words.specs.DrillWords.{Drilled}
use Rattle.command_words.specs.SessionWords.{Raced, Served}
use Rattle.command_words.specs.KeptWords.{Kept}
use Rattle.command_words.specs.TableWords.{Compared, Sought}
use Rattle.command_words.specs.IndexWords.{Indexed}
use Rattle.command_words.specs.Words.{Asked, Looked, NamesLooked, Wanted, Help, Version, Ask, Index, Add, LookGdb, LookNames, Serve, Race, Drill, Aranges, Files, Cached, command_of, query_text}

-- Each with how names are written, where some are: the program's own texts; the answer of a file, by its name, to a query; the index in a form of a file, to be stored under a
-- name, or the file with that index as a section, to be stored so; the answer of a `.gdb_index`, by its name, to a query; or the
-- entries of a name in a `.debug_names`, by the base of its strings, its own name and that of the strings. Or a session over a
-- file from a stage on; sessions of so many readers over a file and a script; or the sizes of the program that a seed makes of so
-- many units, and of its indexes. Or how the address table of a file compares with its units; or the source files with a name that
-- its line tables name. Or the answer of a file's `.gdb_index` that is kept in a store, or else built.
pub data Request : Type 0 where
  TheHelp TheVersion : Request
  OfFile : List ℕ → Question → Request
  OfIndex OfAdd : IndexForm → List ℕ → List ℕ → Request
  OfGdb : List ℕ → Question → Request
  OfNames : NamesLook → List ℕ → List ℕ → List ℕ → Request
  OfServe : Serving → List ℕ → Request
  OfRace : Racing → List ℕ → List ℕ → Request
  OfDrill : ℕ → ℕ → Request
  OfAranges : List ℕ → Request
  OfFiles : List ℕ → List ℕ → Request
  OfCached : List ℕ → List ℕ → Question → Request

-- a query, and how the names in its reply are written
abbrev pub question : Spelling → Query → Question
question spelling q = record { query = q; spelling = spelling }

-- a query of a file
abbrev pub asked : Asked → Option Request
asked a = option_map (λ q. OfFile a.file (question a.spelling q)) (query_of (query_text a.query))

-- the index of a file
abbrev pub indexed : Indexed → Option Request
indexed i = Some (OfIndex i.form i.file i.out)

-- a file with its index
abbrev pub with_index : Indexed → Option Request
with_index i = Some (OfAdd i.form i.file i.out)

-- the query of a line, if a `.gdb_index` answers it
abbrev pub offered_gdb : List ℕ → Option Query
offered_gdb line = option_and_then offer_gdb (query_of line)

-- a query of a `.gdb_index`, if it answers it
abbrev pub looked : Looked → Option Request
looked l = option_map (λ q. OfGdb l.index (question l.spelling q)) (offered_gdb (query_text l.query))

-- a `.debug_names` answers names alone
abbrev pub offer_name : Query → Option (List ℕ)
offer_name (AskName n) = Some n
offer_name other = None

-- the name that a line asks for
abbrev pub offered_name : List ℕ → Option (List ℕ)
offered_name line = option_and_then offer_name (query_of line)

-- a query of a `.debug_names`, if it answers it
abbrev pub looked_names : NamesLooked → Option Request
looked_names l = option_map (OfNames (record { base = l.base; spelling = l.spelling }) l.index l.strings) (offered_name (query_text l.query))

-- a session over a file
abbrev pub served : Served → Option Request
served s = Some (OfServe (record { wait = s.wait; spelling = s.spelling }) s.file)

-- sessions over a file and a script
abbrev pub raced : Raced → Option Request
raced r = Some (OfRace (record { readers = r.readers; spelling = r.spelling }) r.file r.script)

-- the sizes of a generated program
abbrev pub drilled : Drilled → Option Request
drilled d = Some (OfDrill d.seed d.units)

-- the address table of a file
abbrev pub compared : Compared → Option Request
compared c = Some (OfAranges c.file)

-- the source files of a file
abbrev pub sought : Sought → Option Request
sought s = Some (OfFiles s.file s.name)

-- a query of the index of a file that is kept in a store, if a `.gdb_index` answers it
abbrev pub kept : Kept → Option Request
kept k = option_map (λ q. OfCached k.file k.store (question k.spelling q)) (offered_gdb (query_text k.query))

-- a command whose query is answered
abbrev pub requested : Wanted → Option Request
requested Help = Some TheHelp
requested Version = Some TheVersion
requested (Ask a) = asked a
requested (Index i) = indexed i
requested (Add i) = with_index i
requested (LookGdb l) = looked l
requested (LookNames l) = looked_names l
requested (Serve s) = served s
requested (Race r) = raced r
requested (Drill d) = drilled d
requested (Aranges c) = compared c
requested (Files s) = sought s
requested (Cached k) = kept k

-- what the words ask for; none where they aren't in the grammar. The number of workers changes nothing.
abbrev pub request_of : List (List ℕ) → Option Request
request_of words = option_and_then requested (command_of words)

-- a file that is read, with the most bytes that it may have: the program, the index that is asked, its strings, or a script
abbrev pub AsksFile : Option Request → (List ℕ → ℕ → Type 0) → Type 0
AsksFile (Some (OfFile file q)) P = P file MAX_FILE_BYTES
AsksFile (Some (OfIndex form file out)) P = P file MAX_FILE_BYTES
AsksFile (Some (OfAdd form file out)) P = P file MAX_FILE_BYTES
AsksFile (Some (OfGdb index q)) P = P index MAX_FILE_BYTES
AsksFile (Some (OfNames look index strings name)) P = P index MAX_FILE_BYTES ⊎ P strings MAX_FILE_BYTES
AsksFile (Some (OfServe how file)) P = P file MAX_FILE_BYTES
AsksFile (Some (OfRace how file script)) P = P file MAX_FILE_BYTES ⊎ P script MAX_SCRIPT_BYTES
AsksFile (Some (OfAranges file)) P = P file MAX_FILE_BYTES
AsksFile (Some (OfFiles file name)) P = P file MAX_FILE_BYTES
AsksFile (Some (OfCached file store q)) P = P file MAX_FILE_BYTES
AsksFile (Some (OfDrill seed units)) P = ⊥
AsksFile (Some TheHelp) P = ⊥
AsksFile (Some TheVersion) P = ⊥
AsksFile None P = ⊥

-- the program file that is asked or indexed, gets its index, has a table that is asked, or an index that is kept
abbrev pub AsksProgram : Option Request → (List ℕ → Type 0) → Type 0
AsksProgram (Some (OfFile file q)) P = P file
AsksProgram (Some (OfIndex form file out)) P = P file
AsksProgram (Some (OfAdd form file out)) P = P file
AsksProgram (Some (OfAranges file)) P = P file
AsksProgram (Some (OfFiles file name)) P = P file
AsksProgram (Some (OfCached file store q)) P = P file
AsksProgram other P = ⊥

-- the index in a form of a file, to be stored under a name, alone or in the file
abbrev pub AsksIndex : Option Request → (IndexForm → List ℕ → List ℕ → Type 0) → Type 0
AsksIndex (Some (OfIndex form file out)) P = P form file out
AsksIndex (Some (OfAdd form file out)) P = P form file out
AsksIndex other P = ⊥

-- nothing is to be stored
abbrev pub StoresNothing : Option Request → Type 0
StoresNothing (Some (OfIndex form file out)) = ⊥
StoresNothing (Some (OfAdd form file out)) = ⊥
StoresNothing (Some (OfCached file store q)) = ⊥
StoresNothing other = ⊤

-- the input isn't read
abbrev pub ReadsNoInput : Option Request → Type 0
ReadsNoInput (Some (OfServe how file)) = ⊥
ReadsNoInput other = ⊤
