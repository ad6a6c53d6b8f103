-- What a command asks for, once its query is read, as it stands in the code.
use Rattle.std.specs.Prelude.{◌≡◌, ◌<◌, ◌≤◌, ℕ, List, [], Some, ⊤}
use Rattle.query_text.specs.Questions.{question_seen}
use Rattle.command_words.specs.SeenWords.{IsReaders}
use Rattle.command_words.specs.Words.{Wanted, Ask, Cached, LookGdb, LookNames}
use Rattle.command_base.specs.GdbLooks.{offer_gdb}
use Rattle.index_cmd.specs.Requests.{Request, TheHelp, TheVersion, OfFile, OfIndex, OfAdd, OfGdb, OfNames, OfServe, OfRace, OfDrill, OfAranges, OfFiles, OfCached}
use Rattle.index_cmd.specs.declared.task.Action.{Action}
use Rattle.index_cmd.specs.declared.task.Action.TheVariants as actions
use Rattle.index_cmd.specs.declared.task.Requested.{Requested}
use Rattle.index_cmd.specs.declared.task.Requested.TheVariants as tasks

-- the words of the query of a command; none where it has no query
abbrev pub query_words : Wanted → List (List ℕ)
query_words (Ask a) = a.query
query_words (LookGdb l) = l.query
query_words (LookNames l) = l.query
query_words (Cached k) = k.query
query_words other = []

-- what is asked of the bytes of the file with this name
abbrev pub request_on : List ℕ → Action → Request
request_on file (actions.Ask q) = OfFile file (question_seen q)
request_on file (actions.Index form out) = OfIndex form file out.now
request_on file (actions.Add form out) = OfAdd form file out.now
request_on file (actions.LookGdb q) = OfGdb file (question_seen q)
request_on file (actions.LookNames look strings name) = OfNames look file strings.now name.now
request_on file (actions.Serve how) = OfServe how file
request_on file (actions.Race how script) = OfRace how file script.now
request_on file actions.Aranges = OfAranges file
request_on file (actions.Files name) = OfFiles file name.now
request_on file (actions.Cached store q) = OfCached file store.now (question_seen q)

-- what is asked
abbrev pub request_seen : Requested → Request
request_seen tasks.Help = TheHelp
request_seen tasks.Version = TheVersion
request_seen (tasks.OnFile f) = request_on f.file.now f.action
request_seen (tasks.Drill seed units) = OfDrill seed units

-- the numbers are in the bounds of the grammar, and the query is one that the index answers
abbrev pub IsActionInBounds : Action → Type 0
IsActionInBounds (actions.LookGdb q) = offer_gdb (question_seen q).query ≡ Some (question_seen q).query
IsActionInBounds (actions.Cached store q) = offer_gdb (question_seen q).query ≡ Some (question_seen q).query
IsActionInBounds (actions.Serve how) = how.wait ≤ 3
IsActionInBounds (actions.Race how script) = IsReaders how.readers
IsActionInBounds other = ⊤

abbrev pub IsInBounds : Requested → Type 0
IsInBounds (tasks.OnFile f) = IsActionInBounds f.action
IsInBounds (tasks.Drill seed units) = (0 < units) × (units ≤ 100000)
IsInBounds other = ⊤
