-- The words and commands of the code as those of the grammar.
use Rattle.std.specs.Prelude.{◌<◌, ◌≤◌, ℕ, List, map, String, ⊤}
use Rattle.std.specs.String.{string_bytes}
use Rattle.command_words.specs.declared.words.Command.{Command}
use Rattle.command_words.specs.declared.words.Command.TheVariants as code
use Rattle.command_words.specs.declared.words.Ask.{Ask}
use Rattle.command_words.specs.declared.index_words.Index.{Index}
use Rattle.command_words.specs.declared.index_words.Formed.{Formed}
use Rattle.command_words.specs.declared.words.LookGdb.{LookGdb}
use Rattle.command_words.specs.declared.words.LookNames.{LookNames}
use Rattle.command_words.specs.declared.session_words.Serve.{Serve}
use Rattle.command_words.specs.declared.session_words.Race.{Race}
use Rattle.command_words.specs.declared.drill_words.Drill.{Drill}
use Rattle.command_words.specs.declared.kept_words.Cached.{Cached}
use Rattle.command_words.specs.declared.table_words.Aranges.{Aranges}
use Rattle.command_words.specs.declared.table_words.Files.{Files}
use Rattle.command_words.specs.declared.options.Counted.{Counted}
use Rattle.command_words.specs.declared.options.Quoting.{Quoting}
use Rattle.command_words.specs.declared.options.Named.{Named}
use Rattle.command_words.specs.declared.options.NamedTwo.{NamedTwo}
use Rattle.command_words.specs.DrillWords.{Drilled}
use Rattle.command_words.specs.IndexWords.{Indexed, Formed as FormedOf}
use Rattle.command_words.specs.SessionWords.{Raced, Served, Counted as CountedOf}
use Rattle.command_words.specs.KeptWords.{Kept}
use Rattle.command_words.specs.TableWords.{Compared, Sought}
use Rattle.command_words.specs.Taken.{Named as NamedOf, NamedTwo as NamedTwoOf}
use Rattle.command_words.specs.WordParts.{Workers, Quoting as QuotingOf}
use Rattle.command_words.specs.Words as grammar

-- the bytes of each word
abbrev pub words_of : {Z : Type 0} → List (String Z) → List (List ℕ)
words_of words = map string_bytes words

abbrev pub seen_ask : Ask → grammar.Asked
seen_ask a = record { workers = a.workers; spelling = a.spelling; file = a.file.now; query = words_of a.query.now }

abbrev pub seen_index : Index → Indexed
seen_index i = record { form = i.form; workers = i.workers; file = i.file.now; out = i.out.now }

-- the form of an index
abbrev pub seen_formed : Formed → FormedOf
seen_formed f = record { form = f.form; others = words_of f.others.now }

abbrev pub seen_look : LookGdb → grammar.Looked
seen_look l = record { spelling = l.spelling; index = l.index.now; query = words_of l.query.now }

abbrev pub seen_names : LookNames → grammar.NamesLooked
seen_names l = record { base = l.base; spelling = l.spelling; index = l.index.now; strings = l.strings.now; query = words_of l.query.now }

abbrev pub seen_counted : Counted → CountedOf
seen_counted c = record { number = c.number; others = words_of c.others.now }

-- the number of workers
abbrev pub seen_workers : Counted → Workers
seen_workers c = record { workers = c.number; others = words_of c.others.now }

-- the base of the strings
abbrev pub seen_based : Counted → grammar.Based
seen_based c = record { base = c.number; others = words_of c.others.now }

-- how names are written
abbrev pub seen_quoting : Quoting → QuotingOf
seen_quoting q = record { spelling = q.spelling; others = words_of q.others.now }

abbrev pub seen_named : Named → NamedOf
seen_named n = record { file = n.file.now; others = words_of n.others.now }

abbrev pub seen_named_two : NamedTwo → NamedTwoOf
seen_named_two n = record { first = n.first.now; second = n.second.now; others = words_of n.others.now }

abbrev pub seen_serve : Serve → Served
seen_serve s = record { workers = s.workers; wait = s.wait; spelling = s.spelling; file = s.file.now }

abbrev pub seen_race : Race → Raced
seen_race r = record { workers = r.workers; readers = r.readers; spelling = r.spelling; file = r.file.now; script = r.script.now }

abbrev pub seen_drill : Drill → Drilled
seen_drill d = record { seed = d.seed; units = d.units; workers = d.workers }

abbrev pub seen_aranges : Aranges → Compared
seen_aranges a = record { workers = a.workers; file = a.file.now }

abbrev pub seen_files : Files → Sought
seen_files f = record { workers = f.workers; file = f.file.now; name = f.name.now }

abbrev pub seen_cached : Cached → Kept
seen_cached c = record { workers = c.workers; spelling = c.spelling; file = c.file.now; store = c.store.now; query = words_of c.query.now }

abbrev pub seen_command : Command → grammar.Wanted
seen_command code.Help = grammar.Help
seen_command code.Version = grammar.Version
seen_command (code.Ask a) = grammar.Ask (seen_ask a)
seen_command (code.Index i) = grammar.Index (seen_index i)
seen_command (code.Add i) = grammar.Add (seen_index i)
seen_command (code.LookGdb l) = grammar.LookGdb (seen_look l)
seen_command (code.LookNames l) = grammar.LookNames (seen_names l)
seen_command (code.Serve s) = grammar.Serve (seen_serve s)
seen_command (code.Race r) = grammar.Race (seen_race r)
seen_command (code.Drill d) = grammar.Drill (seen_drill d)
seen_command (code.Aranges a) = grammar.Aranges (seen_aranges a)
seen_command (code.Files f) = grammar.Files (seen_files f)
seen_command (code.Cached c) = grammar.Cached (seen_cached c)

-- 1 to 64 workers
pub record IsWorkers (workers : ℕ) : Type 0 where
  pub some : 0 < workers
  pub few : workers ≤ 64

-- what `serve` asks for
pub record IsServe (s : Serve) : Type 0 where
  pub workers : IsWorkers s.workers
  pub wait : s.wait ≤ 3

-- 1 to 16 readers
pub record IsReaders (readers : ℕ) : Type 0 where
  pub some : 0 < readers
  pub few : readers ≤ 16

-- what `race` asks for
pub record IsRace (r : Race) : Type 0 where
  pub workers : IsWorkers r.workers
  pub readers : IsReaders r.readers

-- what `drill` asks for: a program of 1 to 100,000 units
pub record IsDrill (d : Drill) : Type 0 where
  pub some : 0 < d.units
  pub few : d.units ≤ 100000
  pub workers : IsWorkers d.workers

-- a command that asks for workers asks for so many
abbrev pub HasWorkers : Command → Type 0
HasWorkers code.Help = ⊤
HasWorkers code.Version = ⊤
HasWorkers (code.Ask a) = IsWorkers a.workers
HasWorkers (code.Index i) = IsWorkers i.workers
HasWorkers (code.Add i) = IsWorkers i.workers
HasWorkers (code.LookGdb l) = ⊤
HasWorkers (code.LookNames l) = ⊤
HasWorkers (code.Serve s) = IsServe s
HasWorkers (code.Race r) = IsRace r
HasWorkers (code.Drill d) = IsDrill d
HasWorkers (code.Aranges a) = IsWorkers a.workers
HasWorkers (code.Files f) = IsWorkers f.workers
HasWorkers (code.Cached c) = IsWorkers c.workers
