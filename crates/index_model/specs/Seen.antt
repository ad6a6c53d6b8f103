-- What contracts see of questions, answers and replies that borrow their bytes.
use Rattle.std.specs.Prelude.{option_map}
use Rattle.index_model.specs.declared.query.Query.{Query as Asked}
use Rattle.index_model.specs.declared.query.Query.TheVariants as asked
use Rattle.index_model.specs.declared.answer.Main.{Main}
use Rattle.index_model.specs.declared.answer.MainName.{MainName}
use Rattle.index_model.specs.declared.answer.Answer.{Answer as Given}
use Rattle.index_model.specs.declared.answer.Answer.TheVariants as given
use Rattle.index_model.specs.declared.answer.Reply.{Reply as Replied}
use Rattle.index_model.specs.declared.answer.Reply.TheVariants as replied
use Rattle.index_model.specs.Queries.{Query, AskName, AskSimple, AskAddress, AskMain, AskCache}
use Rattle.index_model.specs.Answers.{Answer, Entries, InUnit, MainIs, CacheIs, Reply, Answered, Pending, Refused, Stopped}

-- the question
abbrev pub query_seen : Asked → Query
query_seen (asked.Name name) = AskName name.now
query_seen (asked.Simple name) = AskSimple name.now
query_seen (asked.Addr a) = AskAddress a
query_seen asked.Main = AskMain
query_seen asked.Cache = AskCache

-- the main program
abbrev pub main_seen : MainName → Main
main_seen m = record { language = m.language; name = m.name.now }

-- the answer
abbrev pub answer_seen : Given → Answer
answer_seen (given.Entries hits) = Entries hits.entries.now hits.places.now
answer_seen (given.Unit u) = InUnit u
answer_seen (given.Main m) = MainIs (option_map main_seen m)
answer_seen (given.Cache size) = CacheIs size

-- the reply
abbrev pub reply_seen : Replied → Reply
reply_seen (replied.Answer a) = Answered (answer_seen a)
reply_seen replied.Pending = Pending
reply_seen (replied.Refused f) = Refused f
reply_seen replied.Stopped = Stopped
