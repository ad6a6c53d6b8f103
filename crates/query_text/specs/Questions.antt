-- A query, and how the names in its reply are written.
use Rattle.name_quotes.specs.declared.quote.Spelling.{Spelling}
use Rattle.index_model.specs.Queries.{Query}
use Rattle.index_model.specs.Seen.{query_seen}
use Rattle.query_text.specs.declared.query.Question.{Question as Asked}

pub record Question : Type 0 where
  pub query : Query
  pub spelling : Spelling

-- as contracts see it
abbrev pub question_seen : Asked → Question
question_seen q = record { query = query_seen q.query; spelling = q.spelling }
