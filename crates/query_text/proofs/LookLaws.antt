-- What a look-up writes, and the mark that it makes.
use Rattle.std.proofs.Common.{◌≡◌, ℕ, ◌++◌, List, [], ◌∷◌, Option, Result, Ok, subst, sym, ap, ◌∙◌}
use Rattle.ix_base.specs.declared.fault.NoMemory.{NoMemory}
use Rattle.outside.specs.Written.{AppendsPrefix}
use Rattle.outside.proofs.WrittenLaws.{appends_more_prefix}
use Rattle.index_model.specs.declared.answer.Look.{Look}
use Rattle.index_model.specs.Answers.{Reply}
use Rattle.index_model.specs.Queries.{Query}
use Rattle.index_model.specs.Seen.{reply_seen}
use Rattle.index_board.specs.LookUps.{IsAsked}
use Rattle.index_board.specs.Marks.{file_reply}
use Rattle.index_board.specs.Readers.{Reader}
use Rattle.name_quotes.specs.declared.quote.Spelling.{Spelling}
use Rattle.query_text.specs.Gains.{Gains}
use Rattle.query_text.specs.LookLines.{look_line}
use Rattle.query_text.specs.Places.{PlacesFit}
use Rattle.query_text.specs.Sending.{Sends}
use Rattle.query_text.specs.Sessions.{look_text}
use Rattle.query_text.proofs.GainLaws.{gains_one}
use Rattle.query_text.proofs.PlaceLaws.{reply_fits}

-- a prefix of what still waits, behind what went out of it
pub sends_rest : (a b : Option (List ℕ)) (waited waits text : List ℕ) → Sends a waited b waits text → (c : Option (List ℕ)) → AppendsPrefix b c waits → AppendsPrefix a c (waited ++ text)
sends_rest a b waited waits text p c q = subst (λ (l : List ℕ). AppendsPrefix a c l) p.whole (appends_more_prefix a b c p.sent waits p.appended q)

module _ (old new : Reader) (q : Query) (r : Result Look NoMemory) (look : Look) (is : r ≡ Ok look) (asked : IsAsked old q r new) where
  here : IsAsked old q (Ok look) new
  here = subst (λ (r : Result Look NoMemory). IsAsked old q r new) is asked

  -- the places of the reply are those of its entries
  pub look_fits : PlacesFit (reply_seen look.reply)
  look_fits = subst (λ (reply : Reply). PlacesFit reply) (sym here.2.1) (reply_fits old.board.subject q here.0)

  -- the look's stage is the mark that the reader gained
  pub look_gains : Gains old new (look.stage ∷ [])
  look_gains = subst (λ (n : ℕ). Gains old new (n ∷ [])) (sym here.2.0) (gains_one old q here.0 new here.1)

  -- what is written of the look is the file's reply at that mark
  pub look_said : (spelling : Spelling) → look_line spelling look.stage (reply_seen look.reply) ≡ look_text spelling old.board.subject q look.stage
  look_said spelling = ap (λ (reply : Reply). look_line spelling look.stage reply) (here.2.1 ∙ ap (λ (n : ℕ). file_reply old.board.subject q n) (sym here.2.0))
