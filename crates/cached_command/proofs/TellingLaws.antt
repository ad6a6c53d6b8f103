-- The answer of an index behind what was written before.
use Rattle.std.proofs.Common.{◌≡◌, ℕ, List, ◌++◌, Option, Some, Result, Ok, Err, refl}
use Rattle.std.specs.Prelude.{OnOk, OnErr}
use Rattle.index_model.specs.Answers.{InUnit, MainIs}
use Rattle.index_model.specs.GdbIndexRead.{GdbIndex, gdb_index_hits, main_name, number_at}
use Rattle.index_model.specs.LookTexts.{text_of_elements}
use Rattle.name_quotes.specs.declared.quote.Spelling.{Spelling}
use Rattle.name_quotes.specs.Quotes.{spelled}
use Rattle.query_text.specs.Questions.{Question}
use Rattle.query_text.specs.Spelled.{answer_in}
use Rattle.index_model.specs.Queries.{Query, AskName, AskSimple, AskAddress, AskMain, AskCache}
use Rattle.index_model.specs.Texts.{text_of_answer}
use Rattle.outside.specs.declared.shelf.Failed.{Failed}
use Rattle.outside.specs.Written.{Appends, AppendsPrefix}
use Rattle.outside.proofs.WrittenLaws.{appends_more_prefix}
use Rattle.query_text.proofs.SendingLaws.{prefix_of_front}
use Rattle.command_base.specs.GdbLooks.{gdb_text, gdb_text_in, offer_gdb}
use Rattle.command_base.specs.Replies.{Wrote, status_after}
use Rattle.command_base.specs.declared.status.Status.{Status}
use Rattle.command_base.specs.declared.status.Status.TheVariants.{Answered}
use Rattle.cached_command.specs.Tellings.{Tells}

module _ (index : GdbIndex) where
  -- a query that an index answers has a text
  has_text_in : (spelling : Spelling) (q : Query) → offer_gdb q ≡ Some q → (answer : List ℕ) × (gdb_text_in spelling index q ≡ Some answer)
  has_text_in spelling (AskName n) offered = (text_of_elements (spelled spelling n) (gdb_index_hits index n), refl)
  has_text_in spelling (AskSimple n) offered = absurd (cc offered)
  has_text_in spelling (AskAddress a) offered = (text_of_answer (answer_in spelling (InUnit (number_at index a))), refl)
  has_text_in spelling AskMain offered = (text_of_answer (answer_in spelling (MainIs (main_name index))), refl)
  has_text_in spelling AskCache offered = absurd (cc offered)

  pub has_text : (q : Question) → offer_gdb q.query ≡ Some q.query → (answer : List ℕ) × (gdb_text index q ≡ Some answer)
  has_text q offered = has_text_in q.spelling q.query offered

  module _ (q : Question) (a b c : Option (List ℕ)) (front : List ℕ) where
    -- a part of the front was written
    pub cut : offer_gdb q.query ≡ Some q.query → AppendsPrefix a b front → Tells index q (λ answer. AppendsPrefix a b (front ++ answer))
    cut offered p = let t = has_text q offered in (t.0, t.1, prefix_of_front a b front t.0 p)

    -- the front was written, and a part of what is behind it
    pub behind : (f : List ℕ → List ℕ) → Appends a b front → Tells index q (λ answer. AppendsPrefix b c (f answer)) → Tells index q (λ answer. AppendsPrefix a c (front ++ f answer))
    behind f p t = (t.0, t.1, appends_more_prefix a b c front (f t.0) p t.2)

  -- a part of the first front was written, behind which comes another
  pub cut_first : (q : Question) (a b : Option (List ℕ)) (first second : List ℕ) → offer_gdb q.query ≡ Some q.query → AppendsPrefix a b first → Tells index q (λ answer. AppendsPrefix a b (first ++ (second ++ answer)))
  cut_first q a b first second offered p = let t = has_text q offered in (t.0, t.1, prefix_of_front a b first (second ++ t.0) p)

  -- the text of a result
  module _ (q : Question) (Says : Status → List ℕ → Type 0) (f : List ℕ → List ℕ) (says : (answer : List ℕ) → gdb_text index q ≡ Some answer → Says Answered (f answer)) (old new : Option (List ℕ)) where
    pub told : (r : Result (Unit {0}) Failed) → OnOk r (Tells index q (λ answer. Appends old new (f answer))) → OnErr r (Tells index q (λ answer. AppendsPrefix old new (f answer))) → Wrote Says (status_after r Answered) old new
    told (Ok x) all part = (f all.0, says all.0 all.1, all.2)
    told (Err e) all part = (Answered, f part.0, says part.0 part.1, part.2)
