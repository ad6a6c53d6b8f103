-- Answers to lines, and to more lines behind them.
use Rattle.std.proofs.Common.{◌≡◌, ℕ, ◌≤◌, ◌++◌, List, [], ◌∷◌, length, Option, Some, None, IsSome, Result, Ok, Err, refl, sym, ap, ◌∙◌, subst, append_assoc, arith}
use Rattle.std.specs.Prelude.{OnErr, IfErr}
use Rattle.std.proofs.lemmas.List.{length-append}
use Rattle.outside.specs.Counts.{Rose}
use Rattle.outside.specs.Written.{Appends, AppendsPrefix}
use Rattle.outside.proofs.CountLaws.{then-rose}
use Rattle.outside.proofs.WrittenLaws.{appends_none, appends_more, appends_more_prefix}
use Rattle.index_model.specs.Outputs.{Subject}
use Rattle.index_model.specs.Queries.{Query, query_of}
use Rattle.index_model.specs.Transcripts.{bad_query}
use Rattle.index_board.specs.Readers.{Reader}
use Rattle.name_quotes.specs.declared.quote.Spelling.{Spelling}
use Rattle.query_text.specs.declared.fault.SessionFault.{SessionFault}
use Rattle.query_text.specs.declared.fault.SessionFault.TheVariants.{ReadFault, WriteFault, LineTooLong, InputTooLong, NoMemory}
use Rattle.query_text.specs.Gains.{Gains}
use Rattle.query_text.specs.LookLines.{LookStops}
use Rattle.query_text.specs.Sessions.{Answers, AnswersInPart, AnswersBefore, Stops, look_text, look_ups, transcript}
use Rattle.query_text.proofs.GainLaws.{gains_none, gains_more}
use Rattle.query_text.proofs.TranscriptLaws.{look_ups_more, transcript_more, transcript_none, transcript_bad, transcript_look, count_bad, count_look}

-- what holds at an end with this error
pub if_err : {T E : Type 0} (r : Result T E) (P : E → Type 0) (e : E) → r ≡ Err e → P e → IfErr r P
if_err {T} {E} r P e is h = subst (λ (r : Result T E). IfErr r P) (sym is) h

module _ (spelling : Spelling) where
  -- ---- one line

  -- no line
  pub answers_none : (r : Reader) (told : Option (List ℕ)) → Answers spelling r r told told []
  answers_none r told = record {
    marks = [];
    gained = gains_none r;
    count = refl;
    text = subst (λ (t : List ℕ). Appends told told t) (transcript_none spelling r.board.subject) (appends_none told);
  }

  module _ (r : Reader) (a b : Option (List ℕ)) (line : List ℕ) (bad : query_of line ≡ None) where
    -- a line that is no query
    pub answers_bad : Appends a b bad_query → Answers spelling r r a b (line ∷ [])
    answers_bad p = record {
      marks = [];
      gained = gains_none r;
      count = count_bad line bad;
      text = subst (λ (t : List ℕ). Appends a b t) (transcript_bad spelling r.board.subject line bad) p;
    }

    pub stops_bad : (m n : ℕ) (e : SessionFault) → e ≡ WriteFault → Rose m n → AppendsPrefix a b bad_query → Stops spelling r r a b m n (line ∷ []) e
    stops_bad m n e is rose p = subst (λ (e : SessionFault). Stops spelling r r a b m n (line ∷ []) e) (sym is) (
      rose,
      record {
        lines = line ∷ [];
        rest = [];
        front = refl;
        answers = record {
          marks = [];
          gained = gains_none r;
          count = count_bad line bad;
          text = subst (λ (t : List ℕ). AppendsPrefix a b t) (transcript_bad spelling r.board.subject line bad) p;
        };
      },
    )

    pub ends_bad : {T : Type 0} (m n : ℕ) (res : Result T SessionFault) → IfErr res (λ e. e ≡ WriteFault) → OnErr res (Rose m n) → OnErr res (AppendsPrefix a b bad_query) → IfErr res (λ e. Stops spelling r r a b m n (line ∷ []) e)
    ends_bad m n (Ok x) is rose p = tt
    ends_bad m n (Err e) is rose p = stops_bad m n e is rose p

  module _ (old new : Reader) (a b : Option (List ℕ)) (line : List ℕ) (q : Query) (asks : query_of line ≡ Some q) where
    -- a look-up
    pub answers_look : (mark : ℕ) → Gains old new (mark ∷ []) → Appends a b (look_text spelling old.board.subject q mark) → Answers spelling old new a b (line ∷ [])
    answers_look mark g p = record {
      marks = mark ∷ [];
      gained = g;
      count = count_look line q asks;
      text = subst (λ (t : List ℕ). Appends a b t) (transcript_look spelling old.board.subject line q mark asks) p;
    }

    pub stops_look : (m n : ℕ) (e : SessionFault) → LookStops spelling old new a b m n q e → Stops spelling old new a b m n (line ∷ []) e
    stops_look m n WriteFault h = (
      h.0,
      record {
        lines = line ∷ [];
        rest = [];
        front = refl;
        answers = record {
          marks = h.1.mark ∷ [];
          gained = h.1.gained;
          count = count_look line q asks;
          text = subst (λ (t : List ℕ). AppendsPrefix a b t) (transcript_look spelling old.board.subject line q h.1.mark asks) h.1.text;
        };
      },
    )
    stops_look m n NoMemory h = record {
      lines = [];
      line = line;
      rest = [];
      front = refl;
      answers = record {
        query = subst (λ (x : Option Query). IsSome x) (sym asks) refl;
        marks = [];
        mark = h.mark;
        gained = h.gained;
        count = refl;
        text = subst (λ (t : List ℕ). Appends a b t) (transcript_none spelling old.board.subject) h.text;
      };
    }
    stops_look m n ReadFault h = absurd h
    stops_look m n LineTooLong h = absurd h
    stops_look m n InputTooLong h = absurd h

  -- ---- more lines

  module _ (x y z : Reader) (a b c : Option (List ℕ)) (lines : List (List ℕ)) (p : Answers spelling x y a b lines) where
    same : y.board.subject ≡ x.board.subject
    same = ap (λ l. l.subject) p.gained.board

    counted : (more : List (List ℕ)) (ns : List ℕ) → length ns ≡ look_ups more → length (p.marks ++ ns) ≡ look_ups (lines ++ more)
    counted more ns e = let k = look_ups_more lines more in let n = length-append p.marks ns in omega (arith, k, n, e, p.count)

    joined : (more : List (List ℕ)) (ns : List ℕ) → transcript spelling x.board.subject lines p.marks ++ transcript spelling y.board.subject more ns ≡ transcript spelling x.board.subject (lines ++ more) (p.marks ++ ns)
    joined more ns =
        ap (λ (s : Subject). transcript spelling x.board.subject lines p.marks ++ transcript spelling s more ns) same
        ∙ sym (transcript_more spelling x.board.subject lines more p.marks ns p.count)

    pub answers_more : (more : List (List ℕ)) → Answers spelling y z b c more → Answers spelling x z a c (lines ++ more)
    answers_more more q = record {
      marks = p.marks ++ q.marks;
      gained = gains_more x y z p.marks q.marks p.gained q.gained;
      count = counted more q.marks q.count;
      text = subst (λ (t : List ℕ). Appends a c t) (joined more q.marks) (appends_more a b c _ _ p.text q.text);
    }

    more_in_part : (more : List (List ℕ)) → AnswersInPart spelling y z b c more → AnswersInPart spelling x z a c (lines ++ more)
    more_in_part more q = record {
      marks = p.marks ++ q.marks;
      gained = gains_more x y z p.marks q.marks p.gained q.gained;
      count = counted more q.marks q.count;
      text = subst (λ (t : List ℕ). AppendsPrefix a c t) (joined more q.marks) (appends_more_prefix a b c _ _ p.text q.text);
    }

    more_before : (more : List (List ℕ)) (line : List ℕ) → AnswersBefore spelling y z b c more line → AnswersBefore spelling x z a c (lines ++ more) line
    more_before more line q = record {
      query = q.query;
      marks = p.marks ++ q.marks;
      mark = q.mark;
      gained = subst (λ (ms : List ℕ). Gains x z ms) (sym (append_assoc p.marks q.marks (q.mark ∷ []))) (gains_more x y z p.marks (q.marks ++ q.mark ∷ []) p.gained q.gained);
      count = counted more q.marks q.count;
      text = subst (λ (t : List ℕ). Appends a c t) (joined more q.marks) (appends_more a b c _ _ p.text q.text);
    }

    -- lines were answered before the answers stopped
    pub stops_more : (k m n : ℕ) (known all : List (List ℕ)) (e : SessionFault) → k ≤ m → all ≡ lines ++ known → Stops spelling y z b c m n known e → Stops spelling x z a c k n all e
    stops_more k m n known all WriteFault le is h = (
      then-rose k m n le h.0,
      record {
        lines = lines ++ h.1.lines;
        rest = h.1.rest;
        front = append_assoc lines h.1.lines h.1.rest ∙ ap (λ (ls : List (List ℕ)). lines ++ ls) h.1.front ∙ sym is;
        answers = more_in_part h.1.lines h.1.answers;
      },
    )
    stops_more k m n known all NoMemory le is h = record {
      lines = lines ++ h.lines;
      line = h.line;
      rest = h.rest;
      front = append_assoc lines h.lines (h.line ∷ h.rest) ∙ ap (λ (ls : List (List ℕ)). lines ++ ls) h.front ∙ sym is;
      answers = more_before h.lines h.line h.answers;
    }
    stops_more k m n known all ReadFault le is h = absurd h
    stops_more k m n known all LineTooLong le is h = absurd h
    stops_more k m n known all InputTooLong le is h = absurd h

  -- the known lines are a front of more lines
  pub stops_front : (x y : Reader) (a b : Option (List ℕ)) (m n : ℕ) (known more all : List (List ℕ)) (e : SessionFault) → all ≡ known ++ more → Stops spelling x y a b m n known e → Stops spelling x y a b m n all e
  stops_front x y a b m n known more all WriteFault is h = (
    h.0,
    record {
      lines = h.1.lines;
      rest = h.1.rest ++ more;
      front = sym (append_assoc h.1.lines h.1.rest more) ∙ ap (λ (ls : List (List ℕ)). ls ++ more) h.1.front ∙ sym is;
      answers = h.1.answers;
    },
  )
  stops_front x y a b m n known more all NoMemory is h = record {
    lines = h.lines;
    line = h.line;
    rest = h.rest ++ more;
    front = sym (append_assoc h.lines (h.line ∷ h.rest) more) ∙ ap (λ (ls : List (List ℕ)). ls ++ more) h.front ∙ sym is;
    answers = h.answers;
  }
  stops_front x y a b m n known more all ReadFault is h = absurd h
  stops_front x y a b m n known more all LineTooLong is h = absurd h
  stops_front x y a b m n known more all InputTooLong is h = absurd h
