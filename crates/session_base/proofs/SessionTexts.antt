-- What the answers of a reader say of the board's file.
use Rattle.std.proofs.Common.{◌≡◌, ℕ, ◌≤◌, List, [], ◌∷◌, ◌++◌, length, All, Option, refl, ap, subst, ◌∙◌, arith}
use Rattle.std.proofs.lemmas.List.Elements.{All-nil, All-cons}
use Rattle.outside.specs.Written.{Appends, AppendsPrefix}
use Rattle.index_model.specs.declared.job.CacheKind.{CacheKind}
use Rattle.index_model.specs.declared.job.CacheKind.TheVariants.{Gdb8}
use Rattle.index_model.specs.Cache.{size_in}
use Rattle.index_model.specs.Faults.{built_of}
use Rattle.index_model.specs.Outputs.{Subject}
use Rattle.index_model.specs.Stages.{initial, stopped, IsReachable}
use Rattle.query_text.specs.Spelled.{transcript_in}
use Rattle.index_model.proofs.StageLaws.{closure, order}
use Rattle.index_board.specs.Marks.{AreMarks, floor_after}
use Rattle.index_board.specs.Readers.{Reader}
use Rattle.query_text.specs.Gains.{Gains}
use Rattle.query_text.specs.Sessions.{Answers, AnswersInPart, AnswersBefore, look_ups, transcript}
use Rattle.session_base.specs.Floors.{HasMost, any, until, IsOver}
use Rattle.session_base.specs.Sessions.{AreDigits, IsTranscript}
use Rattle.name_quotes.specs.declared.quote.Spelling.{Spelling}

-- ---- stages

-- what is reached isn't below
pub not_below : (s t : ℕ) → IsReachable s t → s ≤ t
not_below s t reach = let leads = order s t in let l = leads.0 reach in l.0

-- ---- marks

-- the marks behind a floor are digits from any stage on that reaches the floor
pub digits_of : (s : Subject) (start floor : ℕ) (marks : List ℕ) → IsReachable start floor → AreMarks s floor marks → AreDigits s.file start marks
digits_of s start floor [] reach each = tt
digits_of s start floor (m ∷ ms) reach each = (
  closure.onwards start floor m reach each.0,
  record { accepted = each.2.accepted; refused_ = each.2.refused },
  digits_of s m m ms (closure.itself m) each.3,
)

-- the marks in front of some
pub marks_in_front : (s : Subject) (floor : ℕ) (ms ns : List ℕ) → AreMarks s floor (ms ++ ns) → AreMarks s floor ms
marks_in_front s floor [] ns each = tt
marks_in_front s floor (m ∷ ms) ns each = (each.0, each.1, each.2, marks_in_front s m ms ns each.3)

-- the floor behind some marks isn't below the one before them
pub floor_rises : (s : Subject) (floor : ℕ) (marks : List ℕ) → AreMarks s floor marks → floor ≤ floor_after floor marks
floor_rises s floor [] each = omega arith
floor_rises s floor (m ∷ ms) each = omega (arith, not_below floor m each.0, floor_rises s m ms each.3)

-- no mark is above the most
mark_within : (s : Subject) (most mark : ℕ) (marks : List ℕ) → mark ≤ stopped → AreMarks s mark marks → HasMost most (floor_after mark marks) → mark ≤ most
mark_within s most mark marks top each (any is) = omega (arith, is, top)
mark_within s most mark marks top each (until stage reach le) = omega (arith, floor_rises s mark marks each, not_below (floor_after mark marks) stage reach, le)

-- the marks behind a floor lie between it and the most
pub in_range : (s : Subject) (least most floor : ℕ) (marks : List ℕ) → least ≤ floor → AreMarks s floor marks → HasMost most (floor_after floor marks) → All (λ digit. (least ≤ digit) × (digit ≤ most)) marks
in_range s least most floor [] low each has = All-nil (λ digit. (least ≤ digit) × (digit ≤ most))
in_range s least most floor (m ∷ ms) low each has =
    let next : least ≤ m = omega (arith, low, not_below floor m each.0) in
    All-cons (λ digit. (least ≤ digit) × (digit ≤ most)) m ms (next, mark_within s most m ms each.1 each.3 has) (in_range s least most m ms next each.3 has)

module _ (spelling : Spelling) where
  -- ---- texts

  pub transcript_is : (file : List ℕ) (s : Subject) → IsOver file s → (lines : List (List ℕ)) (marks : List ℕ) → transcript spelling s lines marks ≡ transcript_in spelling (built_of file) (size_in Gdb8 (built_of file)) lines marks
  transcript_is file s over lines marks =
      ap (λ (f : List ℕ). transcript_in spelling (built_of f) (size_in s.cache (built_of f)) lines marks) over.file_is
      ∙ ap (λ (kind : CacheKind). transcript_in spelling (built_of file) (size_in kind (built_of file)) lines marks) over.cache_is

  -- a text of lines is there, and so it was appended
  abbrev pub Said : List ℕ → ℕ → ℕ → List (List ℕ) → (List ℕ → Type 0) → Type 0
  Said file least most lines Appended = (text : List ℕ) × IsTranscript spelling file least most lines text × Appended text

  module _ (file : List ℕ) (s : Subject) (over : IsOver file s) (start least : ℕ) (reached : IsReachable initial start) (low : least ≤ start) where
    -- the text of lines, each look-up at the next of the marks behind a floor
    pub says : (most : ℕ) (marks : List ℕ) → AreMarks s start marks → HasMost most (floor_after start marks) → (lines : List (List ℕ)) → length marks ≡ look_ups lines → IsTranscript spelling file least most lines (transcript spelling s lines marks)
    says most marks each has lines count = record {
      digits = marks;
      count = count;
      each = subst (λ (f : List ℕ). AreDigits f initial marks) over.file_is (digits_of s initial start marks reached each);
      range = in_range s least most start marks low each has;
      text_is = transcript_is file s over lines marks;
    }

  -- what a reader of a board over the file answered, from a floor that isn't below the least digit
  module _ (file : List ℕ) (old new : Reader) (over : IsOver file old.board.subject) (least : ℕ) (reached : IsReachable initial old.pass.floor) (low : least ≤ old.pass.floor) (a b : Option (List ℕ)) where
    most_of : (most : ℕ) (marks : List ℕ) → Gains old new marks → HasMost most new.pass.floor → HasMost most (floor_after old.pass.floor marks)
    most_of most marks gained has = subst (λ (floor : ℕ). HasMost most floor) gained.floor has

    pub said_whole : (most : ℕ) → HasMost most new.pass.floor → (lines : List (List ℕ)) → Answers spelling old new a b lines → Said file least most lines (Appends a b)
    said_whole most has lines p = (
      transcript spelling old.board.subject lines p.marks,
      says file old.board.subject over old.pass.floor least reached low most p.marks p.gained.each (most_of most p.marks p.gained has) lines p.count,
      p.text,
    )

    pub said_in_part : (most : ℕ) → HasMost most new.pass.floor → (lines : List (List ℕ)) → AnswersInPart spelling old new a b lines → Said file least most lines (AppendsPrefix a b)
    said_in_part most has lines p = (
      transcript spelling old.board.subject lines p.marks,
      says file old.board.subject over old.pass.floor least reached low most p.marks p.gained.each (most_of most p.marks p.gained has) lines p.count,
      p.text,
    )

    -- of the lines before the one that was refused memory
    pub said_before : (lines : List (List ℕ)) (line : List ℕ) → AnswersBefore spelling old new a b lines line → Said file least stopped lines (Appends a b)
    said_before lines line p = (
      transcript spelling old.board.subject lines p.marks,
      says file old.board.subject over old.pass.floor least reached low stopped p.marks (marks_in_front old.board.subject old.pass.floor p.marks (p.mark ∷ []) p.gained.each) (any refl) lines p.count,
      p.text,
    )
