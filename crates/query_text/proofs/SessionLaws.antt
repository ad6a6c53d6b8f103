-- How far a session is in its input.
use Rattle.std.proofs.Common.{◌≡◌, ℕ, ◌+◌, ◌^◌, ◌<◌, ◌≤◌, ◌++◌, List, [], ◌∷◌, length, take, drop, true, false, Option, Some, None, refl, sym, ap, ◌∙◌, subst, append_assoc, append-nil, arith}
use Rattle.std.specs.Prelude.{◌≢◌, All}
use Rattle.std.proofs.lemmas.List.{length-append}
use Rattle.std.proofs.lemmas.List.Elements.{All-nil, All-append}
use Rattle.outside.specs.Taken.{Takes, IsAtEnd}
use Rattle.index_model.specs.Texts.{newline}
use Rattle.index_model.specs.Transcripts.{lines_of}
use Rattle.index_board.specs.Readers.{Reader}
use Rattle.name_quotes.specs.declared.quote.Spelling.{Spelling}
use Rattle.query_text.specs.declared.fault.SessionFault.{SessionFault}
use Rattle.query_text.specs.declared.fault.SessionFault.TheVariants.{ReadFault, WriteFault, LineTooLong, InputTooLong, NoMemory}
use Rattle.query_text.specs.Buffers.{longest_line}
use Rattle.query_text.specs.Sessions.{Answers, AnswersWhole, HasLongLine, IsShort, SessionStops, Stops, StopsAt, TakesUntil}
use Rattle.query_text.specs.WholeLines.{HasNoNewline, Spells, whole_lines_of}
use Rattle.query_text.proofs.AnswerLaws.{answers_more, answers_none, stops_front, stops_more}
use Rattle.query_text.proofs.NewlineLaws.{last_line, last_none, lines_behind, spells_line, spells_more, spells_none, whole_behind, whole_line, whole_none}
use Rattle.query_text.proofs.ShortLines.{last_short, lines_short, whole_short}

-- ---- what is taken

pub takes_none : (a : Option (List ℕ)) → Takes a a []
takes_none None = tt
takes_none (Some xs) = refl

pub takes_more : (a b c : Option (List ℕ)) (xs ys : List ℕ) → Takes a b xs → Takes b c ys → Takes a c (xs ++ ys)
takes_more None None None xs ys p q = tt
takes_more (Some a) (Some b) (Some c) xs ys p q = p ∙ ap (λ (l : List ℕ). xs ++ l) q ∙ sym (append_assoc xs ys c)
takes_more None None (Some c) xs ys p q = q
takes_more None (Some b) c xs ys p q = absurd p
takes_more (Some a) None c xs ys p q = absurd p
takes_more (Some a) (Some b) None xs ys p q = q

-- ---- the last line

pub last_is : (part : List ℕ) → HasNoNewline part → length part ≢ 0 → part ∷ [] ≡ lines_of part
last_is [] p e = absurd (e refl)
last_is (x ∷ xs) p e = sym (last_line x xs p)

-- a line that begins with the part and ends with the first newline
pub line_ends : (part fresh line : List ℕ) (end : ℕ) → line ≡ part ++ take end fresh → fresh ≡ take end fresh ++ (newline ++ drop (end + 1) fresh) → part ++ fresh ≡ line ++ (newline ++ drop (end + 1) fresh)
line_ends part fresh line end is ends =
    let behind = newline ++ drop (end + 1) fresh in
    ap (λ (l : List ℕ). part ++ l) ends ∙ sym (append_assoc part (take end fresh) behind) ∙ ap (λ (l : List ℕ). l ++ behind) (sym is)

pub none_of : (l : List ℕ) (n : ℕ) → length l ≡ n → n ≡ 0 → l ≡ []
none_of [] n e z = refl
none_of (x ∷ xs) n e z = absurd (omega (arith, e, z))

module _ (spelling : Spelling) where
  pub no_last : (r : Reader) (told : Option (List ℕ)) (part : List ℕ) → length part ≡ 0 → Answers spelling r r told told (lines_of part)
  no_last r told [] e = subst (λ (ls : List (List ℕ)). Answers spelling r r told told ls) last_none (answers_none spelling r told)
  no_last r told (x ∷ xs) e = absurd (omega (arith, e))

  -- ---- lines, one after the other

  -- of these bytes a front was answered line by line, and this is left
  pub record AtLine (old : Reader) (told_old : Option (List ℕ)) (bytes : List ℕ) (new : Reader) (told_new : Option (List ℕ)) (left : List ℕ) : Type 0 where
    pub text : List ℕ
    pub lines : List (List ℕ)
    pub whole : bytes ≡ text ++ left
    pub spells : Spells text lines
    pub answers : Answers spelling old new told_old told_new lines

  -- at first
  abbrev pub at_first : (r : Reader) (told : Option (List ℕ)) (bytes : List ℕ) → AtLine r told bytes r told bytes
  at_first r told bytes = record { text = []; lines = []; whole = refl; spells = spells_none; answers = answers_none spelling r told }

  module _ (old r new : Reader) (a b c : Option (List ℕ)) (bytes left : List ℕ) (p : AtLine old a bytes r b left) where
    -- one line more
    pub at_next : (line rest : List ℕ) → left ≡ line ++ (newline ++ rest) → HasNoNewline line → Answers spelling r new b c (line ∷ []) → AtLine old a bytes new c rest
    at_next line rest is one q = record {
      text = p.text ++ (line ++ newline);
      lines = p.lines ++ line ∷ [];
      whole =
          p.whole ∙ ap (λ (l : List ℕ). p.text ++ l) (is ∙ sym (append_assoc line newline rest)) ∙ sym (append_assoc p.text (line ++ newline) rest);
      spells = spells_more p.text (line ++ newline) p.lines (line ∷ []) p.spells (spells_line line one);
      answers = answers_more spelling old r new a b c p.lines p.answers (line ∷ []) q;
    }

    -- the whole lines of all, by those of what is left
    pub whole_of : whole_lines_of bytes ≡ p.lines ++ whole_lines_of left
    whole_of = ap whole_lines_of p.whole ∙ whole_behind p.text left p.lines p.spells

    pub lines_left : lines_of bytes ≡ p.lines ++ lines_of left
    lines_left = ap lines_of p.whole ∙ lines_behind p.text left p.lines p.spells

    -- the answers stop at a line
    pub at_stop : (k m n : ℕ) (e : SessionFault) (line rest : List ℕ) → left ≡ line ++ (newline ++ rest) → HasNoNewline line → k ≤ m → Stops spelling r new b c m n (line ∷ []) e → Stops spelling old new a c k n (whole_lines_of bytes) e
    at_stop k m n e line rest is one le h =
        let more = ap whole_lines_of is ∙ whole_line line rest one in
        stops_more spelling old r new a b c p.lines p.answers k m n (whole_lines_of left) (whole_lines_of bytes) e le whole_of
        (stops_front spelling r new b c m n (line ∷ []) (whole_lines_of rest) (whole_lines_of left) e more h)

  -- ---- pieces, one after the other

  -- what was taken so far, whose whole lines are short, and the part of a line that is left of it
  pub record Reading (left_old left_new : Option (List ℕ)) (old new : Reader) (told_old told_new : Option (List ℕ)) (part : List ℕ) (room : ℕ) : Type 0 where
    pub taken : List ℕ
    pub takes : Takes left_old left_new taken
    pub size : length taken + room ≡ 2 ^ 32
    pub at : AtLine old told_old taken new told_new part
    pub short : All IsShort at.lines
    pub one_line : HasNoNewline part

  pub reading_first : (left : Option (List ℕ)) (r : Reader) (told : Option (List ℕ)) (part : List ℕ) → part ≡ [] → Reading left left r r told told part (2 ^ 32)
  reading_first left r told part is = subst (λ (l : List ℕ). Reading left left r r told told l (2 ^ 32)) (sym is) (record {
    taken = [];
    takes = takes_none left;
    size = refl;
    at = at_first r told [];
    short = All-nil IsShort;
    one_line = tt;
  })

  module _ (s t : Option (List ℕ)) (old r : Reader) (a b : Option (List ℕ)) (part : List ℕ) (room : ℕ) (p : Reading s t old r a b part room) where
    -- the lines that are whole
    whole_are : whole_lines_of p.taken ≡ p.at.lines
    whole_are =
        let none = ap (λ (ls : List (List ℕ)). p.at.lines ++ ls) (whole_none part p.one_line) ∙ append-nil p.at.lines in
        whole_of old r r a b b p.taken part p.at ∙ none

    -- they were answered, and none of them is too long
    pub whole_answers : Answers spelling old r a b (whole_lines_of p.taken)
    whole_answers = subst (λ (ls : List (List ℕ)). Answers spelling old r a b ls) (sym whole_are) p.at.answers

    pub all_short : All IsShort (whole_lines_of p.taken)
    all_short = subst (All IsShort) (sym whole_are) p.short

    pub no_more : length p.taken ≤ 2 ^ 32
    no_more = let e = p.size in omega (arith, e)

    -- a read that took nothing
    pub read_stops : (u : Option (List ℕ)) → Takes t u [] → AnswersWhole spelling s u old r a b
    read_stops u q = record {
      taken = p.taken;
      takes = subst (λ (l : List ℕ). Takes s u l) (append-nil p.taken) (takes_more s t u p.taken [] p.takes q);
      few = no_more;
      short = all_short;
      answers = whole_answers;
    }

    abbrev pub whole_so_far : AnswersWhole spelling s t old r a b
    whole_so_far = record { taken = p.taken; takes = p.takes; few = no_more; short = all_short; answers = whole_answers }

    pub too_long : longest_line < length part → (w : AnswersWhole spelling s t old r a b) × HasLongLine w.taken
    too_long long = (whole_so_far, record { before = p.at.text; part = part; whole = p.at.whole; one_line = p.one_line; long = long })

    pub too_much : room ≡ 0 → (w : AnswersWhole spelling s t old r a b) × (length w.taken ≡ 2 ^ 32)
    too_much none = (whole_so_far, let e = p.size in omega (arith, e, none))

    module _ (u : Option (List ℕ)) (piece : List ℕ) (q : Takes t u piece) where
      -- the part with a piece behind it
      pub piece_behind : p.taken ++ piece ≡ p.at.text ++ (part ++ piece)
      piece_behind = ap (λ (l : List ℕ). l ++ piece) p.at.whole ∙ append_assoc p.at.text part piece

      abbrev pub at_piece : AtLine old a (p.taken ++ piece) r b (part ++ piece)
      at_piece = record { text = p.at.text; lines = p.at.lines; whole = piece_behind; spells = p.at.spells; answers = p.at.answers }

      -- the lines in it were answered
      pub reading_more : (new : Reader) (c : Option (List ℕ)) (text rest : List ℕ) (lines : List (List ℕ)) (less : ℕ) → part ++ piece ≡ text ++ rest → Spells text lines → Answers spelling r new b c lines → HasNoNewline rest → length piece + less ≡ room → length part + length piece ≤ longest_line + 1 → Reading s u old new a c rest less
      reading_more new c text rest lines less is spells h one fits held = record {
        taken = p.taken ++ piece;
        takes = takes_more s t u p.taken piece p.takes q;
        size = let e = p.size in let n = length-append p.taken piece in omega (arith, e, n, fits);
        at = record {
          text = p.at.text ++ text;
          lines = p.at.lines ++ lines;
          whole = piece_behind ∙ ap (λ (l : List ℕ). p.at.text ++ l) is ∙ sym (append_assoc p.at.text text rest);
          spells = spells_more p.at.text text p.at.lines lines p.at.spells spells;
          answers = answers_more spelling old r new a b c p.at.lines p.at.answers lines h;
        };
        short =
            let n = length-append part piece in
            All-append IsShort p.at.lines lines p.short (lines_short (part ++ piece) text rest lines (omega (arith, n, held)) is spells one);
        one_line = one;
      }

      -- the answers to the lines in it stop
      pub piece_stops : (new : Reader) (c : Option (List ℕ)) (k m n : ℕ) (e : SessionFault) → k ≤ m → length piece ≤ room → length part + length piece ≤ longest_line + 1 → Stops spelling r new b c m n (whole_lines_of (part ++ piece)) e → StopsAt spelling s u old new a c k n e
      piece_stops new c k m n e le fits held h = record {
        taken = p.taken ++ piece;
        ended = false;
        takes = record { takes = takes_more s t u p.taken piece p.takes q; end = λ f. absurd (cc f) };
        few = let e = p.size in let n = length-append p.taken piece in omega (arith, e, n, fits);
        short =
            let n = length-append part piece in
            subst (All IsShort) (sym (whole_of old r r a b b (p.taken ++ piece) (part ++ piece) at_piece)) (All-append IsShort p.at.lines (whole_lines_of (part ++ piece)) p.short (whole_short (part ++ piece) (omega (arith, n, held))));
        stops = stops_more spelling old r new a b c p.at.lines p.at.answers k m n (whole_lines_of (part ++ piece)) (whole_lines_of (p.taken ++ piece)) e le (whole_of old r r a b b (p.taken ++ piece) (part ++ piece) at_piece) h;
      }

    -- the input ended
    module _ (u : Option (List ℕ)) (q : Takes t u []) (ends : IsAtEnd u) where
      took_all : TakesUntil s u true p.taken
      took_all = record {
        takes = subst (λ (l : List ℕ). Takes s u l) (append-nil p.taken) (takes_more s t u p.taken [] p.takes q);
        end = λ _. ends;
      }

      pub lines_are_short : length part ≤ longest_line → All IsShort (lines_of p.taken)
      lines_are_short le = subst (All IsShort) (sym (lines_left old r r a b b p.taken part p.at)) (All-append IsShort p.at.lines (lines_of part) p.short (last_short part p.one_line le))

      pub all_answered : (new : Reader) (c : Option (List ℕ)) → 0 < room → length part ≤ longest_line → Answers spelling r new b c (lines_of part) → (taken : List ℕ) × TakesUntil s u true taken × (length taken < 2 ^ 32) × All IsShort (lines_of taken) × Answers spelling old new a c (lines_of taken)
      all_answered new c more le h = (
        p.taken,
        took_all,
        (let e = p.size in omega (arith, e, more)),
        lines_are_short le,
        subst (λ (ls : List (List ℕ)). Answers spelling old new a c ls) (sym (lines_left old r r a b b p.taken part p.at)) (answers_more spelling old r new a b c p.at.lines p.at.answers (lines_of part) h),
      )

      pub last_stops : (new : Reader) (c : Option (List ℕ)) (k m n : ℕ) (e : SessionFault) → k ≤ m → length part ≤ longest_line → Stops spelling r new b c m n (lines_of part) e → StopsAt spelling s u old new a c k n e
      last_stops new c k m n e le held h = record {
        taken = p.taken;
        ended = true;
        takes = took_all;
        few = no_more;
        short = lines_are_short held;
        stops = stops_more spelling old r new a b c p.at.lines p.at.answers k m n (lines_of part) (lines_of p.taken) e le (lines_left old r r a b b p.taken part p.at) h;
      }

  -- a session that stops at a fault of its output or of memory
  pub session_stops : (s u : Option (List ℕ)) (i j : ℕ) (old new : Reader) (a c : Option (List ℕ)) (k n : ℕ) (e : SessionFault) → StopsAt spelling s u old new a c k n e → SessionStops spelling s u i j old new a c k n e
  session_stops s u i j old new a c k n WriteFault h = h
  session_stops s u i j old new a c k n NoMemory h = h
  session_stops s u i j old new a c k n ReadFault h = absurd h.stops
  session_stops s u i j old new a c k n LineTooLong h = absurd h.stops
  session_stops s u i j old new a c k n InputTooLong h = absurd h.stops
