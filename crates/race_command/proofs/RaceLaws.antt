-- What the sessions of a race say together.
use Rattle.std.proofs.Common.{◌≡◌, ◌⊎◌, inl, inr, ℕ, ◌+◌, ◌<◌, ◌≤◌, List, [], ◌∷◌, ◌++◌, length, get_or, map, flat_map, replicate, take, All, Bool, true, false, ◌||◌, Option, Result, Ok, Err, refl, sym, ap, subst, ◌∙◌, append_assoc, append-nil, suc, arith}
use Rattle.std.specs.Prelude.{codes, nat_lt, ⊤}
use Rattle.std.specs.List.{list_any}
use Rattle.std.proofs.lemmas.Bool.{ltb-false}
use Rattle.std.proofs.lemmas.List.{length-replicate, length-take}
use Rattle.std.proofs.lemmas.List.Elements.{All-nil, All-cons, All-replicate, All-weaker}
use Rattle.std.proofs.lemmas.List.Folds.{Any-from_list_any, list_any_at}
use Rattle.outside.specs.Written.{Appends}
use Rattle.outside.proofs.WrittenLaws.{appends_none, appends-prefix}
use Rattle.index_model.specs.Outputs.{Subject}
use Rattle.index_model.specs.Stages.{initial, cache_written, refused, stopped, IsReachable, same}
use Rattle.index_model.specs.Transcripts.{lines_of}
use Rattle.query_text.specs.Spelled.{texts_in, transcript_in}
use Rattle.index_model.proofs.StageLaws.{closure}
use Rattle.stage_core.specs.Machines.{FitsFile}
use Rattle.stage_lock.specs.Seen.{Lock}
use Rattle.index_board.specs.Marks.{AreMarks, floor_after}
use Rattle.index_board.proofs.MarkLaws.{marks_lead}
use Rattle.index_pool.specs.Ends.{stage_at_end, IsLast}
use Rattle.index_pool.proofs.EndLaws.{high as at_end}
use Rattle.index_pool.specs.declared.ended.Ended.{Ended}
use Rattle.index_pool.specs.declared.ended.Ended.TheVariants as ends
use Rattle.query_text.specs.declared.fault.SessionFault.{SessionFault}
use Rattle.query_text.specs.declared.fault.SessionFault.TheVariants as faults
use Rattle.query_text.specs.Sessions.{transcript, IsShort}
use Rattle.query_text.proofs.LongLines.{no_long_line}
use Rattle.session_base.specs.Floors.{HasMost, any, until, IsOver}
use Rattle.race_command.specs.RaceEnds.{fate_of, has_long, has_lost, is_long, is_lost, race_status, texts_of, wants_memory, CausesOfRace, HasEnded, IsFinished, lost, written, cut}
use Rattle.race_command.specs.Races.{race_text, round_text, AreAll, AreBeforeLong, AreFirst, Races, SaysRace, SaysTwice, Texts}
use Rattle.command_base.specs.Replies.{Wrote}
use Rattle.race_command.specs.Runners.{head_of, round_bytes, EachAt, Tells, TellsBy, WasHeldTwice}
use Rattle.session_base.specs.Sessions.{AreDigits}
use Rattle.race_command.specs.Transcripts.{AppendsAtMost}
use Rattle.race_command.specs.declared.runner.Round.TheVariants.{During, After}
use Rattle.race_command.specs.declared.runner.Runner.{Runner}
use Rattle.race_command.specs.declared.transcript.TheConstants.{MAX_RACE_BYTES}
use Rattle.command_base.specs.declared.status.Status.{Status}
use Rattle.command_base.specs.declared.status.Status.TheVariants.{Answered, Refused, InputTooLong, Stopped}
use Rattle.session_base.proofs.SessionTexts.{in_range, transcript_is}
use Rattle.name_quotes.specs.declared.quote.Spelling.{Spelling}

-- ---- marks of both sessions

on : (a b c : ℕ) → IsReachable a b → IsReachable b c → IsReachable a c
on = closure.onwards

-- the marks behind one floor and then those behind another, to which it leads
digits_joined : (s : Subject) (start floor next : ℕ) (ms ns : List ℕ) → IsReachable start floor → AreMarks s floor ms → IsReachable (floor_after floor ms) next → AreMarks s next ns → AreDigits s.file start (ms ++ ns)
digits_joined s start floor next [] [] reach first lead second = tt
digits_joined s start floor next [] (n ∷ ns) reach first lead second = (
  on start next n (on start floor next reach lead) second.0,
  record { accepted = second.2.accepted; refused_ = second.2.refused },
  digits_joined s n n n [] ns same tt same second.3,
)
digits_joined s start floor next (m ∷ ms) ns reach first lead second = (
  on start floor m reach first.0,
  record { accepted = first.2.accepted; refused_ = first.2.refused },
  digits_joined s m m next ms ns same first.3 lead second,
)

-- ---- how sessions ended

-- the statuses with which texts are written
abbrev IsToldBy : Status → Type 0
IsToldBy Answered = ⊤
IsToldBy Refused = ⊤
IsToldBy InputTooLong = ⊤
IsToldBy Stopped = ⊤
IsToldBy other = ⊥

status_told : (long : Bool) (ended : Ended) → IsToldBy (race_status long ended)
status_told true ended = tt
status_told false ends.Done = tt
status_told false ends.Refused = tt
status_told false ends.Stopped = tt

or_left : (a b : Bool) → (a || b) ≡ false → a ≡ false
or_left true b e = e
or_left false b e = refl

or_right : (a b : Bool) → (a || b) ≡ false → b ≡ false
or_right true b e = absurd (cc e)
or_right false b e = e

one_of : (a b : Bool) → (a || b) ≡ true → (a ≡ true) ⊎ (b ≡ true)
one_of true b e = inl refl
one_of false b e = inr e

none_at : (p : Runner → Bool) (rs : List Runner) → list_any p rs ≡ false → (i : ℕ) (d : Runner) → i < length rs → p (get_or rs i d) ≡ false
none_at p rs none i d lt = by (p (get_or rs i d)) refl
  where
    by : (b : Bool) → p (get_or rs i d) ≡ b → p (get_or rs i d) ≡ false
    by true e = let both : true ≡ false = sym (list_any_at p rs i d lt e) ∙ none in absurd (cc both)
    by false e = e

pub none_appended : (a : Option (List ℕ)) → AppendsAtMost MAX_RACE_BYTES a a
none_appended a = ([], omega arith, appends_none a)

all_first : (script : List ℕ) (ls : List (List ℕ)) → AreAll script ls → AreFirst script ls
all_first script ls are = record { rest = []; front = append-nil ls ∙ are.all; short = are.short }

-- no session was refused memory, and the texts aren't too long
kept_each : (rs : List Runner) → wants_memory rs ≡ false → list_any has_lost rs ≡ false
kept_each rs kept = or_left (list_any has_lost rs) (nat_lt MAX_RACE_BYTES (length (texts_of rs))) kept

fits_limit : (rs : List Runner) → wants_memory rs ≡ false → length (texts_of rs) ≤ MAX_RACE_BYTES
fits_limit rs kept = ltb-false MAX_RACE_BYTES (length (texts_of rs)) (or_right (list_any has_lost rs) (nat_lt MAX_RACE_BYTES (length (texts_of rs))) kept)

-- whatever the end, no more than the most was written
pub within_limit : (runners : List Runner) (ended : Ended) (status : Status) (a c : Option (List ℕ)) (failed : Type 0) → IsFinished runners ended a c failed status → AppendsAtMost MAX_RACE_BYTES a c
within_limit runners ended status a c failed (lost some is) = subst (AppendsAtMost MAX_RACE_BYTES a) is (none_appended a)
within_limit runners ended status a c failed (written kept all) = (texts_of runners, fits_limit runners kept, all)
within_limit runners ended status a c failed (cut kept f part) = (take part.0 (texts_of runners), omega (arith, fits_limit runners kept, length-take part.0 (texts_of runners)), part.1)

pub causes_of_race : (runners : List Runner) (ended : Ended) (status : Status) (a c : Option (List ℕ)) (failed : Type 0) → IsFinished runners ended a c failed status → CausesOfRace failed status
causes_of_race runners ended status a c failed (lost some is) = tt
causes_of_race runners ended status a c failed (written kept all) = by (list_any has_long runners) ended
  where
    by : (long : Bool) (e : Ended) → CausesOfRace failed (race_status long e)
    by true e = tt
    by false ends.Done = tt
    by false ends.Refused = tt
    by false ends.Stopped = tt
causes_of_race runners ended status a c failed (cut kept f part) = f

module _ (spelling : Spelling) where
  -- ---- one reader

  module _ (file : List ℕ) (s : Subject) (over : IsOver file s) (most last : ℕ) (has : (floor : ℕ) → IsReachable floor last → HasMost most floor) (at_last : IsLast last) (high : cache_written ≤ last) (Lines : List (List ℕ) → Type 0) where
    module _ (start end next behind : ℕ) (started : IsReachable initial start) (reach : IsReachable end next) (told : IsReachable last next) (h g a b : List ℕ) (ls ks : List (List ℕ)) (first : Tells spelling s h start end ls a) (second : Tells spelling s g next behind ks b) where
      next_is : next ≡ last
      next_is = at_last next told

      behind_is : behind ≡ last
      behind_is = at_last behind (subst (λ (n : ℕ). IsReachable n behind) next_is (subst (IsReachable next) (sym second.floor) (marks_lead s next second.marks second.each)))

      low : cache_written ≤ next
      low = omega (arith, high, next_is)

      to_next : IsReachable initial next
      to_next = on initial end next (on initial start end started (subst (IsReachable start) (sym first.floor) (marks_lead s start first.marks first.each))) reach

      first_most : HasMost most (floor_after start first.marks)
      first_most = subst (HasMost most) first.floor (has end (subst (IsReachable end) next_is reach))

      second_most : HasMost most (floor_after next second.marks)
      second_most = subst (HasMost most) second.floor (has behind (subst (λ (n : ℕ). IsReachable n last) (sym behind_is) same))

      -- what both sessions say
      pub twice : Lines ls → Lines ks → SaysTwice spelling file most Lines (record { during = transcript spelling s ls first.marks; after = transcript spelling s ks second.marks })
      twice are again = record {
        first_lines = ls;
        first_are = are;
        first = record {
          digits = first.marks;
          count = first.count;
          each = subst (λ (f : List ℕ). AreDigits f initial first.marks) over.file_is (subst (AreDigits s.file initial) (append-nil first.marks) (digits_joined s initial start (floor_after start first.marks) first.marks [] started first.each same tt));
          range = in_range s initial most start first.marks (omega arith) first.each first_most;
          text_is = transcript_is spelling file s over ls first.marks;
        };
        second_lines = ks;
        second_are = again;
        second = record {
          digits = second.marks;
          count = second.count;
          each = subst (λ (f : List ℕ). AreDigits f initial second.marks) over.file_is (digits_joined s initial initial next [] second.marks same tt to_next second.each);
          range = in_range s cache_written most next second.marks low second.each second_most;
          text_is = transcript_is spelling file s over ks second.marks;
        };
        rises = subst (λ (f : List ℕ). AreDigits f initial (first.marks ++ second.marks)) over.file_is
            (digits_joined s initial start next first.marks second.marks started first.each (subst (λ (e : ℕ). IsReachable e next) first.floor reach) second.each);
      }

  -- ---- all readers

  -- the reader with this number says these texts
  pub record SaysAs (file : List ℕ) (most : ℕ) (Lines : List (List ℕ) → Type 0) (number : ℕ) (r : Runner) : Type 0 where
    pub texts : Texts
    pub says : SaysTwice spelling file most Lines texts
    pub during : round_bytes During r ≡ head_of During number ++ texts.during
    pub after : round_bytes After r ≡ head_of After number ++ texts.after

  -- what the readers from a number on say
  record Collected (file : List ℕ) (most : ℕ) (Lines : List (List ℕ) → Type 0) (number : ℕ) (rs : List Runner) : Type 0 where
    all : List Texts
    count : length all ≡ length rs
    each : All (SaysTwice spelling file most Lines) all
    during : flat_map (round_bytes During) rs ≡ round_text (codes "during") number (map (λ t. t.during) all)
    after : flat_map (round_bytes After) rs ≡ round_text (codes "after") number (map (λ t. t.after) all)

  module _ (file : List ℕ) (most : ℕ) (Lines : List (List ℕ) → Type 0) where
    collect : (number : ℕ) (rs : List Runner) → ((i : ℕ) (d : Runner) → i < length rs → SaysAs file most Lines (number + i) (get_or rs i d)) → Collected file most Lines number rs
    collect number [] says = record { all = []; count = refl; each = All-nil (SaysTwice spelling file most Lines); during = refl; after = refl }
    collect number (r ∷ rs) says =
        let one : SaysAs file most Lines number r = subst (λ (n : ℕ). SaysAs file most Lines n r) (omega arith) (says 0 r (omega arith)) in
        let others = collect (number + 1) rs (λ i d lt. subst (λ (n : ℕ). SaysAs file most Lines n (get_or rs i d)) (omega arith) (says (suc i) d (omega (arith, lt)))) in
        record {
          all = one.texts ∷ others.all;
          count = omega (arith, others.count);
          each = All-cons (SaysTwice spelling file most Lines) one.texts others.all one.says others.each;
          during = ap (λ (b : List ℕ). b ++ flat_map (round_bytes During) rs) one.during ∙ append_assoc (head_of During number) one.texts.during (flat_map (round_bytes During) rs) ∙ ap (λ (b : List ℕ). head_of During number ++ (one.texts.during ++ b)) others.during;
          after = ap (λ (b : List ℕ). b ++ flat_map (round_bytes After) rs) one.after ∙ append_assoc (head_of After number) one.texts.after (flat_map (round_bytes After) rs) ∙ ap (λ (b : List ℕ). head_of After number ++ (one.texts.after ++ b)) others.after;
        }

    -- the texts of both rounds
    pub races_of : (rs : List Runner) → EachAt (SaysAs file most Lines) rs → Races spelling file (length rs) most Lines (flat_map (round_bytes During) rs ++ flat_map (round_bytes After) rs)
    races_of rs says =
        let c = collect 0 rs (λ i d lt. subst (λ (n : ℕ). SaysAs file most Lines n (get_or rs i d)) (omega arith) (says i d lt)) in
        record { all = c.all; count = c.count; each = c.each; text_is = ap (λ (b : List ℕ). b ++ flat_map (round_bytes After) rs) c.during ∙ ap (λ (b : List ℕ). round_text (codes "during") 0 (map (λ t. t.during) c.all) ++ b) c.after }

  module _ (s : Subject) (script head : List ℕ) (start end : ℕ) (bytes : List ℕ) where
    -- one that answered the whole script
    tells_whole : (r : Result (Unit {0}) SessionFault) → is_long (fate_of r) ≡ false → is_lost (fate_of r) ≡ false → TellsBy spelling s script head start end r bytes → AreAll script (lines_of script) × Tells spelling s head start end (lines_of script) bytes
    tells_whole (Ok x) long not_lost t = t
    tells_whole (Err faults.LineTooLong) long not_lost t = absurd (cc long)
    tells_whole (Err faults.ReadFault) long not_lost t = absurd t
    tells_whole (Err faults.InputTooLong) long not_lost t = absurd t
    tells_whole (Err faults.NoMemory) long not_lost t = absurd (cc not_lost)
    tells_whole (Err faults.WriteFault) long not_lost t = absurd (cc not_lost)

    -- where a line is too long, each stopped there
    tells_long : (lines : List (List ℕ)) → AreBeforeLong script lines → (r : Result (Unit {0}) SessionFault) → is_lost (fate_of r) ≡ false → TellsBy spelling s script head start end r bytes → (ls : List (List ℕ)) × AreBeforeLong script ls × Tells spelling s head start end ls bytes
    tells_long lines w (Ok x) not_lost t = absurd (no_long_line script w.taken w.rest w.front t.0.short w.long)
    tells_long lines w (Err faults.LineTooLong) not_lost t = t
    tells_long lines w (Err faults.ReadFault) not_lost t = absurd t
    tells_long lines w (Err faults.InputTooLong) not_lost t = absurd t
    tells_long lines w (Err faults.NoMemory) not_lost t = absurd (cc not_lost)
    tells_long lines w (Err faults.WriteFault) not_lost t = absurd (cc not_lost)

    -- a line that is too long is in the script
    line_of_long : (r : Result (Unit {0}) SessionFault) → is_long (fate_of r) ≡ true → TellsBy spelling s script head start end r bytes → (ls : List (List ℕ)) × AreBeforeLong script ls
    line_of_long (Ok x) long t = absurd (cc long)
    line_of_long (Err faults.LineTooLong) long t = (t.0, t.1)
    line_of_long (Err faults.ReadFault) long t = absurd t
    line_of_long (Err faults.InputTooLong) long t = absurd t
    line_of_long (Err faults.NoMemory) long t = absurd (cc long)
    line_of_long (Err faults.WriteFault) long t = absurd (cc long)

  -- other lines that include these
  says_weaker : (file : List ℕ) (most : ℕ) (Lines Others : List (List ℕ) → Type 0) → ((ls : List (List ℕ)) → Lines ls → Others ls) → (t : Texts) → SaysTwice spelling file most Lines t → SaysTwice spelling file most Others t
  says_weaker file most Lines Others f t w = record {
    first_lines = w.first_lines;
    first_are = f w.first_lines w.first_are;
    first = w.first;
    second_lines = w.second_lines;
    second_are = f w.second_lines w.second_are;
    second = w.second;
    rises = w.rises;
  }

  -- a reader that answered no line
  nothing_said : (file script : List ℕ) → SaysTwice spelling file stopped (AreFirst script) (record { during = []; after = [] })
  unfolding transcript_in texts_in
  nothing_said file script = record {
    first_lines = [];
    first_are = record { rest = lines_of script; front = refl; short = All-nil IsShort };
    first = record { digits = []; count = refl; each = tt; range = All-nil (λ digit. (initial ≤ digit) × (digit ≤ stopped)); text_is = refl };
    second_lines = [];
    second_are = record { rest = lines_of script; front = refl; short = All-nil IsShort };
    second = record { digits = []; count = refl; each = tt; range = All-nil (λ digit. (cache_written ≤ digit) × (digit ≤ stopped)); text_is = refl };
    rises = tt;
  }

  -- where memory was refused to a session, or before
  pub nothing_raced : (file : List ℕ) (readers : ℕ) (script : List ℕ) (a : Option (List ℕ)) → Wrote (SaysRace spelling file readers script) Stopped a a
  nothing_raced file readers script a =
      let none : Texts = record { during = []; after = [] } in
      let all = replicate readers none in
      (race_text all, record { all = all; count = length-replicate readers none; each = All-replicate (SaysTwice spelling file stopped (AreFirst script)) readers none (nothing_said file script); text_is = refl }, (0, appends_none a))

  module _ (board : Lock Subject) (script : List ℕ) (runners : List Runner) (ended : Ended) (h : HasEnded spelling board script runners ended) where
    abbrev file : List ℕ
    file = board.subject.file

    abbrev bytes : List ℕ
    bytes = flat_map (round_bytes During) runners ++ flat_map (round_bytes After) runners

    over : IsOver file board.subject
    over = record { file_is = refl; cache_is = h.is_gdb }

    high : cache_written ≤ stage_at_end ended
    high = at_end ended

    module _ (most : ℕ) (has : (floor : ℕ) → IsReachable floor (stage_at_end ended) → HasMost most floor) (kept : list_any has_lost runners ≡ false) where
      -- no line is too long
      whole : list_any has_long runners ≡ false → Races spelling file (length runners) most (AreAll script) bytes
      whole short = races_of file most (AreAll script) runners (λ i d lt.
          let long = none_at has_long runners short i d lt in
          let not_lost = none_at has_lost runners kept i d lt in
          let r = get_or runners i d in
          let w = h.each i d lt in
          let first = tells_whole board.subject script (head_of During i) w.start w.end r.during.text.bytes r.during.ended (or_left (is_long (fate_of r.during.ended)) (is_long (fate_of r.after.ended)) long) (or_left (is_lost (fate_of r.during.ended)) (is_lost (fate_of r.after.ended)) not_lost) w.first in
          let second = tells_whole board.subject script (head_of After i) w.next r.reader.pass.floor r.after.text.bytes r.after.ended (or_right (is_long (fate_of r.during.ended)) (is_long (fate_of r.after.ended)) long) (or_right (is_lost (fate_of r.during.ended)) (is_lost (fate_of r.after.ended)) not_lost) w.second in
          record {
            texts = record { during = transcript spelling board.subject (lines_of script) first.1.marks; after = transcript spelling board.subject (lines_of script) second.1.marks };
            says = twice file board.subject over most (stage_at_end ended) has h.last high (AreAll script) w.start w.end w.next r.reader.pass.floor w.started w.reach w.told (head_of During i) (head_of After i) r.during.text.bytes r.after.text.bytes (lines_of script) (lines_of script) first.1 second.1 first.0 second.0;
            during = first.1.text_is;
            after = second.1.text_is;
          })

      -- one is, and all sessions stopped at it
      long : (ls : List (List ℕ)) → AreBeforeLong script ls → Races spelling file (length runners) most (AreBeforeLong script) bytes
      long ls before = races_of file most (AreBeforeLong script) runners (λ i d lt.
          let not_lost = none_at has_lost runners kept i d lt in
          let r = get_or runners i d in
          let w = h.each i d lt in
          let first = tells_long board.subject script (head_of During i) w.start w.end r.during.text.bytes ls before r.during.ended (or_left (is_lost (fate_of r.during.ended)) (is_lost (fate_of r.after.ended)) not_lost) w.first in
          let second = tells_long board.subject script (head_of After i) w.next r.reader.pass.floor r.after.text.bytes ls before r.after.ended (or_right (is_lost (fate_of r.during.ended)) (is_lost (fate_of r.after.ended)) not_lost) w.second in
          record {
            texts = record { during = transcript spelling board.subject first.0 first.2.marks; after = transcript spelling board.subject second.0 second.2.marks };
            says = twice file board.subject over most (stage_at_end ended) has h.last high (AreBeforeLong script) w.start w.end w.next r.reader.pass.floor w.started w.reach w.told (head_of During i) (head_of After i) r.during.text.bytes r.after.text.bytes first.0 second.0 first.2 second.2 first.1 second.1;
            during = first.2.text_is;
            after = second.2.text_is;
          })

    -- where a session stopped at a line that is too long, the script has one
    long_line : list_any has_long runners ≡ true → (ls : List (List ℕ)) × AreBeforeLong script ls
    long_line some =
        let one = Any-from_list_any has_long runners some in
        let w = subst (WasHeldTwice spelling board script (stage_at_end ended) one.0) one.3 (h.each one.0 one.1 one.2) in
        by one.1 one.0 w (one_of (is_long (fate_of one.1.during.ended)) (is_long (fate_of one.1.after.ended)) one.4)
      where
        by : (r : Runner) (i : ℕ) → WasHeldTwice spelling board script (stage_at_end ended) i r → (is_long (fate_of r.during.ended) ≡ true) ⊎ (is_long (fate_of r.after.ended) ≡ true) → (ls : List (List ℕ)) × AreBeforeLong script ls
        by r i w (inl is) = line_of_long board.subject script (head_of During i) w.start w.end r.during.text.bytes r.during.ended is w.first
        by r i w (inr is) = line_of_long board.subject script (head_of After i) w.next r.reader.pass.floor r.after.text.bytes r.after.ended is w.second

    -- of the texts that are written
    says_ended : list_any has_lost runners ≡ false → (long_one : Bool) → list_any has_long runners ≡ long_one → SaysRace spelling file (length runners) script (race_status long_one ended) bytes
    says_ended kept true is = let l = long_line is in long stopped (λ floor reach. any refl) kept l.0 l.1
    says_ended kept false is = by ended h.fits (λ most has. whole most has kept is)
      where
        by : (e : Ended) → FitsFile board.subject (stage_at_end e) → ((most : ℕ) → ((floor : ℕ) → IsReachable floor (stage_at_end e) → HasMost most floor) → Races spelling file (length runners) most (AreAll script) bytes) → SaysRace spelling file (length runners) script (race_status false e) bytes
        by ends.Done fits all = (fits.accepted (omega arith) (omega arith), all refused (λ floor reach. until cache_written reach (omega arith)))
        by ends.Refused fits all = (fits.refused refl, all refused (λ floor reach. until refused reach (omega arith)))
        by ends.Stopped fits all =
            let r = all stopped (λ floor reach. any refl) in
            record { all = r.all; count = r.count; each = All-weaker (SaysTwice spelling file stopped (AreAll script)) (SaysTwice spelling file stopped (AreFirst script)) (λ t. says_weaker file stopped (AreAll script) (AreFirst script) (all_first script) t) r.all r.each; text_is = r.text_is }

    wrote_as : (status : Status) → IsToldBy status → SaysRace spelling file (length runners) script status bytes → (a c : Option (List ℕ)) → Appends a c bytes → Wrote (SaysRace spelling file (length runners) script) status a c
    wrote_as Answered t says a c all = (bytes, says, all)
    wrote_as Refused t says a c all = (bytes, says, all)
    wrote_as InputTooLong t says a c all = (bytes, says, all)
    wrote_as Stopped t says a c all = (bytes, says, appends-prefix a c bytes all)
    wrote_as other t says a c all = absurd t

    -- what was written at the end
    pub wrote_race : (status : Status) (a c : Option (List ℕ)) (failed : Type 0) → IsFinished runners ended a c failed status → Wrote (SaysRace spelling file (length runners) script) status a c
    wrote_race status a c failed (lost some is) = subst (λ (o : Option (List ℕ)). Wrote (SaysRace spelling file (length runners) script) Stopped a o) is (nothing_raced file (length runners) script a)
    wrote_race status a c failed (written kept all) = wrote_as (race_status (list_any has_long runners) ended) (status_told (list_any has_long runners) ended) (says_ended (kept_each runners kept) (list_any has_long runners) refl) a c all
    wrote_race status a c failed (cut kept f part) = (race_status (list_any has_long runners) ended, bytes, says_ended (kept_each runners kept) (list_any has_long runners) refl, part)
