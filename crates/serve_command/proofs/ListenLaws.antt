-- What a session during a build says, and what is said once both have ended.
use Rattle.std.proofs.Common.{◌≡◌, ℕ, ◌^◌, ◌≤◌, ◌<◌, List, [], ◌∷◌, length, true, false, Option, Result, Ok, Err, refl, sym, subst, inl, inr, append-nil, arith}
use Rattle.std.specs.Prelude.{All, OnOk, IfErr, IsSome}
use Rattle.std.proofs.lemmas.List.Elements.{All-nil}
use Rattle.outside.specs.Counts.{Rose}
use Rattle.outside.proofs.WrittenLaws.{appends_none, appends-prefix}
use Rattle.index_model.specs.Faults.{first_fault, IsAccepted}
use Rattle.index_model.specs.Outputs.{Subject}
use Rattle.index_model.specs.Stages.{initial, refused, stopped, IsReachable}
use Rattle.index_model.specs.Transcripts.{lines_of}
use Rattle.query_text.specs.Spelled.{texts_in, transcript_in}
use Rattle.stage_core.specs.Machines.{FitsFile}
use Rattle.index_board.specs.Readers.{Reader}
use Rattle.index_pool.specs.Ends.{stage_at_end}
use Rattle.index_pool.specs.declared.ended.Ended.{Ended}
use Rattle.index_pool.specs.declared.ended.Ended.TheVariants as ends
use Rattle.query_text.specs.declared.fault.SessionFault.{SessionFault}
use Rattle.query_text.specs.declared.fault.SessionFault.TheVariants as faults
use Rattle.query_text.specs.Sessions.{Answers, IsShort, SessionStops, TakesUntil}
use Rattle.query_text.specs.WholeLines.{whole_lines_of}
use Rattle.query_text.proofs.SessionLaws.{takes_none}
use Rattle.session_base.specs.Floors.{HasMost, any, until, IsOver}
use Rattle.session_base.specs.Heard.{Heard}
use Rattle.serve_command.specs.Listens.{CausesOfSession, Listened, status_at, status_behind, status_of}
use Rattle.command_base.specs.Replies.{Writes, Wrote}
use Rattle.serve_command.specs.SessionResults.{SaysServe}
use Rattle.session_base.specs.Sessions.{Serves, ServesPart}
use Rattle.command_base.specs.declared.status.Status.{Status}
use Rattle.command_base.specs.declared.status.Status.TheVariants.{Stopped}
use Rattle.session_base.proofs.SessionTexts.{said_before, said_in_part, said_whole}
use Rattle.name_quotes.specs.declared.quote.Spelling.{Spelling}

-- ---- beside the build

pub causes_behind : {X : Type 0} (writes : Type 0) (r : Result X SessionFault) (ended : Ended) → IfErr r (λ fault. CausesOfSession writes (status_of fault)) → CausesOfSession writes (status_behind r ended)
causes_behind writes (Ok x) ends.Done causes = tt
causes_behind writes (Ok x) ends.Refused causes = tt
causes_behind writes (Ok x) ends.Stopped causes = tt
causes_behind writes (Err fault) ended causes = causes

module _ (spelling : Spelling) where
  -- ---- the session

  module _ (file : List ℕ) (wait : ℕ) (s u : Option (List ℕ)) (i j : ℕ) (old new : Reader) (a c : Option (List ℕ)) (k n : ℕ) (over : IsOver file old.board.subject) (reached : IsReachable initial old.pass.floor) (low : wait ≤ old.pass.floor) where
    abbrev h : Heard
    h = record { left_old = s; left_new = u; faults_old = i; faults_new = j }

    -- all of the input was answered
    all_served : (taken : List ℕ) → TakesUntil s u true taken → length taken < 2 ^ 32 → All IsShort (lines_of taken) → Answers spelling old new a c (lines_of taken) → (most : ℕ) → HasMost most new.pass.floor → Writes a c (Serves spelling file wait most h)
    all_served taken takes few short answers most has =
        let said = said_whole spelling file old new over wait reached low a c most has (lines_of taken) answers in
        (said.0, record { taken = taken; takes = takes.takes; end = takes.end refl; few = few; short = short; says = said.1 }, said.2)

    stop_served : (fault : SessionFault) → SessionStops spelling s u i j old new a c k n fault → Wrote (SaysServe spelling file wait h) (status_of fault) a c
    stop_served faults.ReadFault (rose, w) =
        let said = said_whole spelling file old new over wait reached low a c stopped (any refl) (whole_lines_of w.taken) w.answers in
        (said.0, (rose, record { taken = w.taken; takes = w.takes; few = w.few; short = w.short; says = said.1 }), said.2)
    stop_served faults.LineTooLong (w, long) =
        let said = said_whole spelling file old new over wait reached low a c stopped (any refl) (whole_lines_of w.taken) w.answers in
        (said.0, record { whole = record { taken = w.taken; takes = w.takes; few = w.few; short = w.short; says = said.1 }; long = inl long }, said.2)
    stop_served faults.InputTooLong (w, much) =
        let said = said_whole spelling file old new over wait reached low a c stopped (any refl) (whole_lines_of w.taken) w.answers in
        (said.0, record { whole = record { taken = w.taken; takes = w.takes; few = w.few; short = w.short; says = said.1 }; long = inr much }, said.2)
    stop_served faults.WriteFault stop =
        let within = stop.stops.1 in
        let said = said_in_part spelling file old new over wait reached low a c stopped (any refl) within.lines within.answers in
        (Stopped, said.0, record { taken = stop.taken; ended = stop.ended; takes = stop.takes; few = stop.few; short = stop.short; lines = within.lines; rest = within.rest; front = within.front; says = said.1 }, said.2)
    stop_served faults.NoMemory stop =
        let before = stop.stops in
        let said = said_before spelling file old new over wait reached low a c before.lines before.line before.answers in
        (said.0, record { taken = stop.taken; ended = stop.ended; takes = stop.takes; few = stop.few; short = stop.short; lines = before.lines; rest = before.line ∷ before.rest; front = before.front; says = said.1 }, appends-prefix a c said.0 said.2)

    -- what the session says
    pub heard_lines : {X : Type 0} (r : Result X SessionFault) → OnOk r ((taken : List ℕ) × TakesUntil s u true taken × (length taken < 2 ^ 32) × All IsShort (lines_of taken) × Answers spelling old new a c (lines_of taken)) → IfErr r (λ fault. SessionStops spelling s u i j old new a c k n fault) → Listened spelling file wait h a c new.pass.floor r
    heard_lines (Ok x) all stops = all_served all.0 all.1 all.2 all.3 all.4
    heard_lines (Err fault) all stops = stop_served fault stops

  -- the cause of its status
  module _ (s u : Option (List ℕ)) (i j : ℕ) (old new : Reader) (a c : Option (List ℕ)) (k n : ℕ) where
    cause_of : (fault : SessionFault) → SessionStops spelling s u i j old new a c k n fault → CausesOfSession (Rose k n) (status_of fault)
    cause_of faults.ReadFault stop = tt
    cause_of faults.LineTooLong stop = tt
    cause_of faults.InputTooLong stop = tt
    cause_of faults.WriteFault stop = stop.stops.0
    cause_of faults.NoMemory stop = tt

    pub causes_of : {X : Type 0} (r : Result X SessionFault) → IfErr r (λ fault. SessionStops spelling s u i j old new a c k n fault) → IfErr r (λ fault. CausesOfSession (Rose k n) (status_of fault))
    causes_of (Ok x) stops = tt
    causes_of (Err fault) stops = cause_of fault stops

  module _ (file : List ℕ) (wait : ℕ) (h : Heard) (a c : Option (List ℕ)) where
    -- where memory was refused behind the last line
    part_of_all : (text : List ℕ) → Serves spelling file wait stopped h text → ServesPart spelling file wait h text
    part_of_all text served = record {
      taken = served.taken;
      ended = true;
      takes = record { takes = served.takes; end = λ _. served.end };
      few = let lt = served.few in omega (arith, lt);
      short = served.short;
      lines = lines_of served.taken;
      rest = [];
      front = append-nil (lines_of served.taken);
      says = served.says;
    }

    module _ (s : Subject) (file_is : s.file ≡ file) (floor last : ℕ) (reach : IsReachable floor last) (fits : FitsFile s last) where
      at_end : (ended : Ended) → last ≡ stage_at_end ended → ((most : ℕ) → HasMost most floor → Writes a c (Serves spelling file wait most h)) → Wrote (SaysServe spelling file wait h) (status_at ended) a c
      at_end ends.Done is all =
          let served = all refused (until last reach (omega (arith, is))) in
          (served.0, (subst IsAccepted file_is (fits.accepted (omega (arith, is)) (omega (arith, is))), served.1), served.2)
      at_end ends.Refused is all =
          let served = all refused (until last reach (omega (arith, is))) in
          (served.0, (subst (λ (f : List ℕ). IsSome (first_fault f)) file_is (fits.refused is), served.1), served.2)
      at_end ends.Stopped is all =
          let served = all stopped (any refl) in
          (served.0, part_of_all served.0 served.1, appends-prefix a c served.0 served.2)

      -- the session's end, and else the build's
      pub wrote_behind : {X : Type 0} (told : List ℕ) (r : Result X SessionFault) (ended : Ended) (status : Status) → told ≡ file → Listened spelling told wait h a c floor r → last ≡ stage_at_end ended → status ≡ status_behind r ended → Wrote (SaysServe spelling file wait h) status a c
      wrote_behind told (Ok x) ended status told_is listened is status_is =
          subst (λ (t : Status). Wrote (SaysServe spelling file wait h) t a c) (sym status_is) (at_end ended is (subst (λ (f : List ℕ). (most : ℕ) → HasMost most floor → Writes a c (Serves spelling f wait most h)) told_is listened))
      wrote_behind told (Err fault) ended status told_is listened is status_is =
          subst (λ (t : Status). Wrote (SaysServe spelling file wait h) t a c) (sym status_is) (subst (λ (f : List ℕ). Wrote (SaysServe spelling f wait h) (status_of fault) a c) told_is listened)

  -- ---- where memory was refused before

  pub nothing_served : (file : List ℕ) (wait : ℕ) (left : Option (List ℕ)) (i j : ℕ) (a : Option (List ℕ)) → Wrote (SaysServe spelling file wait (record { left_old = left; left_new = left; faults_old = i; faults_new = j })) Stopped a a
  unfolding whole_lines_of transcript_in texts_in
  nothing_served file wait left i j a = (
    [],
    record {
      taken = [];
      ended = false;
      takes = record { takes = takes_none left; end = λ f. absurd (cc f) };
      few = omega arith;
      short = All-nil IsShort;
      lines = [];
      rest = [];
      front = refl;
      says = record { digits = []; count = refl; each = tt; range = All-nil (λ digit. (wait ≤ digit) × (digit ≤ stopped)); text_is = refl };
    },
    appends-prefix a a [] (appends_none a),
  )
