-- What a reader of a race came to in its sessions.
use Rattle.std.proofs.Common.{◌≡◌, inl, inr, ℕ, ◌+◌, ◌^◌, ◌<◌, ◌≤◌, List, [], ◌∷◌, ◌++◌, length, get_or, All, true, false, Option, Some, Result, Ok, Err, refl, sym, ap, subst, ◌∙◌, append-nil, length-append, flat_map, take, drop, take-append-drop, arith}
use Rattle.std.specs.Prelude.{OnOk, IfErr, is_err}
use Rattle.std.proofs.lemmas.List.Elements.{All-get_or}
use Rattle.std.proofs.lemmas.List.{take_more}
use Rattle.std.proofs.lemmas.List.Concat.{flat_map-append}
use Rattle.outside.specs.Counts.{Rose}
use Rattle.outside.specs.Written.{Appends, AppendsPrefix}
use Rattle.outside.proofs.WrittenLaws.{appends_more_prefix}
use Rattle.index_model.specs.Outputs.{Subject}
use Rattle.index_model.specs.Stages.{initial, IsReachable, same}
use Rattle.index_model.specs.Transcripts.{lines_of}
use Rattle.index_model.proofs.StageLaws.{closure}
use Rattle.stage_lock.specs.Seen.{Lock}
use Rattle.index_board.specs.Readers.{Reader}
use Rattle.query_text.specs.declared.fault.SessionFault.{SessionFault}
use Rattle.query_text.specs.declared.fault.SessionFault.TheVariants as faults
use Rattle.query_text.specs.Sessions.{Answers, IsShort, SessionStops, TakesUntil}
use Rattle.query_text.specs.WholeLines.{whole_lines_of}
use Rattle.query_text.proofs.SendingLaws.{prefix_of_text}
use Rattle.race_command.specs.Races.{AreAll}
use Rattle.race_command.specs.Runners.{head_of, AllAnswered, AllTold, EachAt, IsFresh, IsHeld, Tells, TellsBy, WasHeld, WasHeldTwice}
use Rattle.race_command.specs.declared.runner.Round.TheVariants.{During, After}
use Rattle.race_command.specs.declared.runner.Runner.{Runner}
use Rattle.name_quotes.specs.declared.quote.Spelling.{Spelling}

-- ---- one session

-- of an input that is at its end all was taken
all_taken : (script taken rest : List ℕ) → script ≡ taken ++ rest → rest ≡ [] → taken ≡ script
all_taken script taken rest is end = sym (append-nil taken) ∙ ap (λ (r : List ℕ). taken ++ r) (sym end) ∙ sym is

never : (n : ℕ) → Rose n n → n ≡ 0 → ⊥
never n (inl less) is = omega (arith, less)
never n (inr top) is = omega (arith, top, is)

-- a call that didn't fail
pub when_ok : {X E P : Type 0} (r : Result X E) → is_err r ≡ false → OnOk r P → P
when_ok (Ok x) not_err p = p
when_ok (Err e) not_err p = absurd (cc not_err)

-- ---- the rounds

on : (a b c : ℕ) → IsReachable a b → IsReachable b c → IsReachable a c
on = closure.onwards

-- ---- their texts

module _ {X : Type 0} (f : X → List ℕ) (xs : List X) (i : ℕ) (x : X) (lt : i < length xs) (is : x ≡ get_or xs i x) where
  -- one text more
  pub texts_more : flat_map f (take (i + 1) xs) ≡ flat_map f (take i xs) ++ f x
  texts_more = ap (flat_map f) (take_more xs i x lt) ∙ flat_map-append f (take i xs) (get_or xs i x ∷ []) ∙ ap (λ (t : List ℕ). flat_map f (take i xs) ++ t) (append-nil (f (get_or xs i x)) ∙ ap f (sym is))

  -- a part of one text more is a part of all
  pub part_of_texts : (a b c : Option (List ℕ)) → Appends a b (flat_map f (take i xs)) → AppendsPrefix b c (f x) → AppendsPrefix a c (flat_map f xs)
  part_of_texts a b c before part =
      let all : flat_map f (take (i + 1) xs) ++ flat_map f (drop (i + 1) xs) ≡ flat_map f xs = sym (flat_map-append f (take (i + 1) xs) (drop (i + 1) xs)) ∙ ap (flat_map f) (take-append-drop (i + 1) xs) in
      subst (AppendsPrefix a c) (ap (λ (t : List ℕ). t ++ flat_map f (drop (i + 1) xs)) (sym texts_more) ∙ all)
      (prefix_of_text a c [] (flat_map f (take i xs) ++ f x) (flat_map f (drop (i + 1) xs)) (appends_more_prefix a b c (flat_map f (take i xs)) (f x) before part))

module _ (spelling : Spelling) where
  module _ (script rest head bytes : List ℕ) (old new : Reader) (k n : ℕ) where
    tells_of : (lines : List (List ℕ)) → Answers spelling old new (Some head) (Some bytes) lines → Tells spelling old.board.subject head old.pass.floor new.pass.floor lines bytes
    tells_of lines a = record { marks = a.marks; each = a.gained.each; floor = a.gained.floor; count = a.count; text_is = a.text }

    all_told : (taken : List ℕ) → TakesUntil (Some script) (Some rest) true taken → length taken < 2 ^ 32 → All IsShort (lines_of taken) → Answers spelling old new (Some head) (Some bytes) (lines_of taken) → AreAll script (lines_of script) × Tells spelling old.board.subject head old.pass.floor new.pass.floor (lines_of script) bytes
    all_told taken takes few short answers =
        let whole = all_taken script taken rest takes.takes (takes.end refl) in
        (record { all = refl; few = subst (λ (t : List ℕ). length t < 2 ^ 32) whole few; short = subst (λ (t : List ℕ). All IsShort (lines_of t)) whole short }, subst (λ (t : List ℕ). Tells spelling old.board.subject head old.pass.floor new.pass.floor (lines_of t) bytes) whole (tells_of (lines_of taken) answers))

    too_many : (taken : List ℕ) → script ≡ taken ++ rest → length script ≤ 1048576 → length taken ≡ 2 ^ 32 → ⊥
    too_many taken is few many = omega (arith, ap length is, length-append taken rest, few, many)

    stop_told : (fault : SessionFault) → length script ≤ 1048576 → SessionStops spelling (Some script) (Some rest) 0 0 old new (Some head) (Some bytes) k n fault → TellsBy spelling {X = Unit {0}} old.board.subject script head old.pass.floor new.pass.floor (Err fault) bytes
    stop_told faults.ReadFault few (rose, w) = never 0 rose refl
    stop_told faults.LineTooLong few (w, long) = (
      whole_lines_of w.taken,
      record { taken = w.taken; rest = rest; front = w.takes; few = w.few; long = long; whole = refl; short = w.short },
      tells_of (whole_lines_of w.taken) w.answers,
    )
    stop_told faults.InputTooLong few (w, much) = too_many w.taken w.takes few much
    stop_told faults.WriteFault few stop = tt
    stop_told faults.NoMemory few stop = tt

    pub session_told : (r : Result (Unit {0}) SessionFault) → length script ≤ 1048576 → OnOk r ((taken : List ℕ) × TakesUntil (Some script) (Some rest) true taken × (length taken < 2 ^ 32) × All IsShort (lines_of taken) × Answers spelling old new (Some head) (Some bytes) (lines_of taken)) →
        IfErr r (λ fault. SessionStops spelling (Some script) (Some rest) 0 0 old new (Some head) (Some bytes) k n fault) → TellsBy spelling old.board.subject script head old.pass.floor new.pass.floor r bytes
    session_told (Ok x) few all stops = all_told all.0 all.1 all.2 all.3 all.4
    session_told (Err fault) few all stops = stop_told fault few stops

  -- by the bytes that the input and the output had
  pub held_over : {X : Type 0} (s : Subject) (script given head told : List ℕ) → given ≡ script → told ≡ head → (start end : ℕ) (r : Result X SessionFault) (bytes : List ℕ) → TellsBy spelling s given told start end r bytes → TellsBy spelling s script head start end r bytes
  held_over s script given head told same_script same_head start end r bytes t = subst (λ (l : List ℕ). TellsBy spelling s script l start end r bytes) same_head (subst (λ (l : List ℕ). TellsBy spelling s l told start end r bytes) same_script t)

  module _ (board : Lock Subject) (script : List ℕ) where
    -- of a session that was held on the same board
    held_on : (other : Lock Subject) → other ≡ board → (head : List ℕ) (start end : ℕ) (x : _) → IsHeld spelling other.subject script head start end x → IsHeld spelling board.subject script head start end x
    held_on other is head start end x held = subst (λ (b : Lock Subject). IsHeld spelling b.subject script head start end x) is held

    -- behind the first round
    pub first_held : (floor : ℕ) → IsReachable initial floor → (old new : List Runner) → All (IsFresh board floor) old → AllAnswered spelling During script old new → EachAt (WasHeld spelling board script) new
    first_held floor reached old new fresh all i d lt =
        let within : i < length old = omega (arith, lt, all.count) in
        let was = All-get_or (IsFresh board floor) old i d within fresh in
        let a = all.each i d within in
        record {
          board_is = a.board ∙ was.board_is;
          start = (get_or old i d).reader.pass.floor;
          started = subst (IsReachable initial) (sym was.floor_is) reached;
          end = (get_or new i d).reader.pass.floor;
          held = held_on (get_or old i d).reader.board was.board_is (head_of During i) (get_or old i d).reader.pass.floor (get_or new i d).reader.pass.floor (get_or new i d).during a.held;
          reach = same;
        }

    -- their boards are this one
    pub boards : (rs : List Runner) → EachAt (WasHeld spelling board script) rs → All (λ r. r.reader.board ≡ board) rs
    boards rs held i d lt = (held i d lt).board_is

    -- behind the second, to which they were told of a pass
    pub second_held : (floor : ℕ) (first told new : List Runner) → EachAt (WasHeld spelling board script) first → AllTold floor first told → AllAnswered spelling After script told new → EachAt (WasHeldTwice spelling board script floor) new
    second_held floor first told new held tells all i d lt =
        let within : i < length told = omega (arith, lt, all.count) in
        let before : i < length first = omega (arith, within, tells.count) in
        let was = held i d before in
        let t = tells.each i d before in
        let a = all.each i d within in
        record {
          start = was.start;
          started = was.started;
          end = was.end;
          first = subst (λ x. IsHeld spelling board.subject script (head_of During i) was.start was.end x) (sym (a.keeps ∙ t.during)) was.held;
          next = (get_or told i d).reader.pass.floor;
          reach = on was.end (get_or first i d).reader.pass.floor (get_or told i d).reader.pass.floor was.reach t.reach;
          told = t.told;
          second = held_on (get_or told i d).reader.board (t.board ∙ was.board_is) (head_of After i) (get_or told i d).reader.pass.floor (get_or new i d).reader.pass.floor (get_or new i d).after a.held;
        }
