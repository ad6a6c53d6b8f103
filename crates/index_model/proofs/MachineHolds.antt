-- What the machine keeps over every list of events.
use Rattle.std.proofs.Common.{◌≡◌, ℕ, zero, suc, ◌+◌, ◌<◌, ◌≤◌, Bool, true, false, ◌&&◌, ◌||◌, cond, eqb, ltb, List, [], ◌∷◌, ◌++◌, length, filter_map, replicate, Option, Some, None, IsSome, refl, ap, sym, subst, ◌∙◌, arith}
use Rattle.std.specs.Prelude.{slice_get, slice_set, is_none}
use Rattle.std.specs.List.{list_any}
use Rattle.std.proofs.lemmas.Bool.{eqb-true, and_parts}
use Rattle.ix_base.specs.declared.fault.Fault.{Fault}
use Rattle.ix_base.specs.Reading.{◌>>=◌ as ◌>>=?◌}
use Rattle.index_model.specs.Machine.{JobPlace, place_of_job, Row, State, Output, Memory, Faulty, Gave, End, Going, Refused, Stopped, jobs_at, plan_for, stage, machine_start}
use Rattle.index_model.specs.MachineEvents.{Event, Draw, Finish, Look, after_events, after_draw, after_finish, has_next, is_running, is_open, is_memory, settled, closing, least_fault, with_output, made_in}
use Rattle.index_model.proofs.MachineParts.{IsOutputAt, fault_of_kind, fault_from, AllMeetAt, Holds}
use Rattle.index_model.proofs.MachineOnce.{open_not_done}

abbrev pub job_at : ℕ → ℕ → JobPlace
job_at place number = record { kind = place; number = number }

module _ {Made : Type 0} (fault_at : JobPlace → Option Fault) (Makes : JobPlace → Made → Type 0) where
  -- n jobs of a kind, from a number on, made these
  abbrev pub AllMade : ℕ → ℕ → ℕ → List Made → Type 0
  AllMade place k zero [] = Unit {0}
  AllMade place k zero (m ∷ ms) = ⊥
  AllMade place k (suc n) [] = ⊥
  AllMade place k (suc n) (m ∷ ms) = (fault_at (job_at place k) ≡ None) × Makes (job_at place k) m × AllMade place (suc k) n ms

  -- the kinds from a place on made these
  abbrev pub Closed : ℕ → List Row → List (List Made) → Type 0
  Closed place rows [] = Unit {0}
  Closed place [] (ms ∷ mss) = ⊥
  Closed place (row ∷ rows) (ms ∷ mss) = AllMade place 0 row.jobs ms × Closed (suc place) rows mss

  -- an output other than Memory
  abbrev pub IsPart : JobPlace → Output Made → Type 0
  IsPart job Memory = ⊥
  IsPart job (Faulty f) = fault_at job ≡ Some f
  IsPart job (Gave m) = (fault_at job ≡ None) × Makes job m

  -- n jobs of the open kind, from a number on, brought these so far
  abbrev pub Brought : ℕ → ℕ → ℕ → List (Option (Output Made)) → Type 0
  Brought place k zero [] = Unit {0}
  Brought place k zero (b ∷ bs) = ⊥
  Brought place k (suc n) [] = ⊥
  Brought place k (suc n) (None ∷ bs) = Brought place (suc k) n bs
  Brought place k (suc n) (Some o ∷ bs) = IsPart (job_at place k) o × Brought place (suc k) n bs

  -- ---- lists

  none_yet : (place k n : ℕ) → Brought place k n (replicate n None)
  none_yet place k zero = tt
  none_yet place k (suc n) = none_yet place (suc k) n

  pub one_more : (place k n i j : ℕ) (bs : List (Option (Output Made))) (o : Output Made) → Brought place k n bs → slice_get bs i ≡ Some None → j ≡ k + i → IsPart (job_at place j) o → Brought place k n (slice_set bs i (Some o))
  one_more place k n i j [] o b at e is = absurd cc
  one_more place k zero i j (x ∷ bs) o b at e is = absurd b
  one_more place k (suc n) zero j (None ∷ bs) o b at e is = (subst (λ (j : ℕ). IsPart (job_at place j) o) (e ∙ omega arith) is, b)
  one_more place k (suc n) zero j (Some p ∷ bs) o b at e is = absurd cc
  one_more place k (suc n) (suc i) j (None ∷ bs) o b at e is = one_more place (suc k) n i j bs o b at (omega (arith, e)) is
  one_more place k (suc n) (suc i) j (Some p ∷ bs) o b at e is = (b.0, one_more place (suc k) n i j bs o b.1 at (omega (arith, e)) is)

  all_made : (place k n : ℕ) (bs : List (Option (Output Made))) → Brought place k n bs → list_any is_none bs ≡ false → least_fault bs ≡ None → AllMade place k n (filter_map made_in bs)
  all_made place k zero [] b some ok = tt
  all_made place k zero (x ∷ bs) b some ok = absurd b
  all_made place k (suc n) [] b some ok = absurd b
  all_made place k (suc n) (None ∷ bs) b some ok = absurd cc
  all_made place k (suc n) (Some Memory ∷ bs) b some ok = absurd b.0
  all_made place k (suc n) (Some (Faulty f) ∷ bs) b some ok = absurd cc
  all_made place k (suc n) (Some (Gave m) ∷ bs) b some ok = (b.0.0, b.0.1, all_made place (suc k) n bs b.1 some ok)

  pub least_is_first : (place k n : ℕ) (bs : List (Option (Output Made))) (f : Fault) → Brought place k n bs → list_any is_none bs ≡ false → least_fault bs ≡ Some f → fault_of_kind fault_at place k n ≡ Some f
  unfolding fault_of_kind
  least_is_first place k zero [] f b some is = absurd cc
  least_is_first place k zero (x ∷ bs) f b some is = absurd b
  least_is_first place k (suc n) [] f b some is = absurd b
  least_is_first place k (suc n) (None ∷ bs) f b some is = absurd cc
  least_is_first place k (suc n) (Some Memory ∷ bs) f b some is = absurd b.0
  least_is_first place k (suc n) (Some (Faulty g) ∷ bs) f b some is = rw b.0 is
  least_is_first place k (suc n) (Some (Gave m) ∷ bs) f b some is = rw b.0.0 (least_is_first place (suc k) n bs f b.1 some is)

  no_fault : (place k n : ℕ) (ms : List Made) → AllMade place k n ms → fault_of_kind fault_at place k n ≡ None
  unfolding fault_of_kind
  no_fault place k zero ms a = refl
  no_fault place k (suc n) [] a = absurd a
  no_fault place k (suc n) (m ∷ ms) a = rw a.0 (no_fault place (suc k) n ms a.2)

  first_is : (place p : ℕ) (rows : List Row) (mss : List (List Made)) (f : Fault) → Closed place rows mss → p ≡ place + length mss → fault_of_kind fault_at p 0 (jobs_at rows (length mss)) ≡ Some f → fault_from fault_at place rows ≡ Some f
  unfolding fault_from fault_of_kind
  first_is place p [] [] f c e is = absurd cc
  first_is place p [] (ms ∷ mss) f c e is = absurd c
  first_is place p (row ∷ rows) [] f c e is =
      let here : fault_of_kind fault_at place 0 row.jobs ≡ Some f = ap (λ (p : ℕ). fault_of_kind fault_at p 0 row.jobs) (sym (e ∙ omega arith)) ∙ is in
      rw here refl
  first_is place p (row ∷ rows) (ms ∷ mss) f c e is = rw (no_fault place 0 row.jobs ms c.0) (first_is (suc place) p rows mss f c.1 (omega (arith, e)) is)

  closed_more : (place p : ℕ) (rows : List Row) (mss : List (List Made)) (ms : List Made) → 0 < jobs_at rows (length mss) → Closed place rows mss → p ≡ place + length mss → AllMade p 0 (jobs_at rows (length mss)) ms → Closed place rows (mss ++ ms ∷ [])
  closed_more place p [] [] ms some c e a = absurd (omega (arith, some))
  closed_more place p [] (ns ∷ mss) ms some c e a = absurd c
  closed_more place p (row ∷ rows) [] ms some c e a = (subst (λ (p : ℕ). AllMade p 0 row.jobs ms) (e ∙ omega arith) a, tt)
  closed_more place p (row ∷ rows) (ns ∷ mss) ms some c e a = (c.0, closed_more (suc place) p rows mss ms some c.1 (omega (arith, e)) a)

  pub jobs_there : (place k n i : ℕ) (bs : List (Option (Output Made))) → Brought place k n bs → slice_get bs i ≡ Some None → 0 < n
  jobs_there place k zero i [] b at = absurd cc
  jobs_there place k zero i (x ∷ bs) b at = absurd b
  jobs_there place k (suc n) i bs b at = omega arith

  -- ---- what is kept

  abbrev pub KeptAt : List Row → List (List Made) → List (Option (Output Made)) → End → Type 0
  KeptAt plan closed brought Going = Brought (length closed) 0 (jobs_at plan (length closed)) brought
  KeptAt plan closed brought (Refused f) = (fault_from fault_at 0 plan ≡ Some f) × ((i : ℕ) → is_open (slice_get brought i) ≡ false)
  KeptAt plan closed brought Stopped = Unit {0}

  pub record Kept (plan : List Row) (s : State Made) : Type 0 where
    pub closed : Closed 0 plan s.closed
    pub open_ : KeptAt plan s.closed s.brought s.end

  not_open : (bs : List (Option (Output Made))) (i : ℕ) → list_any is_none bs ≡ false → is_open (slice_get bs i) ≡ false
  not_open [] i e = refl
  not_open (None ∷ bs) i e = absurd cc
  not_open (Some o ∷ bs) zero e = refl
  not_open (Some o ∷ bs) (suc i) e = not_open bs i e

  module _ (plan : List Row) where
    kept_closing : (s : State Made) (least : Option Fault) → Closed 0 plan s.closed → Brought (length s.closed) 0 (jobs_at plan (length s.closed)) s.brought → 0 < jobs_at plan (length s.closed) → list_any is_none s.brought ≡ false → least_fault s.brought ≡ least → Kept plan (closing plan s least)
    kept_closing s (Some f) c b some whole is = record { closed = c; open_ = (first_is 0 (length s.closed) plan s.closed f c (omega arith) (least_is_first (length s.closed) 0 (jobs_at plan (length s.closed)) s.brought f b whole is), λ i. not_open s.brought i whole) }
    kept_closing s None c b some whole is =
        let made = filter_map made_in s.brought in
        let closed = s.closed ++ made ∷ [] in
        record { closed = closed_more 0 (length s.closed) plan s.closed made some c (omega arith) (all_made (length s.closed) 0 (jobs_at plan (length s.closed)) s.brought b whole is); open_ = none_yet (length closed) 0 (jobs_at plan (length closed)) }

    kept_settled : (closed : List (List Made)) (drawn : ℕ) (brought : List (Option (Output Made))) (memory : Bool) → Closed 0 plan closed → Brought (length closed) 0 (jobs_at plan (length closed)) brought → 0 < jobs_at plan (length closed) → Kept plan (settled plan (record { closed = closed; drawn = drawn; brought = brought; end = Going }) memory)
    kept_settled closed drawn brought true c b some = record { closed = c; open_ = tt }
    kept_settled closed drawn brought false c b some =
        let s : State Made = record { closed = closed; drawn = drawn; brought = brought; end = Going } in
        elim (list_any is_none brought) as (λ t. list_any is_none brought ≡ t → Kept plan (cond t s (closing plan s (least_fault brought)))) [
          | true ↦ λ _. record { closed = c; open_ = b }
          | false ↦ λ whole. kept_closing s (least_fault brought) c b some whole refl
        ] refl

    -- a job of the open kind brings an output
    kept_output : (closed : List (List Made)) (drawn : ℕ) (brought : List (Option (Output Made))) (end : End) (job : JobPlace) (output : Output Made) (refused : Bool) → Closed 0 plan closed → KeptAt plan closed brought end → job.kind ≡ length closed → slice_get brought job.number ≡ Some None → IsOutputAt fault_at Makes job output → Kept plan (settled plan (record { closed = closed; drawn = drawn; brought = slice_set brought job.number (Some output); end = end }) (is_memory output || refused))
    kept_output closed drawn brought Stopped job output refused c k kind at is = stopped (is_memory output || refused)
      where
        stopped : (memory : Bool) → Kept plan (settled plan (record { closed = closed; drawn = drawn; brought = slice_set brought job.number (Some output); end = Stopped }) memory)
        stopped true = record { closed = c; open_ = tt }
        stopped false = record { closed = c; open_ = tt }
    kept_output closed drawn brought (Refused f) job output refused c k kind at is = let e : is_open (slice_get brought job.number) ≡ true = ap is_open at in absurd (cc (k.1 job.number))
    kept_output closed drawn brought Going job Memory refused c k kind at is = record { closed = c; open_ = tt }
    kept_output closed drawn brought Going job (Faulty f) refused c k kind at is =
        let n = jobs_at plan (length closed) in
        kept_settled closed drawn (slice_set brought job.number (Some (Faulty f))) refused c (one_more (length closed) 0 n job.number job.number brought (Faulty f) k at (omega arith) (subst (λ (place : ℕ). fault_at (job_at place job.number) ≡ Some f) kind is)) (jobs_there (length closed) 0 n job.number brought k at)
    kept_output closed drawn brought Going job (Gave m) refused c k kind at is =
        let n = jobs_at plan (length closed) in
        kept_settled closed drawn (slice_set brought job.number (Some (Gave m))) refused c (one_more (length closed) 0 n job.number job.number brought (Gave m) k at (omega arith) (subst (λ (place : ℕ). (fault_at (job_at place job.number) ≡ None) × Makes (job_at place job.number) m) kind is)) (jobs_there (length closed) 0 n job.number brought k at)

    kept_finish : (s : State Made) (job : JobPlace) (output : Output Made) (refused : Bool) → Kept plan s → IsOutputAt fault_at Makes job output → Kept plan (after_finish plan s job output refused)
    kept_finish s job output refused k is = elim (is_running s job) as (λ t. is_running s job ≡ t → Kept plan (cond t (settled plan (with_output s job.number output) (is_memory output || refused)) s)) [
      | true ↦ λ running.
          let parts = and_parts (eqb job.kind (length s.closed) && ltb job.number s.drawn) (is_open (slice_get s.brought job.number)) running in
          let kind = and_parts (eqb job.kind (length s.closed)) (ltb job.number s.drawn) parts.0 in
          let at = open_not_done (slice_get s.brought job.number) parts.1 in
          kept_output s.closed s.drawn s.brought s.end job output refused k.closed k.open_ (eqb-true _ _ kind.0) at.1 is
      | false ↦ λ _. k
    ] refl

    kept_draw : (s : State Made) → Kept plan s → Kept plan (after_draw s)
    kept_draw s k = elim (has_next s) as (λ t. Kept plan (cond t (record s { drawn = suc s.drawn }) s)) [
      | true ↦ record { closed = k.closed; open_ = k.open_ }
      | false ↦ k
    ]

    module _ {Query : Type 0} where
      pub kept : (s : State Made) (es : List (Event Made Query)) → Kept plan s → AllMeetAt fault_at Makes es → Kept plan (after_events plan s es)
      unfolding after_events
      kept s [] k meet = k
      kept s (Draw actor ∷ es) k meet = kept (after_draw s) es (kept_draw s k) meet
      kept s (Finish actor job output refused ∷ es) k meet = kept (after_finish plan s (place_of_job job) output refused) es (kept_finish s (place_of_job job) output refused k meet.0) meet.1
      kept s (Look actor query ∷ es) k meet = kept s es k meet

  -- ---- what that says

  made_at : (place k n i j : ℕ) (ms : List Made) (m : Made) → AllMade place k n ms → slice_get ms i ≡ Some m → j ≡ k + i → (fault_at (job_at place j) ≡ None) × Makes (job_at place j) m
  made_at place k n i j [] m a at e = absurd cc
  made_at place k zero i j (x ∷ ms) m a at e = absurd a
  made_at place k (suc n) zero j (x ∷ ms) m a at e =
      let here : (fault_at (job_at place k) ≡ None) × Makes (job_at place k) x = (a.0, a.1) in
      let there : (fault_at (job_at place j) ≡ None) × Makes (job_at place j) x = subst (λ (j : ℕ). (fault_at (job_at place j) ≡ None) × Makes (job_at place j) x) (sym (e ∙ omega arith)) here in
      let same : x ≡ m = cc in
      (there.0, subst (λ (m : Made). Makes (job_at place j) m) same there.1)
  made_at place k (suc n) (suc i) j (x ∷ ms) m a at e = made_at place (suc k) n i j ms m a.2 at (omega (arith, e))

  closed_at : (place p i : ℕ) (rows : List Row) (mss : List (List Made)) (ms : List Made) → Closed place rows mss → slice_get mss i ≡ Some ms → p ≡ place + i → AllMade p 0 (jobs_at rows i) ms
  closed_at place p i rows [] ms c at e = absurd cc
  closed_at place p i [] (ns ∷ mss) ms c at e = absurd c
  closed_at place p zero (row ∷ rows) (ns ∷ mss) ms c at e =
      let same : ns ≡ ms = cc in
      subst (λ (ms : List Made). AllMade p 0 row.jobs ms) same (subst (λ (p : ℕ). AllMade p 0 row.jobs ns) (sym (e ∙ omega arith)) c.0)
  closed_at place p (suc i) (row ∷ rows) (ns ∷ mss) ms c at e = closed_at (suc place) p i rows mss ms c.1 at (omega (arith, e))

  there_in : (place k n i : ℕ) (ms : List Made) → AllMade place k n ms → i < n → IsSome (slice_get ms i)
  there_in place k zero i ms a lt = absurd (omega (arith, lt))
  there_in place k (suc n) i [] a lt = absurd a
  there_in place k (suc n) zero (m ∷ ms) a lt = refl
  there_in place k (suc n) (suc i) (m ∷ ms) a lt = there_in place (suc k) n i ms a.2 (omega (arith, lt))

  there : (place i number : ℕ) (rows : List Row) (mss : List (List Made)) → Closed place rows mss → i < length mss → number < jobs_at rows i → IsSome (slice_get mss i >>=? λ made. slice_get made number)
  there place i number rows [] c lt small = absurd (omega (arith, lt))
  there place i number [] (ms ∷ mss) c lt small = absurd c
  there place zero number (row ∷ rows) (ms ∷ mss) c lt small = there_in place 0 row.jobs number ms c.0 small
  there place (suc i) number (row ∷ rows) (ms ∷ mss) c lt small = there (suc place) i number rows mss c.1 (omega (arith, lt)) small

  found_in : (o : Option (List Made)) (number : ℕ) (m : Made) → (o >>=? λ made. slice_get made number) ≡ Some m → (ms : List Made) × (o ≡ Some ms) × (slice_get ms number ≡ Some m)
  found_in None number m e = absurd cc
  found_in (Some ms) number m e = (ms, refl, e)

  pub holds : (plan : List Row) (s : State Made) → Kept plan s → Holds fault_at Makes plan s
  holds plan s k = record {
    made = λ job m at. let f = found_in (slice_get s.closed job.kind) job.number m at in made_at job.kind 0 (jobs_at plan job.kind) job.number job.number f.0 m (closed_at 0 job.kind job.kind plan s.closed f.0 k.closed f.1 (omega arith)) f.2 (omega arith);
    whole = λ place number lt small. there 0 place number plan s.closed k.closed lt small;
    refused = λ f is. (subst (λ (end : End). KeptAt plan s.closed s.brought end) is k.open_).0;
  }

  pub kept_start : (plan : List Row) → Kept plan (machine_start plan)
  kept_start plan = record { closed = tt; open_ = none_yet 0 0 (jobs_at plan 0) }

  -- ---- the stages of an accepted file

  pub late : (place k n : ℕ) → ((job : JobPlace) → 2 < job.kind → fault_at job ≡ None) → 2 < place → fault_of_kind fault_at place k n ≡ None
  unfolding fault_of_kind
  late place k zero none lt = refl
  late place k (suc n) none lt = rw (none (job_at place k) lt) (late place (suc k) n none lt)

  pub from_closed : (runs : ℕ) (closed : List (List Made)) (drawn : ℕ) (brought : List (Option (Output Made))) (end : End) → Closed 0 (plan_for runs) closed → ((job : JobPlace) → 2 < job.kind → fault_at job ≡ None) → 1 ≤ stage (plan_for runs) (record { closed = closed; drawn = drawn; brought = brought; end = end }) → stage (plan_for runs) (record { closed = closed; drawn = drawn; brought = brought; end = end }) ≤ 3 → fault_from fault_at 0 (plan_for runs) ≡ None
  unfolding fault_from
  from_closed runs closed drawn brought (Refused f) c none low high = absurd (omega (arith, high))
  from_closed runs closed drawn brought Stopped c none low high = absurd (omega (arith, high))
  from_closed runs [] drawn brought Going c none low high = absurd (omega (arith, low))
  from_closed runs (a ∷ []) drawn brought Going c none low high = absurd (omega (arith, low))
  from_closed runs (a ∷ b ∷ []) drawn brought Going c none low high = absurd (omega (arith, low))
  from_closed runs (a ∷ b ∷ d ∷ rest) drawn brought Going c none low high =
      rw (no_fault 0 0 runs a c.0, no_fault 1 0 runs b c.1.0, no_fault 2 0 1 d c.1.1.0, late 3 0 runs none (omega arith), late 4 0 1 none (omega arith), late 5 0 1 none (omega arith)) refl
