-- Published parts are what the file means, kept ones stay so, and replies by them are those of the file.
use Rattle.std.proofs.Common.{◌≡◌, ◌<◌, ◌≤◌, ℕ, true, List, Option, Some, None, Result, Ok, Err, IsSome, refl, ap, sym, subst, ◌∙◌, arith, ⊎_elim}
use Rattle.std.specs.Prelude.{option_map, is_some, IfSome, IsSomeAnd, IsOkAnd, OnOk}
use Rattle.std.specs.Option.{option_or}
use Rattle.std.proofs.lemmas.Bool.{or_cases, lt-ltb, le-ltb, lt-leb, le-leb}
use mathlib.Core.Logic.{dite}
use native.Mathlib.Decide.{dec_lt}
use Rattle.ix_base.specs.declared.fault.Fault.{Fault}
use Rattle.index_model.specs.declared.answer.Main.{Main as MainOf}
use Rattle.index_model.specs.declared.entry.Entry.{Entry}
use Rattle.index_model.specs.declared.job.Job.TheVariants.{Main, Merge, Write}
use Rattle.index_model.specs.Answers.{Answer, Entries, InUnit, MainIs, CacheIs, Reply, Answered, Pending, Refused, Stopped, places, is_named, is_simply_named, entries_in, answer_to, reply_of, reply_at}
use Rattle.index_model.specs.Cache.{Cache, cache_in, size_of, size_in}
use Rattle.index_model.specs.Faults.{Built, built_of, first_fault}
use Rattle.index_model.specs.LawsCore.{StateIsRight, plan_of}
use Rattle.index_model.specs.Machine.{State, Output, End, Going, Refused as EndRefused, Stopped as EndStopped, Row, level, stage}
use Rattle.index_model.specs.MainProgram.{main_of}
use Rattle.index_model.specs.Meaning.{wrong_in}
use Rattle.index_model.specs.Outputs.{Subject, Summary, Made, SummaryOf, TableOf, CacheOf, Makes}
use Rattle.index_model.specs.Parts.{Parts, parts, answer_by, reply_by}
use Rattle.index_model.specs.Pieces.{IsPieces}
use Rattle.index_model.specs.Queries.{Query, AskName, AskSimple, AskAddress, AskMain, AskCache, need_of}
use Rattle.index_model.specs.Ranges.{unit_at}
use Rattle.index_model.specs.Stages.{IsReachable}
use Rattle.index_model.proofs.StageLaws.{order, last}
use Rattle.index_model.proofs.CoreRight.{no_fault, fault_is, at_built, need_low, need_high}
use Rattle.stage_core.specs.Machines.{Machine, FitsFile, stage_of}
use Rattle.index_board.specs.Kept.{AreOf, HasPublished, filled, answers}
use Rattle.index_board.specs.Marks.{file_reply, IsReady}
use Rattle.index_board.specs.Readers.{Reader}
use Rattle.index_board.proofs.Looks.{pending, answered, refused, stopped}

-- ---- options and results

module _ {A : Type 0} where
  some_is : (x y : A) → Some x ≡ Some y → x ≡ y
  some_is x y h = cc

  at_some : (o : Option A) (P : A → Type 0) (x : A) → IfSome o P → o ≡ Some x → P x
  at_some o P x h is = subst (λ (o : Option A). IfSome o P) is h

  is_there : (o : Option A) (P : A → Type 0) → IsSomeAnd o P → IsSome o
  is_there None P h = absurd h
  is_there (Some x) P h = refl

  -- where it is there from some level on alone
  if_there : (o : Option A) (P : A → Type 0) (n k : ℕ) → (k ≤ n → IsSomeAnd o P) → (n < k → o ≡ None) → IfSome o P
  if_there None P n k there absent = tt
  if_there (Some x) P n k there absent = dite (dec_lt n k)
      (λ (lt : n < k). let e : Some x ≡ None = absent lt in absurd cc)
      (λ (no : ¬ (n < k)). there (omega arith))

  either : (o p : Option A) (P : A → Type 0) → IfSome o P → IfSome p P → IfSome (option_or o p) P
  either None p P h k = k
  either (Some x) p P h k = h

  second_there : (o p : Option A) → IsSome p → IsSome (option_or o p)
  second_there None p h = h
  second_there (Some x) p h = refl

  ok_of : (r : Result A Fault) (P : A → Type 0) → IsOkAnd r P → (x : A) × (r ≡ Ok x)
  ok_of (Ok x) P h = (x, refl)
  ok_of (Err f) P h = absurd h

  not_both : (r : Result A Fault) (x : A) → r ≡ Ok x → IsSome (wrong_in r) → ⊥
  not_both (Ok y) x is some = absurd cc
  not_both (Err f) x is some = absurd cc

module _ {A B : Type 0} (f : A → B) where
  mapped : (o : Option A) (y : B) → Some y ≡ option_map f o → (x : A) × (o ≡ Some x) × (y ≡ f x)
  mapped None y is = absurd cc
  mapped (Some x) y is = (x, refl, some_is y (f x) is)

  map_there : (o : Option A) → IsSome o → IsSome (option_map f o)
  map_there None some = absurd cc
  map_there (Some x) some = refl

-- ---- what is published

-- while the stage is at most 3, it is the level
low_stage : (plan : List Row) (closed : List (List Made)) (drawn : ℕ) (brought : List (Option (Output Made))) (end : End) → let t : State Made = record { closed = closed; drawn = drawn; brought = brought; end = end } in stage plan t ≤ 3 → level plan t ≡ stage plan t
low_stage plan closed drawn brought Going low = refl
low_stage plan closed drawn brought (EndRefused f) low = absurd (omega (arith, low))
low_stage plan closed drawn brought EndStopped low = absurd (omega (arith, low))

pub published_are_of : (s : Subject) (t : State Made) → StateIsRight s t → AreOf s (parts t)
published_are_of s t right =
    let p = parts t in
    let n = level (plan_of s) t in
    record {
      summary = if_there p.summary (λ m. Makes s Main (SummaryOf m)) n 1 right.parts.summary right.parts.no_summary;
      table = if_there p.table (λ es. Makes s Merge (TableOf es)) n 2 right.parts.table right.parts.no_table;
      cache = if_there p.cache (λ c. Makes s Write (CacheOf c)) n 3 right.parts.cache right.parts.no_cache;
      fault = fault p.fault (stage (plan_of s) t) right.refused right.no_fault;
    }
  where
    fault : (o : Option Fault) (n : ℕ) → (n ≡ 4 → IsSomeAnd o (λ f. first_fault s.file ≡ Some f)) → ((n ≡ 4 → ⊥) → o ≡ None) → IfSome o (λ f. first_fault s.file ≡ Some f)
    fault None n there absent = tt
    fault (Some f) n there absent = dite (dec_lt n 4)
        (λ (lt : n < 4). let e : Some f ≡ None = absent (λ is. omega (arith, is)) in absurd cc)
        (λ (no : ¬ (n < 4)). dite (dec_lt 4 n)
        (λ (lt : 4 < n). let e : Some f ≡ None = absent (λ is. omega (arith, is)) in absurd cc)
        (λ (high : ¬ (4 < n)). there (omega arith)))

pub all_published : (s : Subject) (t : State Made) → StateIsRight s t → HasPublished (stage (plan_of s) t) (parts t)
all_published s t right =
    let p = parts t in
    let same = low_stage (plan_of s) t.closed t.drawn t.brought t.end in
    record {
      summary = λ some low. is_there p.summary (λ m. Makes s Main (SummaryOf m)) (right.parts.summary (omega (arith, some, same low)));
      table = λ some low. is_there p.table (λ es. Makes s Merge (TableOf es)) (right.parts.table (omega (arith, some, same low)));
      cache = λ is. is_there p.cache (λ c. Makes s Write (CacheOf c)) (right.parts.cache (omega (arith, is, same (omega (arith, is)))));
      fault = λ is. is_there p.fault (λ f. first_fault s.file ≡ Some f) (right.refused is);
    }

pub nothing_is_of : (s : Subject) → AreOf s (record { summary = None; table = None; cache = None; fault = None })
nothing_is_of s = record { summary = tt; table = tt; cache = tt; fault = tt }

pub filled_are_of : (s : Subject) (p q : Parts) → AreOf s p → AreOf s q → AreOf s (filled p q)
filled_are_of s p q h k = record {
  summary = either p.summary q.summary (λ m. Makes s Main (SummaryOf m)) h.summary k.summary;
  table = either p.table q.table (λ es. Makes s Merge (TableOf es)) h.table k.table;
  cache = either p.cache q.cache (λ c. Makes s Write (CacheOf c)) h.cache k.cache;
  fault = either p.fault q.fault (λ f. first_fault s.file ≡ Some f) h.fault k.fault;
}

pub filled_published : (n : ℕ) (p q : Parts) → HasPublished n q → HasPublished n (filled p q)
filled_published n p q h = record {
  summary = λ some low. second_there p.summary q.summary (h.summary some low);
  table = λ some low. second_there p.table q.table (h.table some low);
  cache = λ is. second_there p.cache q.cache (h.cache is);
  fault = λ is. second_there p.fault q.fault (h.fault is);
}

-- ---- where there is a reply by the parts

-- a stage is below the need, 1 to 3, 4, or lt-leb
by_stage : {R : Type 0} (q : Query) (n : ℕ) → (n < need_of q → R) → (need_of q ≤ n → n ≤ 3 → R) → (n ≡ 4 → R) → (4 < n → R) → R
by_stage q n below answers refuses stops = dite (dec_lt n (need_of q)) below
    (λ (no : ¬ (n < need_of q)). dite (dec_lt 3 n)
    (λ (high : 3 < n). dite (dec_lt 4 n) stops (λ (least : ¬ (4 < n)). refuses (omega arith)))
    (λ (low : ¬ (3 < n)). answers (omega arith) (omega arith)))

module _ (p : Parts) (q : Query) (n : ℕ) where
  there : (o : Option Reply) → o ≡ reply_by p q n → IsSome o → IsSome (reply_by p q n)
  there o is some = subst (λ (o : Option Reply). IsSome o) is some

  answer_there : need_of q ≤ n → n ≤ 3 → IsSome (answer_by p q) → IsSome (reply_by p q n)
  answer_there need low some = there (option_map Answered (answer_by p q)) (answered p q n need low (answer_by p q) refl) (map_there Answered (answer_by p q) some)

  fault_there : n ≡ 4 → IsSome p.fault → IsSome (reply_by p q n)
  fault_there is some = there (option_map Refused p.fault) (refused p q n (omega (arith, is, need_high q)) is) (map_there Refused p.fault some)

  stop_there : 4 < n → IsSome (reply_by p q n)
  stop_there lt = there (Some Stopped) (stopped p q n (omega (arith, lt, need_high q)) lt) refl

  pending_there : n < need_of q → IsSome (reply_by p q n)
  pending_there lt = there (Some Pending) (pending p q n lt) refl

-- the part that a query needs is among those that are published
has_answer : (n : ℕ) (p : Parts) (q : Query) → HasPublished n p → need_of q ≤ n → n ≤ 3 → IsSome (answer_by p q)
has_answer n p (AskName name) h need low = map_there _ p.table (h.table need low)
has_answer n p (AskSimple name) h need low = map_there _ p.table (h.table need low)
has_answer n p (AskAddress a) h need low = map_there _ p.summary (h.summary need low)
has_answer n p AskMain h need low = map_there _ p.summary (h.summary need low)
has_answer n p AskCache h need low = map_there _ p.cache (h.cache (omega (arith, need, low)))

pub published_reply : (p : Parts) (q : Query) (n : ℕ) → HasPublished n p → IsSome (reply_by p q n)
published_reply p q n h = by_stage q n (pending_there p q n) (λ need low. answer_there p q n need low (has_answer n p q h need low)) (λ is. fault_there p q n is (h.fault is)) (stop_there p q n)

-- at any later stage too, where no more is needed than is published
pub later_reply : (p : Parts) (q : Query) (m n : ℕ) → HasPublished m p → need_of q ≤ m → IsReachable m n → IsSome (reply_by p q n)
later_reply p q m n h need reach =
    let leads = (order m n).0 reach in
    let le = leads.0 in
    dite (dec_lt 3 m)
    (λ (high : 3 < m). let same : n ≡ m = last m n (omega arith) reach in subst (λ (k : ℕ). IsSome (reply_by p q k)) (sym same) (published_reply p q m h))
    (λ (low : ¬ (3 < m)). dite (dec_lt m n)
    (λ (lt : m < n). let on = leads.1 lt in by_stage q n (pending_there p q n) (λ need' low'. answer_there p q n need' low' (has_answer m p q h need (omega arith))) (λ is. absurd (omega (arith, on.2 is, need, need_low q))) (stop_there p q n))
    (λ (no : ¬ (m < n)). let same : n ≡ m = omega arith in subst (λ (k : ℕ). IsSome (reply_by p q k)) (sym same) (published_reply p q m h)))

-- ---- replies by kept parts

module _ (s : Subject) where
  -- a file whose parts are kept has no fault
  built_by : (p : Parts) (q : Query) → AreOf s p → IsSome (answer_by p q) → (b : Built) × (built_of s.file ≡ Ok b)
  built_by p (AskName name) h some = by_table p.table h.table some
    where
      by_table : (o : Option (List Entry)) → IfSome o (λ es. Makes s Merge (TableOf es)) → IsSome (option_map (λ (es : List Entry). Entries es (places (is_named name) es)) o) → (b : Built) × (built_of s.file ≡ Ok b)
      by_table None h some = absurd cc
      by_table (Some es) h some = ok_of (built_of s.file) _ h
  built_by p (AskSimple name) h some = by_table p.table h.table some
    where
      by_table : (o : Option (List Entry)) → IfSome o (λ es. Makes s Merge (TableOf es)) → IsSome (option_map (λ (es : List Entry). Entries es (places (is_simply_named name) es)) o) → (b : Built) × (built_of s.file ≡ Ok b)
      by_table None h some = absurd cc
      by_table (Some es) h some = ok_of (built_of s.file) _ h
  built_by p (AskAddress a) h some = by_summary p.summary h.summary some
    where
      by_summary : (o : Option Summary) → IfSome o (λ m. Makes s Main (SummaryOf m)) → IsSome (option_map (λ (m : Summary). InUnit (unit_at m.map a)) o) → (b : Built) × (built_of s.file ≡ Ok b)
      by_summary None h some = absurd cc
      by_summary (Some m) h some = ok_of (built_of s.file) _ h
  built_by p AskMain h some = by_summary p.summary h.summary some
    where
      by_summary : (o : Option Summary) → IfSome o (λ m. Makes s Main (SummaryOf m)) → IsSome (option_map (λ (m : Summary). MainIs m.main) o) → (b : Built) × (built_of s.file ≡ Ok b)
      by_summary None h some = absurd cc
      by_summary (Some m) h some = ok_of (built_of s.file) _ h
  built_by p AskCache h some = by_cache p.cache h.cache some
    where
      by_cache : (o : Option Cache) → IfSome o (λ c. Makes s Write (CacheOf c)) → IsSome (option_map (λ (c : Cache). CacheIs (size_of c)) o) → (b : Built) × (built_of s.file ≡ Ok b)
      by_cache None h some = absurd cc
      by_cache (Some c) h some = ok_of (built_of s.file) _ h

  module _ (b : Built) (is : built_of s.file ≡ Ok b) where
    by_part : {X : Type 0} (o : Option X) (P : X → Type 0) (f : X → Answer) (goal : Answer) → IfSome o P → ((x : X) → P x → f x ≡ goal) → (a : Answer) → option_map f o ≡ Some a → a ≡ goal
    by_part None P f goal some gives a is = absurd cc
    by_part (Some x) P f goal some gives a is = sym (some_is (f x) a is) ∙ gives x some

    answers_as : (p : Parts) (q : Query) → AreOf s p → (a : Answer) → answer_by p q ≡ Some a → a ≡ answer_to b (size_of (cache_in s.cache b)) q
    unfolding answer_to
    answers_as p (AskName name) h a e = by_part p.table (λ es. Makes s Merge (TableOf es)) _ _ h.table (λ es k. ap (λ (es : List Entry). Entries es (places (is_named name) es)) (at_built s b is (λ b. es ≡ entries_in b) k)) a e
    answers_as p (AskSimple name) h a e = by_part p.table (λ es. Makes s Merge (TableOf es)) _ _ h.table (λ es k. ap (λ (es : List Entry). Entries es (places (is_simply_named name) es)) (at_built s b is (λ b. es ≡ entries_in b) k)) a e
    answers_as p (AskAddress at) h a e = by_part p.summary (λ m. Makes s Main (SummaryOf m)) _ _ h.summary (λ m k. let here = at_built s b is (λ b. (m.main ≡ main_of b.program b.links) × IsPieces b.ranges m.map) k in ap (λ (u : Option ℕ). InUnit u) (here.1.same at)) a e
    answers_as p AskMain h a e = by_part p.summary (λ m. Makes s Main (SummaryOf m)) _ _ h.summary (λ m k. let here = at_built s b is (λ b. (m.main ≡ main_of b.program b.links) × IsPieces b.ranges m.map) k in ap (λ (m : Option MainOf). MainIs m) here.0) a e
    answers_as p AskCache h a e = by_part p.cache (λ c. Makes s Write (CacheOf c)) _ _ h.cache (λ c k. ap (λ (c : Cache). CacheIs (size_of c)) (at_built s b is (λ b. c ≡ cache_in s.cache b) k)) a e

-- ---- the file's replies

module _ (s : Subject) (q : Query) (n : ℕ) where
  file_pending : n < need_of q → file_reply s q n ≡ Pending
  unfolding reply_at
  file_pending lt = rw (lt-ltb n (need_of q) lt) refl

  file_answered : (b : Built) → built_of s.file ≡ Ok b → need_of q ≤ n → n ≤ 3 → file_reply s q n ≡ Answered (answer_to b (size_of (cache_in s.cache b)) q)
  unfolding reply_at size_in
  file_answered b is need low = rw (le-ltb n (need_of q) need, le-leb n 4 (omega (arith, low))) (ap (λ (r : Result Built Fault). reply_of r (size_in s.cache r) q) is)

  file_refused : (f : Fault) → built_of s.file ≡ Err f → n ≡ 4 → file_reply s q n ≡ Refused f
  unfolding reply_at size_in
  file_refused f is four = rw (le-ltb n (need_of q) (omega (arith, four, need_high q)), le-leb n 4 (omega (arith, four))) (ap (λ (r : Result Built Fault). reply_of r (size_in s.cache r) q) is)

  file_stopped : 4 < n → file_reply s q n ≡ Stopped
  unfolding reply_at
  file_stopped lt = rw (le-ltb n (need_of q) (omega (arith, lt, need_high q)), lt-leb n 4 lt) refl

-- a reply by kept parts is that of the file
pub kept_replies : (s : Subject) (p : Parts) (q : Query) (n : ℕ) → AreOf s p → FitsFile s n → (r : Reply) → Some r ≡ reply_by p q n → r ≡ file_reply s q n
kept_replies s p q n h fits r is = by_stage q n
    (λ lt. some_is r Pending (is ∙ sym (pending p q n lt)) ∙ sym (file_pending s q n lt))
    (λ need low.
    let built = no_fault (built_of s.file) (fits.accepted (omega (arith, need, need_low q)) low) in
    let found = mapped Answered (answer_by p q) r (is ∙ sym (answered p q n need low (answer_by p q) refl)) in
    found.2 ∙ (ap (λ (a : Answer). Answered a) (answers_as s built.0 built.1 p q h found.0 found.1) ∙ sym (file_answered s q n built.0 built.1 need low)))
    (λ four.
    let found = mapped Refused p.fault r (is ∙ sym (refused p q n (omega (arith, four, need_high q)) four)) in
    let first : first_fault s.file ≡ Some found.0 = at_some p.fault (λ f. first_fault s.file ≡ Some f) found.0 h.fault found.1 in
    found.2 ∙ sym (file_refused s q n found.0 (fault_is (built_of s.file) found.0 first) four))
    (λ lt. some_is r Stopped (is ∙ sym (stopped p q n (omega (arith, lt, need_high q)) lt)) ∙ sym (file_stopped s q n lt))

-- where kept parts answer a query, they have a reply at each stage that fits the file
pub kept_reply : (s : Subject) (p : Parts) (q : Query) (n : ℕ) → AreOf s p → FitsFile s n → answers p q ≡ true → IsSome (reply_by p q n)
kept_reply s p q n h fits some = ⊎_elim by_fault by_answer (or_cases (is_some p.fault) (is_some (answer_by p q)) some)
  where
    first : (o : Option Fault) → IfSome o (λ f. first_fault s.file ≡ Some f) → IsSome o → IsSome (first_fault s.file)
    first None k some = absurd cc
    first (Some f) k some = rw k refl

    by_fault : is_some p.fault ≡ true → IsSome (reply_by p q n)
    by_fault there = by_stage q n (pending_there p q n)
        (λ need low. let built = no_fault (built_of s.file) (fits.accepted (omega (arith, need, need_low q)) low) in absurd (not_both (built_of s.file) built.0 built.1 (first p.fault h.fault there)))
        (λ four. fault_there p q n four there) (stop_there p q n)

    by_answer : is_some (answer_by p q) ≡ true → IsSome (reply_by p q n)
    by_answer there = by_stage q n (pending_there p q n) (λ need low. answer_there p q n need low there)
        (λ four. let built = built_by s p q h there in absurd (not_both (built_of s.file) built.0 built.1 (fits.refused four))) (stop_there p q n)

-- ---- parts that are fetched

module _ (s : Subject) (m : Machine) (p q r : Parts) (right : StateIsRight m.subject m.state) (is : q ≡ parts m.state) (fills : r ≡ filled p q) where
  pub fetched_are_of : m.subject ≡ s → AreOf s p → AreOf s r
  fetched_are_of same are =
      let of_state : AreOf m.subject q = subst (λ (x : Parts). AreOf m.subject x) (sym is) (published_are_of m.subject m.state right) in
      subst (λ (x : Parts). AreOf s x) (sym fills) (filled_are_of s p q are (subst (λ (u : Subject). AreOf u q) same of_state))

  pub fetched_published : (n : ℕ) → n ≡ stage_of m → HasPublished n r
  fetched_published n at =
      let of_state : HasPublished (stage_of m) q = subst (λ (x : Parts). HasPublished (stage_of m) x) (sym is) (all_published m.subject m.state right) in
      subst (λ (x : Parts). HasPublished n x) (sym fills) (filled_published n p q (subst (λ (k : ℕ). HasPublished k q) (sym at) of_state))

pub published_is_ready : (r : Reader) → HasPublished r.pass.floor r.kept → IsReady r
published_is_ready r h = record { parts = h; polls = λ q n need reach. later_reply r.kept q r.pass.floor n h need reach }

pub on_ok : {A E P Q : Type 0} (r : Result A E) → (P → Q) → OnOk r P → OnOk r Q
on_ok (Ok x) f h = f h
on_ok (Err e) f h = tt
