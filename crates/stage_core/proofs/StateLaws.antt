-- What is drawn next, and what jobs are given.
use Rattle.std.proofs.Common.{◌≡◌, ◌<◌, ℕ, zero, suc, Bool, true, false, ◌&&◌, cond, ltb, eqb, List, [], ◌∷◌, length, Option, Some, None, IsSome, option_map, refl, ap, arith, add-zero}
use Rattle.std.specs.Prelude.{slice_get, is_none}
use Rattle.std.specs.List.{list_any}
use Rattle.std.proofs.lemmas.Bool.{ltb-true, and_parts}
use Rattle.ix_base.specs.declared.fault.Fault.{Fault}
use Rattle.ix_base.specs.Reading.{◌>>=◌ as ◌>>=?◌}
use Rattle.index_model.specs.declared.job.Job.{Job}
use Rattle.index_model.specs.declared.job.Job.TheVariants.{Scan, Link, Main, Name, Merge, Write}
use Rattle.index_model.specs.Machine.{Row, JobPlace, job_at, jobs_at, Output, State, End, Going, Stopped, Refused, is_going, is_stopped}
use Rattle.index_model.specs.MachineEvents.{has_next, next_job, after_draw, is_running, is_open}
use Rattle.index_model.specs.Outputs.{Subject, Made}
use Rattle.index_model.proofs.MachineOnce.{open_not_done}
use Rattle.stage_core.specs.Inputs.{handed}
use Rattle.stage_core.specs.declared.stock.Stock.{Stock}
use Rattle.stage_core.specs.declared.stock.Stock.TheVariants as stocks
use Rattle.stage_core.specs.Build.{drawn_on, IsStock}

-- ---- what is drawn next

pub no_more_drawn : (t : State Made) → drawn_on t 0 ≡ t
no_more_drawn t = ap (λ (d : ℕ). record t { drawn = d }) (add-zero t.drawn)

row_there : (plan : List Row) (place : JobPlace) → 0 < jobs_at plan place.kind → IsSome (job_at plan place)
row_there plan place some = by plan place.kind some
  where
    by : (plan : List Row) (kind : ℕ) → 0 < jobs_at plan kind → IsSome (option_map (λ row. row.job place.number) (slice_get plan kind))
    by [] kind some = absurd (omega (arith, some))
    by (row ∷ rows) zero some = refl
    by (row ∷ rows) (suc kind) some = by rows kind some

module _ {A : Type 0} (f : Job → A) (plan : List Row) where
  pub next_is_some : (t : State Made) (x : A) → option_map f (next_job plan t) ≡ Some x → has_next t ≡ true
  next_is_some t x e = by (has_next t) (record { kind = length t.closed; number = t.drawn }) e
    where
      by : (b : Bool) (place : JobPlace) → option_map f (cond b (Some place) None >>=? job_at plan) ≡ Some x → b ≡ true
      by true place e = refl
      by false place e = absurd cc

  pub next_is_none : (t : State Made) → (is_going t.end ≡ true → length t.brought ≡ jobs_at plan (length t.closed)) → option_map f (next_job plan t) ≡ None → has_next t ≡ false
  next_is_none t slots e = by (has_next t) refl e
    where
      there : (o : Option Job) → IsSome o → option_map f o ≡ None → ⊥
      there None some e = absurd cc
      there (Some job) some e = absurd cc

      by : (b : Bool) → has_next t ≡ b → option_map f (cond b (Some (record { kind = length t.closed; number = t.drawn })) None >>=? job_at plan) ≡ None → b ≡ false
      by false is e = refl
      by true is e =
          let parts = and_parts (is_going t.end) (ltb t.drawn (length t.brought)) is in
          let lt : t.drawn < length t.brought = ltb-true t.drawn (length t.brought) parts.1 in
          absurd (there (job_at plan (record { kind = length t.closed; number = t.drawn })) (row_there plan (record { kind = length t.closed; number = t.drawn }) (omega (arith, lt, slots parts.0))) e)

pub next_within : (t : State Made) → has_next t ≡ true → t.drawn < length t.brought
next_within t e = ltb-true t.drawn (length t.brought) (and_parts (is_going t.end) (ltb t.drawn (length t.brought)) e).1

pub draws : (t : State Made) → has_next t ≡ true → record t { drawn = suc t.drawn } ≡ after_draw t
draws t e = rw e refl

pub draws_nothing : (t : State Made) → has_next t ≡ false → t ≡ after_draw t
draws_nothing t e = rw e refl

-- ---- inputs

-- what a job is given doesn't depend on how far the open kind is
pub same_input : (s : Subject) (t : State Made) (drawn : ℕ) (brought : List (Option (Output Made))) (job : Job) → handed s (record t { drawn = drawn; brought = brought }) job ≡ handed s t job
same_input s t drawn brought (Scan k) = refl
same_input s t drawn brought (Link k) = refl
same_input s t drawn brought Main = refl
same_input s t drawn brought (Name k) = refl
same_input s t drawn brought Merge = refl
same_input s t drawn brought Write = refl

pub all_same : {A B : Type 0} (f g : A → B) → ((x : A) → f x ≡ g x) → (o : Option A) → option_map f o ≡ option_map g o
all_same f g same None = refl
all_same f g same (Some x) = ap Some (same x)

-- ---- a job that runs

any_none : {A : Type 0} (xs : List (Option A)) (i : ℕ) → slice_get xs i ≡ Some None → list_any is_none xs ≡ true
any_none [] i e = absurd cc
any_none (None ∷ xs) i e = refl
any_none (Some x ∷ xs) zero e = absurd cc
any_none (Some x ∷ xs) (suc i) e = any_none xs i e

-- a job that runs has a slot, and isn't finished
pub record Runs (t : State Made) (place : JobPlace) : Type 0 where
  pub slot : slice_get t.brought place.number ≡ Some None
  pub unfinished : list_any is_none t.brought ≡ true

pub runs : (t : State Made) (place : JobPlace) → is_running t place ≡ true → Runs t place
runs t place running =
    let parts = and_parts (eqb place.kind (length t.closed) && ltb place.number t.drawn) (is_open (slice_get t.brought place.number)) running in
    let at = (open_not_done (slice_get t.brought place.number) parts.1).1 in
    record { slot = at; unfinished = any_none t.brought place.number at }

-- a state that isn't refused and isn't stopped goes on
pub goes_on : (end : End) → ((f : Fault) → end ≡ Refused f → ⊥) → is_stopped end ≡ false → end ≡ Going
goes_on Going not_refused not_stopped = refl
goes_on Stopped not_refused not_stopped = absurd cc
goes_on (Refused f) not_refused not_stopped = absurd (not_refused f refl)

-- ---- what is kept for later kinds

-- it doesn't depend on how far the open kind is
pub same_stock : (t : State Made) (drawn : ℕ) (brought : List (Option (Output Made))) (end : End) (stock : Stock) → IsStock t stock → IsStock (record { closed = t.closed; drawn = drawn; brought = brought; end = end }) stock
same_stock t drawn brought end stocks.Scan is = is
same_stock t drawn brought end (stocks.Link shards) is = is
same_stock t drawn brought end (stocks.Main shards linked) is = is
same_stock t drawn brought end stocks.Name is = is
same_stock t drawn brought end stocks.Merge is = is
same_stock t drawn brought end stocks.Write is = is
same_stock t drawn brought end stocks.Nothing is = is
