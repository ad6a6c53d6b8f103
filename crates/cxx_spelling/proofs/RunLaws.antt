-- A run, step by step.
use Rattle.std.proofs.Common.{◌≡◌, ℕ, suc, ◌+◌, ◌-◌, ◌<◌, ◌∙◌, List, refl, ap, subst, arith}
use Rattle.std.specs.Prelude.{Bool, true, false, if◌then◌else◌, Option, Some, None, Ok}
use Rattle.cxx_spelling.specs.declared.translation.Progress.{Progress}
use Rattle.cxx_spelling.specs.declared.translation.Progress.TheVariants as progress
use Rattle.cxx_spelling.specs.Seen.{Reaches, Runs}
use Rattle.std.specs.List.{filter}
use Rattle.cxx_spelling.specs.Translation.{State, Reached, Going, Finished, Refused, is_written, step, after, finished, run}

more : (n k : ℕ) (s : State) → k < n → run (n - k) s ≡ after (λ t. run (n - (k + 1)) t) (step s)
unfolding run
more n k s h = let e : n - k ≡ suc (n - (k + 1)) = omega arith in ap (λ m. run m s) e

-- behind a step, the rest of the run gives what the run gives
pub run_going : (n k : ℕ) (s t : State) → k < n → step s ≡ Going t → run (n - (k + 1)) t ≡ run (n - k) s
run_going n k s t h e = rw (more n k s h, e) refl

pub run_finished : (n k : ℕ) (s t : State) → k < n → step s ≡ Finished t → run (n - k) s ≡ finished t
run_finished n k s t h e = rw (more n k s h, e) refl

pub run_refused : (n k : ℕ) (s : State) → k < n → step s ≡ Refused → run (n - k) s ≡ None
run_refused n k s h e = rw (more n k s h, e) refl

pub run_out : (n : ℕ) (s : State) → n ≡ 0 → run n s ≡ None
unfolding run
run_out n s e = rw e refl

pub run_whole : (n : ℕ) (s : State) → run (n - 0) s ≡ run n s
run_whole n s = let e : n - 0 ≡ n = omega arith in ap (λ m. run m s) e

-- where a step says that nothing is left, nothing is
pub reaches_finished :
    (p : Progress) (left : State) (reached : Reached) → p ≡ progress.Finished → Reaches left (Ok p) reached → reached ≡ Finished left
reaches_finished p left reached e h = subst (λ q. Reaches left (Ok q) reached) e h

-- the text of a run is what was written, without the gaps that stayed, where the whole name was taken
pub runs_to :
    (whole : Bool) (left : State) (text : Option (List ℕ)) → text ≡ finished left → finished left ≡ (if whole then Some (filter is_written left.out) else None)
    → Runs left (Ok whole) text
runs_to true left text e h = e ∙ h
runs_to false left text e h = e ∙ h
