-- Runs that make up all units.
use Rattle.std.proofs.Common.{◌≡◌, ◌+◌, ℕ, zero, suc, List, [], ◌∷◌, ◌++◌, length, Vec, Result, Ok, Err, Global, refl, ap, subst, ◌∙◌, arith, append-nil}
use Rattle.std.specs.List.{AllZip, range_with_len}
use Rattle.ix_base.specs.declared.fault.Fault.{Fault}
use Rattle.index_model.specs.Gives.{Stop}
use Rattle.ix_base.specs.declared.or_memory.OrMemory.TheVariants as stops
use Rattle.index_model.specs.Gives.{StopsAs}
use Rattle.file_image.specs.Front.{with_front}
use Rattle.file_image.specs.Images.{Image}
use Rattle.reach_model.specs.LineTables as meant
use Rattle.line_files.specs.declared.found.FileHit.{FileHit}
use Rattle.line_files.specs.Found.{hits_seen}
use Rattle.line_files.specs.Runs.{all_joined, hits_between, hits_of_runs, joined, run_start, GivesHits}
use Rattle.line_files.proofs.RepeatLaws.{all_of}
use Rattle.line_files.proofs.RunLaws.{with_front-joined}

module _ (im : Image) (name : List ℕ) (count size : ℕ) where
  -- the answer of each run
  pub runs_given : (n first : ℕ) (ks : List ℕ) (xs : List (Result (Vec FileHit Global) Stop)) → ks ≡ range_with_len first n →
      AllZip (λ k x. GivesHits x (hits_between im name (run_start count size k) (run_start count size (k + 1)))) ks xs → AllZip GivesHits xs (hits_of_runs im name count size first n)
  runs_given zero first [] [] is h = tt
  runs_given zero first [] (x ∷ xs) is h = absurd h
  runs_given zero first (k ∷ ks) xs is h = absurd cc
  runs_given (suc n) first [] xs is h = absurd cc
  runs_given (suc n) first (k ∷ ks) [] is h = absurd h
  runs_given (suc n) first (k ∷ ks) (x ∷ xs) is h =
      let here : k ≡ first = cc in
      let later : ks ≡ range_with_len (first + 1) n = cc in
      (subst (λ (j : ℕ). GivesHits x (hits_between im name (run_start count size j) (run_start count size (j + 1)))) here h.0, runs_given n (first + 1) ks xs later h.1)

-- ---- the files of the runs, one behind the other

abbrev Part : Type 0
Part = Result (Vec FileHit Global) Stop

module _ (front : List meant.FileHit) (ys : List Part) where
  -- what is left behind a run
  abbrev LeftBehind : List (Result (List meant.FileHit) Fault) → List meant.FileHit → Type 0
  LeftBehind left new = (others : List (Result (List meant.FileHit) Fault)) × AllZip GivesHits ys others × (with_front front (all_joined left) ≡ with_front new (all_joined others))

  -- a run whose files were found
  pub part_added : (xs : List Part) (part : Vec FileHit Global) (left : List (Result (List meant.FileHit) Fault)) → xs ≡ Ok part ∷ ys → AllZip GivesHits xs left →
      LeftBehind left (front ++ hits_seen part.items)
  part_added [] part left is h = absurd cc
  part_added (x ∷ xs) part [] is h = absurd h
  part_added (x ∷ xs) part (m ∷ ms) is h =
      let here : x ≡ Ok part = cc in
      let rest : xs ≡ ys = cc in
      let found : m ≡ Ok (hits_seen part.items) = subst (λ (p : Part). GivesHits p m) here h.0 in
      (ms, subst (λ (ps : List Part). AllZip GivesHits ps ms) rest h.1, with_front-joined front m (all_joined ms) ∙ ap (λ (r : Result (List meant.FileHit) Fault). joined (with_front front r) (all_joined ms)) found)

  -- a run that stopped
  pub part_stops : (xs : List Part) (s : Stop) (left : List (Result (List meant.FileHit) Fault)) → xs ≡ Err s ∷ ys → AllZip GivesHits xs left → StopsAs s (with_front front (all_joined left))
  part_stops [] s left is h = absurd cc
  part_stops (x ∷ xs) s [] is h = absurd h
  part_stops (x ∷ xs) s (m ∷ ms) is h =
      let here : x ≡ Err s = cc in
      by s (subst (λ (p : Part). GivesHits p m) here h.0)
    where
      by : (t : Stop) → StopsAs t m → StopsAs t (with_front front (all_joined (m ∷ ms)))
      by stops.Memory e = tt
      by (stops.Cause f) e = rw e refl

-- no run is left
pub no_part : (front : List meant.FileHit) (xs : List Part) (left : List (Result (List meant.FileHit) Fault)) → length xs ≡ 0 → AllZip GivesHits xs left → with_front front (all_joined left) ≡ Ok front
no_part front [] [] is h = ap all_of (append-nil front)
no_part front [] (m ∷ ms) is h = absurd h
no_part front (x ∷ xs) left is h = absurd (omega arith)

-- nothing stands in front
pub front_of_none : (r : Result (List meant.FileHit) Fault) → with_front [] r ≡ r
front_of_none (Ok hs) = refl
front_of_none (Err f) = refl
