-- The cut makes up all items, and its runs are even.
use Rattle.std.proofs.Common.{◌≡◌, ◌⊎◌, ◌<◌, ◌≤◌, ◌+◌, ◌-◌, ◌*◌, ◌/◌, ◌%◌, ℕ, zero, suc, List, [], ◌∷◌, ◌++◌, length, take, drop, Some, refl, ap, sym, subst, ◌∙◌, arith, length-drop, length-take, length-append, append-nil, inl, inr}
use Rattle.std.specs.Prelude.{flat_map, slice_get, unwrap_or, All}
use Rattle.std.proofs.Math.Nat.{mul-le-mul_left, div-le_self}
use Rattle.std.proofs.Math.Seq.{take-length}
use Rattle.std.proofs.lemmas.List.Elements.{All-contains}
use Rattle.std.proofs.lemmas.Bool.{cases_lt}
use Rattle.std.proofs.lemmas.Grind.{flat_map-append}
use Rattle.std.proofs.lemmas.List.{take-append-drop, drop-drop}
use Rattle.index_model.specs.declared.job.Job.TheVariants.{Scan}
use Rattle.index_model.specs.declared.unit.Unit.{Unit as UnitHeader}
use Rattle.index_model.specs.Machine.{MakeUp, IsCut}
use Rattle.stage_core.specs.declared.task.Task.{Task}
use Rattle.stage_core.specs.Cut.{cut}
use Rattle.stage_core.specs.Inputs.{Handed, UnitsOf}
use Rattle.stage_core.specs.Tasks.{task_seen, AreTasks}
use Rattle.stage_core.proofs.TaskLaws.{one_more_task, no_tasks}

-- ---- numbers

by_one : (n : ℕ) → n / 1 ≡ n
by_one n = omega arith

not_above : (n k : ℕ) → n / suc k ≤ n
not_above n k = let part = mul-le-mul_left (n / suc k) (one_le k) in omega (arith, part)
  where
    one_le : (k : ℕ) → 1 ≤ suc k
    one_le k = omega arith

record Even (k n d q : ℕ) : Type 0 where
  low : q ≤ d
  high : d ≤ q + 1
  rest_low : q * k ≤ n - d
  rest_high : n - d ≤ (q + 1) * k

even_here : (k n d m q : ℕ) → suc k * d + m ≡ n → m < suc k → q * suc k ≤ n → n ≤ (q + 1) * suc k → (q ≤ d) × (d ≤ q + 1)
even_here k n d m q is small low high = (by_low (cases_lt d q), by_high (cases_lt (q + 1) d))
  where
    by_low : (d < q) ⊎ (q ≤ d) → q ≤ d
    by_low (inl lt) = let h : d + 1 ≤ q = omega arith in let more = mul-le-mul_left (suc k) h in absurd (omega (arith, more))
    by_low (inr le) = le

    by_high : (q + 1 < d) ⊎ (d ≤ q + 1) → d ≤ q + 1
    by_high (inl lt) = let h : q + 2 ≤ d = omega arith in let more = mul-le-mul_left (suc k) h in absurd (omega (arith, more))
    by_high (inr le) = le

even_rest : (k n d m q : ℕ) → suc k * d + m ≡ n → m < suc k → q * suc k ≤ n → n ≤ (q + 1) * suc k → (d ≡ q) ⊎ (d ≡ q + 1) → (q * k ≤ n - d) × (n - d ≤ (q + 1) * k)
even_rest k n d m q is small low high (inl e) = let is_q : suc k * q + m ≡ n = subst (λ (d : ℕ). suc k * d + m ≡ n) e is in (omega arith, omega arith)
even_rest k n d m q is small low high (inr e) = let is_q : suc k * (q + 1) + m ≡ n = subst (λ (d : ℕ). suc k * d + m ≡ n) e is in (omega arith, omega arith)

even_step : (k n q : ℕ) → q * suc k ≤ n → n ≤ (q + 1) * suc k → Even k n (n / suc k) q
even_step k n q low high =
    let is : suc k * (n / suc k) + n % suc k ≡ n = omega arith in
    let small : n % suc k < suc k = omega arith in
    let here = even_here k n (n / suc k) (n % suc k) q is small low high in
    let rest = even_rest k n (n / suc k) (n % suc k) q is small low high (by (cases_lt q (n / suc k)) here) in
    record { low = here.0; high = here.1; rest_low = rest.0; rest_high = rest.1 }
  where
    by : (q < n / suc k) ⊎ (n / suc k ≤ q) → (q ≤ n / suc k) × (n / suc k ≤ q + 1) → (n / suc k ≡ q) ⊎ (n / suc k ≡ q + 1)
    by (inl lt) h = inr (omega arith)
    by (inr le) h = inl (omega arith)

-- ---- all items, evenly

all_of : {X : Type 0} (x : X) (xs : List X) (P : X → Type 0) → P x → All P xs → All P (x ∷ xs)
all_of x xs P here others zero d lt = here
all_of x xs P here others (suc k) d lt = others k d (omega (arith, lt))

module _ {A : Type 0} where
  pub length_cut : (runs : ℕ) (items : List A) → length (cut runs items) ≡ runs
  unfolding cut
  length_cut zero items = refl
  length_cut (suc runs) items = ap suc (length_cut runs (drop (length items / suc runs) items))

  makes_up : (runs : ℕ) (items : List A) → MakeUp (cut (suc runs) items) items
  unfolding cut
  makes_up zero items = append-nil (take (length items / 1) items) ∙ (ap (λ (n : ℕ). take n items) (by_one (length items)) ∙ take-length items)
  makes_up (suc runs) items =
      let n : ℕ = length items / suc (suc runs) in
      ap (λ (rest : List A). take n items ++ rest) (makes_up runs (drop n items)) ∙ take-append-drop n items

  evenly : (runs : ℕ) (items : List A) (q : ℕ) → q * runs ≤ length items → length items ≤ (q + 1) * runs → All (λ r. (q ≤ length r) × (length r ≤ q + 1)) (cut runs items)
  unfolding cut
  evenly zero items q low high = λ k d lt. absurd (omega (arith, lt))
  evenly (suc runs) items q low high =
      let n : ℕ = length items / suc runs in
      let e = even_step runs (length items) q low high in
      let here : length (take n items) ≡ n = length-take n items ∙ omega (arith, not_above (length items) runs) in
      let rest : length (drop n items) ≡ length items - n = length-drop n items in
      let others = evenly runs (drop n items) q (omega (arith, rest, e.rest_low)) (omega (arith, rest, e.rest_high)) in
      all_of (take n items) (cut runs (drop n items)) (λ r. (q ≤ length r) × (length r ≤ q + 1)) (omega (arith, here, e.low), omega (arith, here, e.high)) others

  pub is_cut : (runs : ℕ) (items : List A) → 0 < runs → IsCut items runs (cut runs items)
  is_cut zero items some = absurd (omega (arith, some))
  is_cut (suc runs) items some =
      let n : ℕ = length items / suc runs in
      let low : n * suc runs ≤ length items = omega arith in
      let high : length items ≤ (n + 1) * suc runs = omega arith in
      let all = evenly (suc runs) items n low high in
      record {
        count = length_cut (suc runs) items;
        all = makes_up runs items;
        even = λ r q there here. omega (arith, (All-contains (λ (r : List A). (n ≤ length r) × (length r ≤ n + 1)) _ r all there).1, (All-contains (λ (r : List A). (n ≤ length r) × (length r ≤ n + 1)) _ q all here).0);
      }

  -- ---- run after run

  -- an element of a list with what is before it and behind it
  record Split (xs : List A) (k : ℕ) (x : A) (rest : List A) : Type 0 where
    here : slice_get xs k ≡ Some x
    behind : drop (k + 1) xs ≡ rest
    before : take (k + 1) xs ≡ take k xs ++ x ∷ []

  split_at : (xs : List A) (k : ℕ) (x : A) (rest : List A) → drop k xs ≡ x ∷ rest → Split xs k x rest
  split_at [] zero x rest e = absurd cc
  split_at [] (suc k) x rest e = absurd cc
  split_at (y ∷ ys) zero x rest e = record { here = cc; behind = cc; before = cc }
  split_at (y ∷ ys) (suc k) x rest e =
      let s = split_at ys k x rest e in
      let same : suc k + 1 ≡ suc (k + 1) = omega arith in
      record { here = s.here; behind = rw same s.behind; before = rw same (ap (λ (zs : List A). y ∷ zs) s.before) }

-- the job and the input of run k
abbrev pub scan_of : List (ℕ × UnitHeader) → ℕ → ℕ → Handed
scan_of us runs k = record { job = Scan k; given = UnitsOf (length (flat_map (λ run. run) (take k (cut runs us)))) (length (unwrap_or (slice_get (cut runs us) k) [])) }

-- k runs have tasks, and the next one begins at a unit
pub record CutSoFar (us : List (ℕ × UnitHeader)) (runs k first : ℕ) (tasks : List Task) : Type 0 where
  pub tasks_are : AreTasks tasks k (scan_of us runs)
  pub first_is : first ≡ length (flat_map (λ run. run) (take k (cut runs us)))
  pub rest_is : drop k (cut runs us) ≡ cut (runs - k) (drop first us)

pub cut_start : (us : List (ℕ × UnitHeader)) (runs : ℕ) → CutSoFar us runs 0 0 []
cut_start us runs = record { tasks_are = no_tasks (scan_of us runs); first_is = refl; rest_is = ap (λ (n : ℕ). cut n us) (omega arith) }

next_run : (us : List (ℕ × UnitHeader)) (runs k m first : ℕ) → runs - k ≡ suc m → drop k (cut runs us) ≡ cut (runs - k) (drop first us) →
    Split (cut runs us) k (take (length (drop first us) / suc m) (drop first us)) (cut m (drop (length (drop first us) / suc m) (drop first us)))
unfolding cut
next_run us runs k m first left is = split_at (cut runs us) k _ _ (is ∙ ap (λ (n : ℕ). cut n (drop first us)) left)

pub cut_more : (us : List (ℕ × UnitHeader)) (runs k first count : ℕ) (tasks : List Task) (t : Task) → CutSoFar us runs k first tasks → k < runs → first ≤ length us → count ≡ (length us - first) / (runs - k) → task_seen t ≡ record { job = Scan k; given = UnitsOf first count } →
    CutSoFar us runs (k + 1) (first + count) (tasks ++ t ∷ [])
cut_more us runs k first count tasks t so_far lt within counted is =
    let m : ℕ = runs - (k + 1) in
    let left : runs - k ≡ suc m = omega arith in
    let ys : List (ℕ × UnitHeader) = drop first us in
    let n : ℕ = length ys / suc m in
    let n_is : n ≡ count = ap (λ (a : ℕ). a / suc m) (length-drop first us) ∙ (ap (λ (b : ℕ). (length us - first) / b) (sym left) ∙ sym counted) in
    let s = next_run us runs k m first left so_far.rest_is in
    let size : length (take n ys) ≡ count = length-take n ys ∙ omega (arith, not_above (length ys) m, n_is) in
    let flat : length (flat_map (λ run. run) (take (k + 1) (cut runs us))) ≡ first + count =
    ap (λ (rs : List (List (ℕ × UnitHeader))). length (flat_map (λ run. run) rs)) s.before ∙
    (ap length (flat_map-append (λ (run : List (ℕ × UnitHeader)). run) (take k (cut runs us)) (take n ys ∷ [])) ∙
    (length-append (flat_map (λ run. run) (take k (cut runs us))) (take n ys ++ []) ∙
    omega (arith, so_far.first_is, size, ap length (append-nil (take n ys))))) in
    let given : task_seen t ≡ scan_of us runs k =
    is ∙ (ap (λ (f : ℕ). record { job = Scan k; given = UnitsOf f count }) so_far.first_is ∙
    ap (λ (c : ℕ). record { job = Scan k; given = UnitsOf (length (flat_map (λ run. run) (take k (cut runs us)))) c }) (sym size ∙ ap (λ (o : _). length (unwrap_or o [])) (sym s.here))) in
    record {
      tasks_are = one_more_task tasks k t (scan_of us runs) so_far.tasks_are given;
      first_is = sym flat;
      rest_is = s.behind ∙ ap (λ (zs : List (ℕ × UnitHeader)). cut m zs) (ap (λ (a : ℕ). drop a ys) n_is ∙ drop-drop count first us);
    }

pub left_part : (n first k : ℕ) → first ≤ n → first + (n - first) / k ≤ n
left_part n first k le = let part : (n - first) / k ≤ n - first = div-le_self (n - first) k in omega (arith, part)
