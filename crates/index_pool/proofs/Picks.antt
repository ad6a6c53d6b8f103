-- The entries of one run, among those of all runs: each is one of a unit of the run, and no unit stands in two runs.
use Rattle.std.proofs.Common.{◌≡◌, ℕ, zero, suc, ◌+◌, ◌<◌, Bool, true, false, ◌||◌, eqb, List, [], ◌∷◌, ◌++◌, filter, length, append-nil, refl, sym, ap, subst, ◌∙◌, arith, ⊎_elim}
use Rattle.std.specs.Prelude.{Contains}
use Rattle.std.specs.List.{AllZip, list_any, enumerate_from}
use Rattle.std.proofs.lemmas.Bool.{eqb-true, eq-eqb, or_right}
use Rattle.std.proofs.lemmas.List.Elements.{filter-append, Contains-append_left, Contains-append_right, Contains-append_cases}
use Rattle.common_laws.proofs.Members.{contains_here, contains_later, contains_cases}
use Rattle.index_model.specs.declared.entry.Entry.{Entry}
use Rattle.index_model.specs.declared.unit.Unit.{Unit as UnitHeader}
use Rattle.index_model.proofs.Pairs.{Pairs}
use Rattle.index_model.proofs.UnitsApart.{pairs_back}
use Rattle.index_pool.proofs.Lists.{joined, part_at}
use Rattle.index_pool.proofs.Walks.{Unit_}

-- ---- tests

module _ {A : Type 0} (q : A → Bool) where
  pub keeps_all : (xs : List A) → ((x : A) → Contains xs x → q x ≡ true) → filter q xs ≡ xs
  keeps_all [] all = refl
  keeps_all (x ∷ xs) all = rw (all x (contains_here x xs), keeps_all xs (λ y c. all y (contains_later x xs y c))) refl

  pub keeps_none : (xs : List A) → ((x : A) → Contains xs x → q x ≡ false) → filter q xs ≡ []
  keeps_none [] none = refl
  keeps_none (x ∷ xs) none = rw (none x (contains_here x xs)) (keeps_none xs (λ y c. none y (contains_later x xs y c)))

  pub any_of : (xs : List A) (x : A) → Contains xs x → q x ≡ true → list_any q xs ≡ true
  any_of [] x c is = absurd (omega (arith, c.1))
  any_of (y ∷ ys) x c is = ⊎_elim
      (λ (same : y ≡ x). ap (λ (b : Bool). b || list_any q ys) (ap q same ∙ is))
      (λ (later : Contains ys x). or_right (q y) (list_any q ys) (any_of ys x later is))
      (contains_cases y ys x c)

  any_none : (xs : List A) → ((x : A) → Contains xs x → q x ≡ false) → list_any q xs ≡ false
  any_none [] none = refl
  any_none (x ∷ xs) none = rw (none x (contains_here x xs)) (any_none xs (λ y c. none y (contains_later x xs y c)))

-- ---- members of parts

pub in_joined : {A : Type 0} (parts : List (List A)) (k : ℕ) (x : A) → Contains (part_at parts k) x → Contains (joined parts) x
in_joined [] zero x c = absurd (omega (arith, c.1))
in_joined [] (suc k) x c = absurd (omega (arith, c.1))
in_joined (p ∷ ps) zero x c = Contains-append_left p (joined ps) x c
in_joined (p ∷ ps) (suc k) x c = Contains-append_right p (joined ps) x (in_joined ps k x c)

module _ {A : Type 0} (R : A → A → Type 0) where
  across : (xs ys : List A) → Pairs R (xs ++ ys) → (x y : A) → Contains xs x → Contains ys y → R x y
  across [] ys h x y xc yc = absurd (omega (arith, xc.1))
  across (z ∷ zs) ys h x y xc yc = ⊎_elim
      (λ (same : z ≡ x). subst (λ (w : A). R w y) same (h.0 y (Contains-append_right zs ys y yc)))
      (λ (later : Contains zs x). across zs ys h.1 x y later yc)
      (contains_cases z zs x xc)

-- ---- units

-- the first has a lower number
abbrev pub Lower : Unit_ → Unit_ → Type 0
Lower u v = u.0 < v.0

numbered_from : (n : ℕ) (us : List UnitHeader) (v : Unit_) → Contains (enumerate_from n us) v → n < suc v.0
numbered_from n [] v c = absurd (omega (arith, c.1))
numbered_from n (u ∷ us) v c = ⊎_elim
    (λ (same : (n, u) ≡ v). omega (arith, ap (λ (x : Unit_). x.0) same))
    (λ (later : Contains (enumerate_from (n + 1) us) v). omega (arith, numbered_from (n + 1) us v later))
    (contains_cases (n, u) (enumerate_from (n + 1) us) v c)

pub units_rise : (n : ℕ) (us : List UnitHeader) → Pairs Lower (enumerate_from n us)
units_rise n [] = tt
units_rise n (u ∷ us) = (λ v c. omega (arith, numbered_from (n + 1) us v c), units_rise (n + 1) us)

-- whether the unit with a number is one of these
abbrev pub is_in : List Unit_ → ℕ → Bool
is_in run unit = list_any (λ u. eqb u.0 unit) run

-- the entry is one of a unit of the run
abbrev pub Owns : List Unit_ → Entry → Type 0
Owns run e = (u : Unit_) × Contains run u × (e.unit ≡ u.0)

abbrev pub Own : List Unit_ → List Entry → Type 0
Own run es = (e : Entry) → Contains es e → Owns run e

own_in : (run : List Unit_) (e : Entry) → Owns run e → is_in run e.unit ≡ true
own_in run e o = any_of (λ u. eqb u.0 e.unit) run o.0 o.1 (eq-eqb o.0.0 e.unit (sym o.2))

not_in : (run : List Unit_) (unit : ℕ) → ((u : Unit_) → Contains run u → u.0 ≡ unit → ⊥) → is_in run unit ≡ false
not_in run unit off = any_none (λ u. eqb u.0 unit) run (λ u c. by u c (eqb u.0 unit) refl)
  where
    by : (u : Unit_) → Contains run u → (b : Bool) → eqb u.0 unit ≡ b → eqb u.0 unit ≡ false
    by u c true is = absurd (off u c (eqb-true u.0 unit is))
    by u c false is = is

owned_by : (runs : List (List Unit_)) (ess : List (List Entry)) → AllZip Own runs ess → (e : Entry) → Contains (joined ess) e → Owns (joined runs) e
owned_by [] [] z e c = absurd (omega (arith, c.1))
owned_by [] (es ∷ ess) z e c = absurd z
owned_by (run ∷ runs) [] z e c = absurd z
owned_by (run ∷ runs) (es ∷ ess) z e c = ⊎_elim
    (λ (l : Contains es e). let o = z.0 e l in (o.0, Contains-append_left run (joined runs) o.0 o.1, o.2))
    (λ (r : Contains (joined ess) e). let o = owned_by runs ess z.1 e r in (o.0, Contains-append_right run (joined runs) o.0 o.1, o.2))
    (Contains-append_cases es (joined ess) e c)

-- of all entries those of the units of a run are the run's own
pub pick : (runs : List (List Unit_)) (ess : List (List Entry)) (k : ℕ) → AllZip Own runs ess → Pairs Lower (joined runs) → k < length runs → filter (λ e. is_in (part_at runs k) e.unit) (joined ess) ≡ part_at ess k
pick [] ess k z h lt = absurd (omega (arith, lt))
pick (run ∷ runs) [] k z h lt = absurd z
pick (run ∷ runs) (es ∷ ess) zero z h lt =
    let q : Entry → Bool = λ e. is_in run e.unit in
    let others : filter q (joined ess) ≡ [] = keeps_none q (joined ess) (λ e c. let o = owned_by runs ess z.1 e c in not_in run e.unit (λ u uc same. omega (arith, across Lower run (joined runs) h u o.0 uc o.1, o.2, same))) in
    filter-append q es (joined ess) ∙ ap (λ (xs : List Entry). xs ++ filter q (joined ess)) (keeps_all q es (λ e c. own_in run e (z.0 e c))) ∙ ap (λ (xs : List Entry). es ++ xs) others ∙ append-nil es
pick (run ∷ runs) (es ∷ ess) (suc k) z h lt =
    let q : Entry → Bool = λ e. is_in (part_at runs k) e.unit in
    let mine : filter q es ≡ [] = keeps_none q es (λ e c. let o = z.0 e c in not_in (part_at runs k) e.unit (λ u uc same. omega (arith, across Lower run (joined runs) h o.0 u o.1 (in_joined runs k u uc), o.2, same))) in
    filter-append q es (joined ess) ∙ ap (λ (xs : List Entry). xs ++ filter q (joined ess)) mine ∙ pick runs ess k z.1 (pairs_back Lower run (joined runs) h) (omega (arith, lt))
