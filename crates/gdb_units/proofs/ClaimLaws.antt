-- Units that an owner takes, one after the other.
use Rattle.std.proofs.Common.{◌≡◌, ℕ, zero, suc, ◌+◌, ◌<◌, Bool, true, false, cond, List, [], ◌∷◌, ◌++◌, length, get_or, set, take, Option, Some, None, refl, sym, ap, subst, ◌∙◌, arith, inl, inr, ⊎_elim, length-append, length-set, get_or-set_same}
use Rattle.std.specs.Prelude.{Contains, is_none}
use Rattle.std.proofs.lemmas.Bool.{true≢false, cases_eq}
use Rattle.std.proofs.lemmas.List.{get_or-set_other, take_more}
use Rattle.std.proofs.lemmas.List.Elements.{Contains-append_left, Contains-push, Contains-push_cases}
use Rattle.std.proofs.lemmas.List.Sums.{sum_by-set}
use Rattle.std.proofs.lemmas.Option.{same_Some}
use mathlib.Core.Logic.{◌⊎◌}
use Rattle.gdb_units.specs.Spread.{owner_at, count_free, is_free, IsOwned, Claims}

abbrev Owns : Type 0
Owns = List (Option ℕ)

pub no_both : (x : Option ℕ) (o : ℕ) → x ≡ None → x ≡ Some o → ⊥
no_both x o e d = let never : None ≡ Some o = sym e ∙ d in absurd cc

-- ---- slots

pub owned_within : (xs : Owns) (u o : ℕ) → owner_at xs u ≡ Some o → u < length xs
owned_within [] u o e = absurd cc
owned_within (x ∷ xs) zero o e = omega arith
owned_within (x ∷ xs) (suc u) o e = omega (arith, owned_within xs u o e)

pub owned_or_free : (xs : Owns) (u : ℕ) → u < length xs → is_free xs u ≡ false → IsOwned xs u
owned_or_free [] u lt off = absurd (omega arith)
owned_or_free (None ∷ xs) zero lt off = absurd (true≢false off)
owned_or_free (Some o ∷ xs) zero lt off = (o, refl)
owned_or_free (x ∷ xs) (suc u) lt off = owned_or_free xs u (omega (arith, lt)) off

pub free_there : (xs : Owns) (u : ℕ) → is_free xs u ≡ true → (u < length xs) × (owner_at xs u ≡ None)
free_there [] u on = absurd (true≢false (sym on))
free_there (None ∷ xs) zero on = (omega arith, refl)
free_there (Some o ∷ xs) zero on = absurd (true≢false (sym on))
free_there (x ∷ xs) (suc u) on = let r = free_there xs u on in (omega (arith, r.0), r.1)

abbrev one_if_free : Option ℕ → ℕ
one_if_free x = cond (is_none x) 1 0

count_set : (xs : Owns) (u o : ℕ) → u < length xs → owner_at xs u ≡ None → count_free (set xs u (Some o)) + 1 ≡ count_free xs
count_set xs u o lt free =
    let moved = sum_by-set one_if_free xs u (Some o) None lt in
    let was : one_if_free (get_or xs u None) ≡ 1 = ap one_if_free free in
    let now : one_if_free (Some o) ≡ 0 = refl in
    omega (arith, moved, was, now)

-- ---- one after the other

pub claims_none : (owner : ℕ) (old : Owns) (waits : List ℕ) → Claims [] owner old waits old waits
claims_none owner old waits = record {
  long = refl;
  keeps = λ u o e. e;
  takes = λ u o e. inl e;
  all = λ u c lt. absurd (omega (arith, c.1));
  still = λ u c. c;
  joins = λ u c. inl c;
  queued = λ u o free e. absurd (no_both (owner_at old u) o free e);
  fewer = omega arith;
  work = omega arith;
}

module _ (us : List ℕ) (owner : ℕ) (old : Owns) (waited : List ℕ) (mid : Owns) (waits : List ℕ) (t : ℕ) (c : Claims us owner old waited mid waits) where
  pub claims_skip : is_free mid t ≡ false → Claims (us ++ t ∷ []) owner old waited mid waits
  claims_skip off = record {
    long = c.long;
    keeps = c.keeps;
    takes = λ u o e. ⊎_elim
        (λ (same : owner_at old u ≡ Some o). inl same)
        (λ (new : (o ≡ owner) × (owner_at old u ≡ None) × Contains us u × (count_free mid < count_free old)). inr (new.0, new.1, Contains-append_left us (t ∷ []) u new.2, new.3))
        (c.takes u o e);
    all = λ u m lt. ⊎_elim
        (λ (l : Contains us u). c.all u l lt)
        (λ (same : t ≡ u). subst (IsOwned mid) same (owned_or_free mid t (omega (arith, lt, same, c.long)) off))
        (Contains-push_cases us t u m);
    still = c.still;
    joins = c.joins;
    queued = c.queued;
    fewer = c.fewer;
    work = c.work;
  }

  module _ (on : is_free mid t ≡ true) where
    abbrev new : Owns
    new = set mid t (Some owner)

    there : (t < length mid) × (owner_at mid t ≡ None)
    there = free_there mid t on

    count : count_free new + 1 ≡ count_free mid
    count = count_set mid t owner there.0 there.1

    own : owner_at new t ≡ Some owner
    own = get_or-set_same mid t (Some owner) None there.0

    other : (u : ℕ) → (u ≡ t → ⊥) → owner_at new u ≡ owner_at mid u
    other u ne = get_or-set_other mid t u (Some owner) None ne

    -- who has an owner keeps it
    grown : (u o : ℕ) → owner_at mid u ≡ Some o → owner_at new u ≡ Some o
    grown u o e = ⊎_elim
        (λ (same : u ≡ t). absurd (no_both (owner_at mid t) o there.1 (subst (λ (x : ℕ). owner_at mid x ≡ Some o) same e)))
        (λ (ne : u ≡ t → ⊥). other u ne ∙ e)
        (cases_eq u t)

    free_before : owner_at old t ≡ None
    free_before = by (owner_at old t) refl
      where
        by : (x : Option ℕ) → owner_at old t ≡ x → owner_at old t ≡ None
        by None e = e
        by (Some o) e = absurd (no_both (owner_at mid t) o there.1 (c.keeps t o e))

    abbrev Took : ℕ → ℕ → Type 0
    Took u o = (o ≡ owner) × (owner_at old u ≡ None) × Contains (us ++ t ∷ []) u × (count_free new < count_free old)

    takes : (u o : ℕ) → owner_at new u ≡ Some o → (owner_at old u ≡ Some o) ⊎ Took u o
    takes u o e = ⊎_elim
        (λ (same : u ≡ t). inr (
          same_Some o owner (sym e ∙ ap (owner_at new) same ∙ own),
          ap (owner_at old) same ∙ free_before,
          subst (Contains (us ++ t ∷ [])) (sym same) (Contains-push us t),
          omega (arith, count, c.fewer),
        ))
        (λ (ne : u ≡ t → ⊥). ⊎_elim
        (λ (was : owner_at old u ≡ Some o). inl was)
        (λ (n : (o ≡ owner) × (owner_at old u ≡ None) × Contains us u × (count_free mid < count_free old)). inr (n.0, n.1, Contains-append_left us (t ∷ []) u n.2, omega (arith, n.3, count)))
        (c.takes u o (sym (other u ne) ∙ e)))
        (cases_eq u t)

    pub claims_take : Claims (us ++ t ∷ []) owner old waited (set mid t (Some owner)) (waits ++ t ∷ [])
    claims_take = record {
      long = length-set mid t (Some owner) ∙ c.long;
      keeps = λ u o e. grown u o (c.keeps u o e);
      takes = takes;
      all = λ u m lt. ⊎_elim
          (λ (l : Contains us u). let r = c.all u l lt in (r.0, grown u r.0 r.1))
          (λ (same : t ≡ u). (owner, ap (owner_at new) (sym same) ∙ own))
          (Contains-push_cases us t u m);
      still = λ u m. Contains-append_left waits (t ∷ []) u (c.still u m);
      joins = λ u m. ⊎_elim
          (λ (l : Contains waits u). ⊎_elim
          (λ (w : Contains waited u). inl w)
          (λ (n : (owner_at old u ≡ None) × (owner_at mid u ≡ Some owner)). inr (n.0, grown u owner n.1))
          (c.joins u l))
          (λ (same : t ≡ u). inr (ap (owner_at old) (sym same) ∙ free_before, ap (owner_at new) (sym same) ∙ own))
          (Contains-push_cases waits t u m);
      queued = λ u o free e. ⊎_elim
          (λ (same : u ≡ t). subst (Contains (waits ++ t ∷ [])) (sym same) (Contains-push waits t))
          (λ (ne : u ≡ t → ⊥). Contains-append_left waits (t ∷ []) u (c.queued u o free (sym (other u ne) ∙ e)))
          (cases_eq u t);
      fewer = omega (arith, count, c.fewer);
      work = let long : length (waits ++ t ∷ []) ≡ length waits + 1 = length-append waits (t ∷ []) in omega (arith, count, c.work, long);
    }

-- ---- in a loop

module _ (us : List ℕ) (n d owner : ℕ) (old : Owns) (waited : List ℕ) (mid : Owns) (waits : List ℕ) (new : Owns) (now : List ℕ) (lt : n < length us) (c : Claims (take n us) owner old waited mid waits) (is : new ≡ cond (is_free mid (get_or us n d)) (set mid (get_or us n d) (Some owner)) mid) where
  pub claimed_one : is_free mid (get_or us n d) ≡ true → now ≡ waits ++ get_or us n d ∷ [] → Claims (take (n + 1) us) owner old waited new now
  claimed_one on are =
      let t = get_or us n d in
      let placed : new ≡ set mid t (Some owner) = is ∙ ap (λ (b : Bool). cond b (set mid t (Some owner)) mid) on in
      subst (λ (ts : List ℕ). Claims ts owner old waited new now) (sym (take_more us n d lt)) (
      subst (λ (ws : List ℕ). Claims (take n us ++ t ∷ []) owner old waited new ws) (sym are) (
      subst (λ (xs : Owns). Claims (take n us ++ t ∷ []) owner old waited xs (waits ++ t ∷ [])) (sym placed) (
      claims_take (take n us) owner old waited mid waits t c on)))

  pub skipped_one : is_free mid (get_or us n d) ≡ false → now ≡ waits → Claims (take (n + 1) us) owner old waited new now
  skipped_one off are =
      let t = get_or us n d in
      let same : new ≡ mid = is ∙ ap (λ (b : Bool). cond b (set mid t (Some owner)) mid) off in
      subst (λ (ts : List ℕ). Claims ts owner old waited new now) (sym (take_more us n d lt)) (
      subst (λ (ws : List ℕ). Claims (take n us ++ t ∷ []) owner old waited new ws) (sym are) (
      subst (λ (xs : Owns). Claims (take n us ++ t ∷ []) owner old waited xs waits) (sym same) (
      claims_skip (take n us) owner old waited mid waits t c off)))
