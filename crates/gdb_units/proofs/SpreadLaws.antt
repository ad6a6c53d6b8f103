-- What an owner takes on its ways.
use Rattle.std.proofs.Common.{◌≡◌, ℕ, suc, ◌-◌, ◌<◌, ◌≤◌, List, [], ◌∷◌, ◌++◌, length, Option, Some, None, refl, sym, ap, subst, ◌∙◌, arith, inl, inr, ⊎_elim}
use Rattle.std.specs.Prelude.{Contains, is_none}
use Rattle.std.proofs.lemmas.List.Elements.{Contains-append_left, Contains-push, Contains-push_cases}
use Rattle.std.proofs.lemmas.List.Sums.{count_by-le-length}
use Rattle.std.proofs.lemmas.Option.{same_Some}
use mathlib.Core.Logic.{◌⊎◌}
use Rattle.common_laws.proofs.Members.{contains_here, contains_cases}
use Rattle.gdb_units.specs.Spread.{owner_at, count_free, IsOwned, IsTaken, Leads, Claims, Spreads}
use Rattle.gdb_units.proofs.LeadsLaws.{one_step, one_more, longer}
use Rattle.gdb_units.proofs.ClaimLaws.{no_both, owned_within}

abbrev Owns : Type 0
Owns = List (Option ℕ)

pub nil_of : (xs : List ℕ) → length xs ≡ 0 → xs ≡ []
nil_of [] e = refl
nil_of (x ∷ xs) e = absurd (omega (arith, e))

-- what holds while units wait to be looked at
pub record Spreading (targets : ℕ → List ℕ) (owner : ℕ) (old new : Owns) (waits : List ℕ) : Type 0 where
  pub long : length new ≡ length old
  pub keeps : (u o : ℕ) → owner_at old u ≡ Some o → owner_at new u ≡ Some o
  pub takes : (u o : ℕ) → owner_at new u ≡ Some o → (owner_at old u ≡ Some o) ⊎ ((o ≡ owner) × (owner_at old u ≡ None) × Leads targets (count_free old - count_free new) owner u)
  pub fewer : count_free new ≤ count_free old
  pub waiting : (u : ℕ) → Contains waits u → IsTaken owner old new u
  pub onwards : (u : ℕ) → IsTaken owner old new u → Contains waits u ⊎ ((t : ℕ) → Contains (targets u) t → t < length old → IsOwned new t)

module _ (targets : ℕ → List ℕ) (owner : ℕ) (old : Owns) where
  pub starts : Spreading targets owner old old (owner ∷ [])
  starts = record {
    long = refl;
    keeps = λ u o e. e;
    takes = λ u o e. inl e;
    fewer = omega arith;
    waiting = λ u c. ⊎_elim (λ (same : owner ≡ u). inl (sym same)) (λ (l : Contains [] u). absurd (omega (arith, l.1))) (contains_cases owner [] u c);
    onwards = λ u taken. ⊎_elim
        (λ (same : u ≡ owner). inl (subst (Contains (owner ∷ [])) (sym same) (contains_here owner [])))
        (λ (both : (owner_at old u ≡ None) × (owner_at old u ≡ Some owner)). absurd (no_both (owner_at old u) owner both.0 both.1))
        taken;
  }

  -- who waits is one of the units
  pub waiting_within : (new : Owns) (waits : List ℕ) (u : ℕ) → Spreading targets owner old new waits → owner < length old → Contains waits u → u < length old
  waiting_within new waits u s lt c = ⊎_elim
      (λ (same : u ≡ owner). omega (arith, same, lt))
      (λ (both : (owner_at old u ≡ None) × (owner_at new u ≡ Some owner)). omega (arith, owned_within new u owner both.1, s.long))
      (s.waiting u c)

  module _ (mid new : Owns) (rest waits : List ℕ) (unit : ℕ) (s : Spreading targets owner old mid (rest ++ unit ∷ [])) (c : Claims (targets unit) owner mid rest new waits) where
    taken_before : IsTaken owner old mid unit
    taken_before = s.waiting unit (Contains-push rest unit)

    grown : (u o : ℕ) → owner_at mid u ≡ Some o → owner_at new u ≡ Some o
    grown = c.keeps

    free_before : (u : ℕ) → owner_at mid u ≡ None → owner_at old u ≡ None
    free_before u free = by (owner_at old u) refl
      where
        by : (x : Option ℕ) → owner_at old u ≡ x → owner_at old u ≡ None
        by None e = e
        by (Some o) e = absurd (no_both (owner_at mid u) o free (s.keeps u o e))

    still_taken : (u : ℕ) → IsTaken owner old mid u → IsTaken owner old new u
    still_taken u taken = ⊎_elim
        (λ (same : u ≡ owner). inl same)
        (λ (both : (owner_at old u ≡ None) × (owner_at mid u ≡ Some owner)). inr (both.0, grown u owner both.1))
        taken

    -- a way to what is claimed now
    way : (u : ℕ) → Contains (targets unit) u → count_free new < count_free mid → Leads targets (count_free old - count_free new) owner u
    way u m less = ⊎_elim
        (λ (same : unit ≡ owner). longer targets 1 (count_free old - count_free new) owner u (omega (arith, less, s.fewer)) (one_step targets owner u (subst (λ (x : ℕ). Contains (targets x) u) same m)))
        (λ (both : (owner_at old unit ≡ None) × (owner_at mid unit ≡ Some owner)). on_a_way both)
        taken_before
      where
        on_a_way : (owner_at old unit ≡ None) × (owner_at mid unit ≡ Some owner) → Leads targets (count_free old - count_free new) owner u
        on_a_way both = ⊎_elim
            (λ (was : owner_at old unit ≡ Some owner). absurd (no_both (owner_at old unit) owner both.0 was))
            (λ (n : (owner ≡ owner) × (owner_at old unit ≡ None) × Leads targets (count_free old - count_free mid) owner unit).
            longer targets (suc (count_free old - count_free mid)) (count_free old - count_free new) owner u (omega (arith, less, s.fewer)) (one_more targets (count_free old - count_free mid) owner unit u n.2 m))
            (s.takes unit owner both.1)

    took : (u o : ℕ) → owner_at new u ≡ Some o → (owner_at old u ≡ Some o) ⊎ ((o ≡ owner) × (owner_at old u ≡ None) × Leads targets (count_free old - count_free new) owner u)
    took u o e = ⊎_elim
        (λ (was : owner_at mid u ≡ Some o). ⊎_elim
        (λ (first : owner_at old u ≡ Some o). inl first)
        (λ (n : (o ≡ owner) × (owner_at old u ≡ None) × Leads targets (count_free old - count_free mid) owner u). inr (n.0, n.1, longer targets (count_free old - count_free mid) (count_free old - count_free new) owner u (omega (arith, c.fewer)) n.2))
        (s.takes u o was))
        (λ (n : (o ≡ owner) × (owner_at mid u ≡ None) × Contains (targets unit) u × (count_free new < count_free mid)). inr (n.0, free_before u n.1, way u n.2 n.3))
        (c.takes u o e)

    abbrev Onwards : ℕ → Type 0
    Onwards u = Contains waits u ⊎ ((t : ℕ) → Contains (targets u) t → t < length old → IsOwned new t)

    looked_at : Onwards unit
    looked_at = inr (λ t m lt. c.all t m (omega (arith, lt, s.long)))

    onwards_from : (u : ℕ) → IsTaken owner old mid u → Onwards u
    onwards_from u taken = ⊎_elim
        (λ (m : Contains (rest ++ unit ∷ []) u). ⊎_elim
        (λ (l : Contains rest u). inl (c.still u l))
        (λ (same : unit ≡ u). subst Onwards same looked_at)
        (Contains-push_cases rest unit u m))
        (λ (done : (t : ℕ) → Contains (targets u) t → t < length old → IsOwned mid t). inr (λ t m lt. let r = done t m lt in (r.0, grown t r.0 r.1)))
        (s.onwards u taken)

    onwards_now : (u : ℕ) → IsTaken owner old new u → Onwards u
    onwards_now u taken = ⊎_elim
        (λ (same : u ≡ owner). onwards_from u (inl same))
        (λ (both : (owner_at old u ≡ None) × (owner_at new u ≡ Some owner)). by both (owner_at mid u) refl)
        taken
      where
        by : (owner_at old u ≡ None) × (owner_at new u ≡ Some owner) → (x : Option ℕ) → owner_at mid u ≡ x → Onwards u
        by both None e = inl (c.queued u owner e both.1)
        by both (Some o) e =
            let same : o ≡ owner = same_Some o owner (sym (grown u o e) ∙ both.1) in
            onwards_from u (inr (both.0, e ∙ ap (λ (x : ℕ). Some x) same))

    -- once a unit was looked at
    pub goes_on : Spreading targets owner old new waits
    goes_on = record {
      long = c.long ∙ s.long;
      keeps = λ u o e. grown u o (s.keeps u o e);
      takes = took;
      fewer = omega (arith, c.fewer, s.fewer);
      waiting = λ u m. ⊎_elim
          (λ (l : Contains rest u). still_taken u (s.waiting u (Contains-append_left rest (unit ∷ []) u l)))
          (λ (n : (owner_at mid u ≡ None) × (owner_at new u ≡ Some owner)). inr (free_before u n.0, n.1))
          (c.joins u m);
      onwards = onwards_now;
    }

  -- once none waits
  pub spread_ends : (new : Owns) → Spreading targets owner old new [] → Spreads targets owner old new
  spread_ends new s = record {
    keeps = s.keeps;
    takes = λ u o e. ⊎_elim
        (λ (was : owner_at old u ≡ Some o). inl was)
        (λ (n : (o ≡ owner) × (owner_at old u ≡ None) × Leads targets (count_free old - count_free new) owner u). inr (n.0, n.1, longer targets (count_free old - count_free new) (length old) owner u (omega (arith, count_by-le-length is_none old)) n.2))
        (s.takes u o e);
    onwards = λ u t taken m lt. ⊎_elim
        (λ (l : Contains [] u). absurd (omega (arith, l.1)))
        (λ (done : (x : ℕ) → Contains (targets u) x → x < length old → IsOwned new x). done t m lt)
        (s.onwards u taken);
  }
