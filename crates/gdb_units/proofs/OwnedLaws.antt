-- The first owner of each unit, one owner after the other.
use Rattle.std.proofs.Common.{◌≡◌, ℕ, zero, suc, ◌+◌, ◌<◌, ◌≤◌, Bool, true, false, cond, List, [], ◌∷◌, length, map, get_or, Option, Some, None, refl, sym, ap, subst, ◌∙◌, arith, inl, inr, ⊎_elim}
use Rattle.std.specs.Prelude.{Contains}
use Rattle.std.specs.List.{enumerate_from}
use Rattle.std.proofs.lemmas.Bool.{true≢false, cases_eq}
use Rattle.std.proofs.lemmas.Option.{same_Some, slice_get-get_or}
use Rattle.gdb_units.specs.declared.units.UnitRoot.{UnitRoot}
use Rattle.gdb_units.specs.Spread.{owner_at, partial_of, is_partial_at, alone_of, own_alone, IsOwned, IsTaken, Leads, Spreads, OwnedBelow}
use Rattle.gdb_units.proofs.LeadsLaws.{one_step, one_more}
use Rattle.gdb_units.proofs.ClaimLaws.{owned_within, no_both}

abbrev Owns : Type 0
Owns = List (Option ℕ)

pub partial_within : (units : List UnitRoot) (u : ℕ) → is_partial_at units u ≡ true → u < length units
partial_within [] u on = absurd (true≢false (sym on))
partial_within (x ∷ xs) zero on = omega arith
partial_within (x ∷ xs) (suc u) on = omega (arith, partial_within xs u on)

-- what is told of the unit that is read
pub partial_read : (units : List UnitRoot) (u : ℕ) (d : UnitRoot) → u < length units → is_partial_at units u ≡ (get_or units u d).partial
partial_read units u d lt = ap partial_of (slice_get-get_or units u d lt)

-- ---- at first

abbrev alone_from : ℕ → List UnitRoot → Owns
alone_from n units = map alone_of (enumerate_from n units)

alone_long : (n : ℕ) (units : List UnitRoot) → length (alone_from n units) ≡ length units
alone_long n [] = refl
alone_long n (u ∷ us) = omega (arith, alone_long (n + 1) us)

alone_whole : (n : ℕ) (units : List UnitRoot) (u : ℕ) → u < length units → is_partial_at units u ≡ false → owner_at (alone_from n units) u ≡ Some (n + u)
alone_whole n [] u lt off = absurd (omega arith)
alone_whole n (x ∷ xs) zero lt off =
    let same : n ≡ n + 0 = omega arith in
    ap (λ (b : Bool). cond b None (Some n)) off ∙ ap (λ (k : ℕ). Some k) same
alone_whole n (x ∷ xs) (suc u) lt off =
    let same : (n + 1) + u ≡ n + suc u = omega arith in
    alone_whole (n + 1) xs u (omega (arith, lt)) off ∙ ap (λ (k : ℕ). Some k) same

alone_partial : (n : ℕ) (units : List UnitRoot) (u : ℕ) → is_partial_at units u ≡ true → owner_at (alone_from n units) u ≡ None
alone_partial n [] u on = refl
alone_partial n (x ∷ xs) zero on = ap (λ (b : Bool). cond b None (Some n)) on
alone_partial n (x ∷ xs) (suc u) on = alone_partial (n + 1) xs u on

pub owned_first : (units : List UnitRoot) (targets : ℕ → List ℕ) → OwnedBelow 0 units targets (own_alone units)
owned_first units targets = record {
  long = alone_long 0 units;
  alone = λ u lt off. let same : 0 + u ≡ u = omega arith in alone_whole 0 units u lt off ∙ ap (λ (k : ℕ). Some k) same;
  leads = λ u o on e. absurd (no_both (owner_at (own_alone units) u) o (alone_partial 0 units u on) e);
  first = λ h m u w lt off l. absurd (omega (arith, lt));
}

-- ---- the next owner

module _ (units : List UnitRoot) (targets : ℕ → List ℕ) (k : ℕ) (old : Owns) (b : OwnedBelow k units targets old) where
  -- a partial unit owns nothing
  pub owned_skip : is_partial_at units k ≡ true → OwnedBelow (k + 1) units targets old
  owned_skip on = record {
    long = b.long;
    alone = b.alone;
    leads = λ u o p e. let r = b.leads u o p e in (omega (arith, r.0), r.1, r.2);
    first = λ h m u w lt off l. ⊎_elim
        (λ (same : w ≡ k). absurd (true≢false (sym on ∙ ap (is_partial_at units) (sym same) ∙ off)))
        (λ (ne : w ≡ k → ⊥). b.first h m u w (omega (arith, lt, ne)) off l)
        (cases_eq w k);
  }

  module _ (whole : is_partial_at units k ≡ false) (lt : k < length units) (new : Owns) (long : length new ≡ length old) (s : Spreads targets k old new) where
    alone : (u : ℕ) → u < length units → is_partial_at units u ≡ false → owner_at new u ≡ Some u
    alone u l off = s.keeps u u (b.alone u l off)

    leads : (u o : ℕ) → is_partial_at units u ≡ true → owner_at new u ≡ Some o → (o < k + 1) × (is_partial_at units o ≡ false) × Leads targets (length units) o u
    leads u o on e = ⊎_elim
        (λ (was : owner_at old u ≡ Some o). let r = b.leads u o on was in (omega (arith, r.0), r.1, r.2))
        (λ (n : (o ≡ k) × (owner_at old u ≡ None) × Leads targets (length old) k u). (
          omega (arith, n.0),
          ap (is_partial_at units) n.0 ∙ whole,
          subst (λ (x : ℕ). Leads targets (length units) x u) (sym n.0) (subst (λ (m : ℕ). Leads targets m k u) b.long n.2),
        ))
        (s.takes u o e)

    -- it has an owner up to this one
    abbrev Marked : ℕ → Type 0
    Marked u = (o : ℕ) × (o ≤ k) × (owner_at new u ≡ Some o)

    module _ (h : (u t : ℕ) → u < length units → Contains (targets u) t → is_partial_at units t ≡ true) where
      -- a unit that has an owner, and is partial, has one up to this
      marked : (t : ℕ) → is_partial_at units t ≡ true → IsOwned new t → Marked t
      marked t on r = let f = leads t r.0 on r.1 in (r.0, omega (arith, f.0), r.1)

      -- what a unit imports that was taken
      by_taken : (u t : ℕ) → u < length units → IsTaken k old new u → Contains (targets u) t → Marked t
      by_taken u t within taken c = let on = h u t within c in marked t on (s.onwards u t taken c (omega (arith, partial_within units t on, b.long)))

      -- what a unit imports to which an earlier owner leads
      by_earlier : (m o t : ℕ) → o < k → is_partial_at units o ≡ false → Leads targets m o t → Marked t
      by_earlier m o t less off l = let r = b.first h m t o less off l in (r.0, omega (arith, r.1, less), s.keeps t r.0 r.2)

      edge : (u t : ℕ) → Marked u → Contains (targets u) t → Marked t
      edge u t marks c = ⊎_elim
          (λ (was : owner_at old u ≡ Some marks.0). by (is_partial_at units u) refl was)
          (λ (n : (marks.0 ≡ k) × (owner_at old u ≡ None) × Leads targets (length old) k u). by_taken u t (omega (arith, owned_within new u marks.0 marks.2, long, b.long)) (inr (n.1, marks.2 ∙ ap (λ (x : ℕ). Some x) n.0)) c)
          (s.takes u marks.0 marks.2)
        where
          by : (p : Bool) → is_partial_at units u ≡ p → owner_at old u ≡ Some marks.0 → Marked t
          by true on was = let r = b.leads u marks.0 on was in by_earlier (suc (length units)) marks.0 t r.0 r.1 (one_more targets (length units) marks.0 u t r.2 c)
          by false off was =
              let within : u < length units = omega (arith, owned_within old u marks.0 was, b.long) in
              let same : marks.0 ≡ u = same_Some marks.0 u (sym was ∙ b.alone u within off) in
              let low : marks.0 ≤ k = marks.1 in
              ⊎_elim
              (λ (is : u ≡ k). by_taken u t within (inl is) c)
              (λ (ne : u ≡ k → ⊥). by_earlier 1 u t (omega (arith, ne, same, low)) off (one_step targets u t c))
              (cases_eq u k)

      reach : (m x u : ℕ) → Marked x → Leads targets m x u → Marked u
      reach zero x u marks l = absurd l
      reach (suc m) x u marks l = ⊎_elim
          (λ (same : l.0 ≡ u). subst Marked same (edge x l.0 marks l.1))
          (λ (far : Leads targets m l.0 u). reach m l.0 u (edge x l.0 marks l.1) far)
          l.2

      first : (m u w : ℕ) → w < k + 1 → is_partial_at units w ≡ false → Leads targets m w u → (o : ℕ) × (o ≤ w) × (owner_at new u ≡ Some o)
      first m u w less off l = ⊎_elim
          (λ (same : w ≡ k).
          let r = reach m k u (k, omega arith, alone k lt whole) (subst (λ (x : ℕ). Leads targets m x u) same l) in
          (r.0, omega (arith, r.1, same), r.2))
          (λ (ne : w ≡ k → ⊥). let r = b.first h m u w (omega (arith, less, ne)) off l in (r.0, r.1, s.keeps u r.0 r.2))
          (cases_eq w k)

    pub owned_next : OwnedBelow (k + 1) units targets new
    owned_next = record {
      long = long ∙ b.long;
      alone = alone;
      leads = leads;
      first = first;
    }
