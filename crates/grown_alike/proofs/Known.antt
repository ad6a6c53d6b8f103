-- What references lead to, and what scopes stand around it, are entries of the walks.
use Rattle.std.proofs.Common.{◌≡◌, ℕ, zero, suc, ◌+◌, Bool, ◌&&◌, ltb, eqb, List, [], ◌∷◌, filter, flat_map, Option, Some, None, Result, Ok, Err, refl, sym, subst, ⊎_elim}
use Rattle.std.specs.Prelude.{Contains, option_map, option_and_then}
use mathlib.Core.Logic.{◌⊎◌}
use Rattle.std.proofs.lemmas.Option.{same_Some}
use Rattle.common_laws.proofs.Members.{of_find, of_filter, of_flat_map, to_flat_map, to_map, last_member}
use Rattle.ix_base.specs.declared.code.TheConstants.{BAD_REFERENCE, REFERENCE_CHAIN}
use Rattle.ix_base.specs.declared.limits.TheConstants.{MAX_CHAIN_HOPS}
use Rattle.index_model.specs.Meaning.{◌>>=◌, some_or, if_some}
use Rattle.index_model.specs.Attributes.{Reference, next_reference}
use Rattle.index_model.specs.Walk.{Item, parent_of}
use Rattle.index_model.specs.Program.{Walked, Program, Located, items_of, located, scope_around, item_with_offset}
use Rattle.index_model.specs.References.{target_of, entry_named}
use Rattle.index_model.specs.Chains.{next_of, hop, hops_from, chain_of, chain_end}
use Rattle.index_model.proofs.Meanings.{bind_ok, same_ok}
use Rattle.index_model.proofs.Located.{at_home, of_located}
use Rattle.grown_alike.proofs.Scanned.{IsKnown}

-- ---- what a value is, where there is no fault

pub record Only {X E : Type 0} (P : X → Type 0) (r : Result X E) : Type 0 where
  pub only : (x : X) → r ≡ Ok x → P x

module _ {X E : Type 0} (P : X → Type 0) where
  pub only_ok : (x : X) → P x → Only {E = E} P (Ok x)
  only_ok x h = record { only = λ y is. subst P (same_ok x y is) h }

  pub only_wrong : (e : E) → Only P (Err e)
  only_wrong e = record { only = λ y is. absurd cc }

  pub only_then : {Z : Type 0} (Q : Z → Type 0) (r : Result X E) (f : X → Result Z E) → Only P r → ((x : X) → P x → Only Q (f x)) → Only Q (r >>= f)
  only_then Q r f h k = record { only = λ z is. let b = bind_ok r f z is in (k b.0 (h.only b.0 b.1)).only z b.2 }

-- nothing is said of the value
abbrev pub Any : {X : Type 0} → X → Type 0
Any x = Unit {0}

pub only_any : {X E : Type 0} (r : Result X E) → Only Any r
only_any r = record { only = λ x is. tt }

-- ---- entries

module _ (p : Program) where
  abbrev known : Located → Type 0
  known = IsKnown p.walks

  -- each of these is an entry of the walks
  abbrev pub AreKnown : List Located → Type 0
  AreKnown [] = Unit {0}
  AreKnown (d ∷ ds) = IsKnown p.walks d × AreKnown ds

  abbrev next_known : Option Located → Type 0
  next_known None = Unit {0}
  next_known (Some d) = IsKnown p.walks d

  found_known : (o : Option Located) → ((d : Located) → o ≡ Some d → known d) → Only known (some_or o BAD_REFERENCE)
  found_known None h = only_wrong known BAD_REFERENCE
  found_known (Some d) h = only_ok known d (h d refl)

  pub named_known : (w : Walked) (r : Reference) → Only known (entry_named p w r)
  unfolding entry_named item_with_offset
  named_known w r = by (target_of p.sections w r)
    where
      by : (o : Option ℕ) → Only known (some_or (option_and_then (item_with_offset p) o) BAD_REFERENCE)
      by None = only_wrong known BAD_REFERENCE
      by (Some o) = found_known (item_with_offset p o) (λ d is. (of_find (λ e. eqb e.item.at o) (flat_map located p.walks) d is).0)

  -- ---- chains

  next_is_known : (d : Located) → Only next_known (next_of p d)
  unfolding next_of
  next_is_known d = by (next_reference d.item)
    where
      by : (o : Option Reference) → Only next_known (if_some o (λ r. entry_named p d.home r >>= λ target. Ok (Some target)))
      by None = only_ok next_known None tt
      by (Some r) = only_then known next_known (entry_named p d.home r) (λ target. Ok (Some target)) (named_known d.home r) (λ target k. only_ok next_known (Some target) k)

  hop_known : (o : Option Located) (others : Located → Result (List Located) ℕ) → next_known o → ((e : Located) → known e → Only AreKnown (others e)) → Only AreKnown (hop o others)
  hop_known None others k h = only_ok AreKnown [] tt
  hop_known (Some e) others k h = h e k

  hops_known : (n : ℕ) (d : Located) → Only AreKnown (hops_from n p d)
  unfolding hops_from
  hops_known zero d = only_then next_known AreKnown (next_of p d) _ (next_is_known d) (λ next k. hop_known next (λ _. Err REFERENCE_CHAIN) k (λ e _. only_wrong AreKnown REFERENCE_CHAIN))
  hops_known (suc n) d =
      only_then next_known AreKnown (next_of p d) _ (next_is_known d) (λ next k.
      hop_known next (λ e. hops_from n p e >>= λ others. Ok (e ∷ others)) k (λ e own.
      only_then AreKnown AreKnown (hops_from n p e) (λ others. Ok (e ∷ others)) (hops_known n e) (λ others all. only_ok AreKnown (e ∷ others) (own, all))))

  pub chain_known : (d : Located) → known d → Only AreKnown (chain_of p d)
  unfolding chain_of
  chain_known d own = only_then AreKnown AreKnown (hops_from MAX_CHAIN_HOPS p d) (λ others. Ok (d ∷ others)) (hops_known MAX_CHAIN_HOPS d) (λ others all. only_ok AreKnown (d ∷ others) (own, all))

  pub end_known : (d : Located) (chain : List Located) → known d → AreKnown chain → known (chain_end d chain)
  end_known d [] own all = own
  end_known d (e ∷ es) own all = end_known e es all.0 all.1

  -- ---- scopes

  parent_known : (ds : List Item) (d e : Item) → parent_of ds d ≡ Some e → Contains ds e
  parent_known ds d e is =
      let above : Item → Bool = λ (x : Item). ltb x.at d.at && eqb (x.depth + 1) d.depth in
      ⊎_elim
      (λ (none : None ≡ Some e). absurd cc)
      (λ (c : Contains (filter above ds) e). (of_filter above ds e c).0)
      (last_member None (filter above ds) e is)

  pub scope_known : (e m : Located) → known e → scope_around e ≡ Some m → known m
  scope_known e m k is = by (parent_of (items_of e.home) e.item) refl is
    where
      by : (o : Option Item) → parent_of (items_of e.home) e.item ≡ o → option_map (at_home e.home) o ≡ Some m → known m
      by None up is = absurd cc
      by (Some x) up is =
          let w = of_flat_map located p.walks e k in
          let home = (of_located w.0 e w.2).0 in
          let there : Contains p.walks e.home = subst (Contains p.walks) (sym home) w.1 in
          subst known (same_Some (at_home e.home x) m is) (to_flat_map located p.walks e.home (at_home e.home x) there (to_map (at_home e.home) (items_of e.home) x (parent_known (items_of e.home) e.item x up)))
