-- In which shard an entry of a file is found.
use Rattle.std.proofs.Common.{◌≡◌, ℕ, ◌<◌, ◌≤◌, Bool, true, cond, List, map, length, get_or, Option, Some, None, Ok, refl, sym, ap, subst, ◌∙◌, ⊎_elim}
use Rattle.std.specs.Prelude.{Contains, find, position}
use Rattle.std.specs.Arc.{arc_value}
use Rattle.std.specs.declared.sync.Arc.{Arc}
use Rattle.std.specs.List.{position_or_len}
use Rattle.std.proofs.lemmas.Bool.{lt-ltb, cases_lt}
use Rattle.std.proofs.lemmas.List.Folds.{find_at}
use Rattle.std.proofs.lemmas.List.Quantifiers.{position-Some}
use Rattle.std.proofs.lemmas.Option.{slice_get_past, same_Some}
use Rattle.common_laws.proofs.Members.{of_map, to_map}
use Rattle.index_model.specs.declared.shard.Shard.{Shard}
use Rattle.index_model.specs.Faults.{program_of}
use Rattle.index_model.specs.Program.{Program, Located, item_with_offset}
use Rattle.index_model.specs.Shards.{AreShardsOf}
use Rattle.index_model.proofs.ShardRuns.{shard_run}
use Rattle.shard_build.specs.declared.found.NodeOrSpan.{NodeOrSpan}
use Rattle.shard_build.specs.Found.{has_unit, IsUnitAt, IsFound, IsFoundIn}
use Rattle.shard_build.proofs.OnePlace.{find_none, home_of, in_program}
use Rattle.shard_build.proofs.UnitNumbers.{some_shard, unit_in_run}

-- ---- shared shards

position_none : {A : Type 0} (p : A → Bool) (xs : List A) → position p xs ≡ None → find p xs ≡ None
position_none p xs is = ⊎_elim
    (λ (lt : position_or_len p xs < length xs). let on = lt-ltb (position_or_len p xs) (length xs) lt in let found = sym is ∙ ap (λ (b : Bool). cond b (Some (position_or_len p xs)) None) on in absurd cc)
    (λ (ge : length xs ≤ position_or_len p xs). find_at p xs ∙ slice_get_past xs (position_or_len p xs) ge)
    (cases_lt (position_or_len p xs) (length xs))

module _ {Z : Type 0} (u : ℕ) (shared : List (Arc Shard Z)) where
  abbrev shards : List Shard
  shards = map arc_value shared

  abbrev has : Arc Shard Z → Bool
  has s = has_unit u (arc_value s)

  pub none_has : position has shared ≡ None → (s : Shard) → Contains shards s → has_unit u s ≡ true → ⊥
  none_has none s c on =
      let m = of_map arc_value shared s c in
      find_none has shared (position_none has shared none) m.0 m.1 (ap (has_unit u) m.2 ∙ on)

  pub one_has : (k : ℕ) (item : Arc Shard Z) → position has shared ≡ Some k → item ≡ get_or shared k item → Contains shards (arc_value item) × (has_unit u (arc_value item) ≡ true)
  one_has k item some at =
      let h = position-Some has shared k item some in
      (to_map arc_value shared item (k, h.0, sym at), ap has at ∙ h.1)

-- ---- the entry at an offset

module _ (f : List ℕ) (p : Program) (is : program_of f ≡ Ok p) (shards : List Shard) (are : AreShardsOf p shards) (o : ℕ) where
  -- without a unit no entry stands there
  pub no_unit : IsUnitAt f o None → item_with_offset p o ≡ None
  no_unit at = by_entry (item_with_offset p o) refl
    where
      by_entry : (q : Option Located) → item_with_offset p o ≡ q → item_with_offset p o ≡ None
      by_entry None e = e
      by_entry (Some d) e = let h = home_of f p is o d e in let found = at p is d.home h.0 d.item h.1 h.2 in absurd cc

  module _ (u : ℕ) (at : IsUnitAt f o (Some u)) where
    unit_is : (d : Located) → item_with_offset p o ≡ Some d → u ≡ d.home.number
    unit_is d e = let h = home_of f p is o d e in same_Some u d.home.number (at p is d.home h.0 d.item h.1 h.2)

    has_home : (d : Located) → item_with_offset p o ≡ Some d → (s : Shard) → has_unit u s ≡ true → has_unit d.home.number s ≡ true
    has_home d e s on = subst (λ (n : ℕ). has_unit n s ≡ true) (unit_is d e) on

    -- without a shard that has the unit no entry stands there
    pub no_shard : ((s : Shard) → Contains shards s → has_unit u s ≡ true → ⊥) → item_with_offset p o ≡ None
    no_shard none = by_entry (item_with_offset p o) refl
      where
        by_entry : (q : Option Located) → item_with_offset p o ≡ q → item_with_offset p o ≡ None
        by_entry None e = e
        by_entry (Some d) e =
            let h = home_of f p is o d e in
            let s = some_shard f p is shards are d.home h.0 in
            absurd (none s.0 s.1 (subst (λ (n : ℕ). has_unit n s.0 ≡ true) (sym (unit_is d e)) s.2))

    -- an entry is found in the shard that has the unit
    pub found_in : (s : Shard) → Contains shards s → has_unit u s ≡ true → (found : NodeOrSpan) → IsFoundIn s o found → IsFound p o found
    found_in s c on found there =
        let r = shard_run p shards are s c in
        there f p r.0 is r.1 r.2 (λ d e. let h = home_of f p is o d e in unit_in_run f p is s r.0 r.1 r.2 (in_program p r.0 r.1) d.home h.0 (has_home d e s on))
