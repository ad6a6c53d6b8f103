-- The first value of a number, by the attributes before it.
use Rattle.std.proofs.Common.{◌≡◌, ℕ, ◌==◌, List, ◌∷◌, length, option_map, Option, Some, None, Ok, Err, refl}
use Rattle.std.specs.List.{find}
use Rattle.std.proofs.lemmas.Bool.{eq-eqb, ne_eqb}
use Rattle.ix_base.specs.Reading.{Input}
use Rattle.index_model.specs.Forms.{Value, value_at}
use Rattle.entry_scan.specs.declared.abbreviation.Spec.{Spec}
use Rattle.entry_scan.specs.declared.values.UnitFormat.{UnitFormat}
use Rattle.entry_scan.specs.Values.{values_at, value_read, place_read, IsRead}
use Rattle.entry_scan.proofs.ValueLaws.{first_at, rest_read, value_next, place_stops, none_left}

module _ (f : UnitFormat) (n : ℕ) where
  abbrev pub first : List Spec → Input → Option (ℕ × Value)
  first ss i = find (λ (v : ℕ × Value). v.0 == n) (value_read (values_at f ss i))

  abbrev text : Option (ℕ × Value) → Option Value
  text o = option_map (λ (v : ℕ × Value). v.1) o

  first_of_all : (p : ℕ × Value) (vs : List (ℕ × Value)) → p.0 ≡ n → text (find (λ (v : ℕ × Value). v.0 == n) (p ∷ vs)) ≡ Some p.1
  first_of_all p vs e = rw (eq-eqb p.0 n e) refl

  other_first : (p : ℕ × Value) (vs : List (ℕ × Value)) → (p.0 ≡ n → ⊥) → find (λ (v : ℕ × Value). v.0 == n) (p ∷ vs) ≡ find (λ (v : ℕ × Value). v.0 == n) vs
  other_first p vs e = rw (ne_eqb p.0 n e) refl

  pub none_first : (ss : List Spec) (i : Input) → length ss ≡ 0 → text (first ss i) ≡ None
  none_first ss i e = rw (none_left f ss i e) refl

  module _ (s : Spec) (ss : List Spec) (i : Input) (all : IsRead (values_at f (s ∷ ss) i)) where
    -- the value stands here
    pub found : (v : Value) (j : Input) → value_at f.version f.wide s.form s.constant i ≡ Ok (v, j) → s.attribute ≡ n → text (first (s ∷ ss) i) ≡ Some v
    found v j e same = rw (value_next f s ss i v j e (rest_read f s ss i v j e all)) (first_of_all (s.attribute, v) (value_read (values_at f ss j)) same)

    -- it stands behind this one
    pub passed : (j : Input) → place_read (value_at f.version f.wide s.form s.constant i) ≡ Ok j → (s.attribute ≡ n → ⊥) → IsRead (values_at f ss j) × (first (s ∷ ss) i ≡ first ss j)
    passed j e other =
        let v = first_at f s ss i (value_at f.version f.wide s.form s.constant i) j e refl in
        let rest = rest_read f s ss i v.0 j v.1 all in
        (rest, rw (value_next f s ss i v.0 j v.1 rest) (other_first (s.attribute, v.0) (value_read (values_at f ss j)) other))

    -- this one can be read
    pub no_stop : (code : ℕ) → place_read (value_at f.version f.wide s.form s.constant i) ≡ Err code → ⊥
    no_stop code e = let stuck = place_stops f s ss i code e in let read = all.1 in cc
