-- The values of attributes, one after the other.
use Rattle.std.proofs.Common.{◌≡◌, ℕ, ◌+◌, ◌<◌, pos, length, drop, get_or, drop-cons, add-one, arith, List, [], ◌∷◌, Result, Ok, Err, refl, ap, ◌∙◌, sym}
use Rattle.ix_base.specs.Reading.{Input}
use Rattle.index_model.specs.Meaning.{◌>>=◌}
use Rattle.index_model.specs.Forms.{Value, value_at}
use Rattle.index_model.specs.Walk.{values}
use Rattle.entry_scan.specs.declared.abbreviation.Spec.{Spec}
use Rattle.entry_scan.specs.declared.values.UnitFormat.{UnitFormat}
use Rattle.entry_scan.specs.Values.{values_at, value_read, place_read, IsRead}

-- one more value before the others
abbrev pub before : ℕ × Value → Result (List (ℕ × Value) × Input) ℕ → Result (List (ℕ × Value) × Input) ℕ
before p r = r >>= λ others. Ok (p ∷ others.0, others.1)

place_before : (p : ℕ × Value) (r : Result (List (ℕ × Value) × Input) ℕ) → place_read (before p r) ≡ place_read r
place_before p (Ok x) = refl
place_before p (Err code) = refl

value_before : (p : ℕ × Value) (r : Result (List (ℕ × Value) × Input) ℕ) (j : Input) → place_read r ≡ Ok j → value_read (before p r) ≡ p ∷ value_read r
value_before p (Ok x) j e = refl
value_before p (Err code) j e = absurd cc

abbrev pub zero_spec : Spec
zero_spec = record { attribute = 0; form = 0; constant = pos 0 }

-- the spec at an index, and those behind it
pub specs_from : (specs : List Spec) (k : ℕ) → k < length specs → drop k specs ≡ get_or specs k zero_spec ∷ drop (k + 1) specs
specs_from specs k lt = rw (add-one, drop-cons specs k zero_spec) refl

-- of no attributes there are no values
pub none_left : (f : UnitFormat) (ss : List Spec) (i : Input) → length ss ≡ 0 → value_read (values_at f ss i) ≡ []
unfolding values
none_left f [] i e = refl
none_left f (s ∷ ss) i e = absurd (omega arith)

-- of no attributes the place stays
pub none_moves : (f : UnitFormat) (ss : List Spec) (i : Input) → ss ≡ [] → place_read (values_at f ss i) ≡ Ok i
unfolding values
none_moves f ss i e = rw e refl

module _ (f : UnitFormat) (s : Spec) (ss : List Spec) (i : Input) where
  pub next_value : (v : Value) (j : Input) → value_at f.version f.wide s.form s.constant i ≡ Ok (v, j) → values_at f (s ∷ ss) i ≡ before (s.attribute, v) (values_at f ss j)
  unfolding values
  next_value v j e = rw e refl

  -- the reading goes on behind the first value
  pub place_next : (v : Value) (j : Input) → value_at f.version f.wide s.form s.constant i ≡ Ok (v, j) → place_read (values_at f (s ∷ ss) i) ≡ place_read (values_at f ss j)
  place_next v j e = ap (λ (r : Result (List (ℕ × Value) × Input) ℕ). place_read r) (next_value v j e) ∙ place_before (s.attribute, v) (values_at f ss j)

  -- the reading stops at the first value
  pub place_fault : (code : ℕ) → value_at f.version f.wide s.form s.constant i ≡ Err code → place_read (values_at f (s ∷ ss) i) ≡ Err code
  unfolding values
  place_fault code e = rw e refl

  abbrev first : Result (Value × Input) ℕ
  first = value_at f.version f.wide s.form s.constant i

  pub first_at : (r : Result (Value × Input) ℕ) (j : Input) → place_read r ≡ Ok j → first ≡ r → (v : Value) × (first ≡ Ok (v, j))
  first_at (Ok x) j e g = let same : x.1 ≡ j = cc in (x.0, g ∙ ap (λ (k : Input). let made : Result (Value × Input) ℕ = Ok (x.0, k) in made) same)
  first_at (Err code) j e g = absurd cc

  stopped_at : (r : Result (Value × Input) ℕ) (code : ℕ) → place_read r ≡ Err code → r ≡ Err code
  stopped_at (Ok x) code e = absurd cc
  stopped_at (Err c) code e = cc

  -- the same, where the value isn't kept
  pub place_goes : (j : Input) → place_read first ≡ Ok j → place_read (values_at f (s ∷ ss) i) ≡ place_read (values_at f ss j)
  place_goes j e = let h = first_at first j e refl in place_next h.0 j h.1

  pub place_stops : (code : ℕ) → place_read first ≡ Err code → place_read (values_at f (s ∷ ss) i) ≡ Err code
  place_stops code e = place_fault code (stopped_at first code e)

  -- the first value, and the others
  pub value_next : (v : Value) (j : Input) → value_at f.version f.wide s.form s.constant i ≡ Ok (v, j) → IsRead (values_at f ss j) → value_read (values_at f (s ∷ ss) i) ≡ (s.attribute, v) ∷ value_read (values_at f ss j)
  value_next v j e h = ap (λ (r : Result (List (ℕ × Value) × Input) ℕ). value_read r) (next_value v j e) ∙ value_before (s.attribute, v) (values_at f ss j) h.0 h.1

  -- behind the first value the others can be read
  pub rest_read : (v : Value) (j : Input) → value_at f.version f.wide s.form s.constant i ≡ Ok (v, j) → IsRead (values_at f (s ∷ ss) i) → IsRead (values_at f ss j)
  rest_read v j e h = (h.0, sym (place_next v j e) ∙ h.1)

  -- where all can be read the first can
  pub no_fault : (code : ℕ) → value_at f.version f.wide s.form s.constant i ≡ Err code → IsRead (values_at f (s ∷ ss) i) → ⊥
  no_fault code e h = let stuck = place_fault code e in let read = h.1 in cc
