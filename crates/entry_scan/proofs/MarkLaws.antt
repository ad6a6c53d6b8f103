-- Attributes that have no mark aren't there.
use Rattle.std.proofs.Common.{◌≡◌, ℕ, max, ◌<◌, ◌==◌, false, List, [], ◌∷◌, bit_or, All, None, Result, Ok, Err, refl, subst, ◌∙◌, arith}
use Rattle.std.specs.Int.{bit_at}
use Rattle.std.specs.List.{find}
use Rattle.std.proofs.lemmas.Bool.{eqb-true, false_from_ne_true}
use Rattle.std.proofs.lemmas.Nat.Bits.{bit_at_or, bit_at-lt}
use Rattle.std.proofs.lemmas.List.Elements.{All-head, All-tail, All-cons, All-nil}
use Rattle.ix_base.specs.Reading.{Input}
use Rattle.index_model.specs.Forms.{Value, value_at}
use Rattle.index_model.specs.Walk.{values}
use Rattle.entry_scan.specs.declared.abbreviation.Spec.{Spec}
use Rattle.entry_scan.specs.declared.values.UnitFormat.{UnitFormat}
use Rattle.entry_scan.specs.declared.marks.AttributeBits.{AttributeBits}
use Rattle.entry_scan.specs.Marks.{HasMark, AreMarks, AreMarked}
use Rattle.entry_scan.specs.Values.{values_at, value_read}
use Rattle.entry_scan.proofs.ValueLaws.{next_value, before}

-- ---- bits

one_or : (a b : ℕ) → a ≡ 1 → b < 2 → max a b ≡ 1
one_or a b e lt = grind arith

-- what is set stays set
pub stays_set : (n m i : ℕ) → bit_at n i ≡ 1 → bit_at (bit_or n m) i ≡ 1
stays_set n m i e = bit_at_or n m i ∙ one_or (bit_at n i) (bit_at m i) e (bit_at-lt m i)

-- ---- values

module _ (f : UnitFormat) (m : AttributeBits) where
  abbrev P : ℕ × Value → Type 0
  P v = HasMark m v.0

  marked_before : (p : ℕ × Value) (r : Result (List (ℕ × Value) × Input) ℕ) → P p → All P (value_read r) → All P (value_read (before p r))
  marked_before p (Ok x) here all = All-cons P p x.0 here all
  marked_before p (Err code) here all = All-nil P

  module _ (s : Spec) (ss : List Spec) (i : Input) (here : HasMark m s.attribute) (others : (j : Input) → All P (value_read (values_at f ss j))) where
    next_marked : (r : Result (Value × Input) ℕ) → value_at f.version f.wide s.form s.constant i ≡ r → All P (value_read (values_at f (s ∷ ss) i))
    unfolding values
    next_marked (Ok x) e = rw (next_value f s ss i x.0 x.1 e) (marked_before (s.attribute, x.0) (values_at f ss x.1) here (others x.1))
    next_marked (Err code) e = rw e (All-nil P)

  -- the values of marked attributes
  pub values_marked : (ss : List Spec) (i : Input) → AreMarks ss m → AreMarked (value_read (values_at f ss i)) m
  unfolding values
  values_marked [] i all = All-nil P
  values_marked (s ∷ ss) i all =
      let Q : Spec → Type 0 = λ s. HasMark m s.attribute in
      next_marked s ss i (All-head Q s ss all) (λ j. values_marked ss j (All-tail Q s ss all)) (value_at f.version f.wide s.form s.constant i) refl

-- an attribute without a mark isn't there
pub not_there : (vs : List (ℕ × Value)) (m : AttributeBits) (n : ℕ) → AreMarked vs m → (HasMark m n → ⊥) → find (λ (v : ℕ × Value). v.0 == n) vs ≡ None
not_there [] m n all lacks = refl
not_there (v ∷ vs) m n all lacks =
    let P : ℕ × Value → Type 0 = λ v. HasMark m v.0 in
    let own : HasMark m v.0 = All-head P v vs all in
    let other : (v.0 == n) ≡ false = false_from_ne_true _ (λ e. lacks (subst (λ (k : ℕ). HasMark m k) (eqb-true v.0 n e) own)) in
    rw other (not_there vs m n (All-tail P v vs all) lacks)
