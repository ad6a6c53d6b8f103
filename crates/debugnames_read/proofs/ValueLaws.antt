-- The values of an entry, one after the other.
use Rattle.std.proofs.Common.{◌≡◌, ℕ, Bool, true, false, cond, eqb, List, [], ◌∷◌, ◌++◌, Option, Some, None, option_map, refl, ap, sym, append_assoc, ◌∙◌}
use Rattle.std.specs.Prelude.{find}
use Rattle.std.proofs.lemmas.List.{append-nil}
use Rattle.ix_base.specs.Reading.{Input, ◌>>=◌}
use Rattle.index_model.specs.NameAbbreviations.{Attribute, Spec, forms, value_of, values}
use Rattle.debugnames_read.specs.Values.{Kept, first_values, kept_of, kept_or, value_by, with_value}

-- values behind others
abbrev pub behind : List Attribute → Option (List Attribute × Input) → Option (List Attribute × Input)
behind vs r = r >>= λ others. Some (vs ++ others.0, others.1)

abbrev with_first : ℕ → Option ℕ → Option (List Attribute × Input) → Option (List Attribute × Input)
with_first attribute v r = r >>= λ others. Some ((attribute, v) ∷ others.0, others.1)

module _ (wide : Bool) (s : Spec) (ss : List Spec) (i : Input) where
  abbrev on_value : Option (Option ℕ × Input) → Option (List Attribute × Input)
  on_value r = r >>= λ v. with_first s.attribute v.0 (values wide ss v.1)

  values_step : values wide (s ∷ ss) i ≡ on_value (value_by wide s.form i)
  unfolding values
  values_step = by (find (λ row. eqb row.0 s.form) (forms wide))
    where
      by : (r : Option (ℕ × (Input → Option (Option ℕ × Input)))) → (r >>= λ row. on_value (row.1 i)) ≡ on_value (r >>= λ row. row.1 i)
      by None = refl
      by (Some row) = refl

  pub no_value : value_by wide s.form i ≡ None → values wide (s ∷ ss) i ≡ None
  no_value e = values_step ∙ rw e refl

  pub one_value : (v : Option ℕ) (j : Input) → value_by wide s.form i ≡ Some (v, j) → values wide (s ∷ ss) i ≡ with_first s.attribute v (values wide ss j)
  one_value v j e = values_step ∙ rw e refl

pub no_values : (wide : Bool) (i : Input) → values wide [] i ≡ Some ([], i)
unfolding values
no_values wide i = refl

pub behind_first : (vs : List Attribute) (attribute : ℕ) (v : Option ℕ) (r : Option (List Attribute × Input)) → behind vs (with_first attribute v r) ≡ behind (vs ++ (attribute, v) ∷ []) r
behind_first vs attribute v None = refl
behind_first vs attribute v (Some x) = ap (λ (ws : List Attribute). let r : Option (List Attribute × Input) = Some (ws, x.1) in r) (sym (append_assoc vs ((attribute, v) ∷ []) x.0))

-- ---- what is kept

abbrev value_in : Option Attribute → Option (Option ℕ)
value_in o = option_map (λ (w : Attribute). w.1) o

abbrev found_at : ℕ → List Attribute → Option Attribute
found_at n vs = find (λ (w : Attribute). eqb w.0 n) vs

one_kept : (attribute : ℕ) (v : Option ℕ) (b : Bool) → value_in (cond b (Some (attribute, v)) None) ≡ cond b (Some v) None
one_kept attribute v true = refl
one_kept attribute v false = refl

first_kept : (n attribute : ℕ) (v : Option ℕ) (w : Attribute) (ws : List Attribute) (b : Bool) → value_in (found_at n (ws ++ (attribute, v) ∷ [])) ≡ kept_or n attribute v (value_in (found_at n ws)) → value_in (cond b (Some w) (found_at n (ws ++ (attribute, v) ∷ []))) ≡ kept_or n attribute v (value_in (cond b (Some w) (found_at n ws)))
first_kept n attribute v w ws true more = refl
first_kept n attribute v w ws false more = more

value_kept : (n : ℕ) (vs : List Attribute) (attribute : ℕ) (v : Option ℕ) → value_of n (vs ++ (attribute, v) ∷ []) ≡ kept_or n attribute v (value_of n vs)
value_kept n [] attribute v = one_kept attribute v (eqb attribute n)
value_kept n (w ∷ ws) attribute v = first_kept n attribute v w ws (eqb w.0 n) (value_kept n ws attribute v)

pub kept_more : (vs : List Attribute) (attribute : ℕ) (v : Option ℕ) → kept_of (vs ++ (attribute, v) ∷ []) ≡ with_value (kept_of vs) attribute v
kept_more vs attribute v = rw (value_kept 1 vs attribute v, value_kept 2 vs attribute v, value_kept 3 vs attribute v) refl

-- ---- the first values of an entry

module _ (wide : Bool) (ss : List Spec) (i : Input) (vs : List Attribute) (ts : List Spec) (j : Input) (so_far : values wide ss i ≡ behind vs (values wide ts j)) where
  abbrev kept_by : Option (List Attribute × Input) → Option (Kept × Input)
  kept_by r = r >>= λ ws. Some (kept_of ws.0, ws.1)

  pub kept_end : ts ≡ [] → first_values wide ss i ≡ Some (kept_of vs, j)
  kept_end e = ap kept_by (so_far ∙ ap (behind vs) (ap (λ (us : List Spec). values wide us j) e ∙ no_values wide j)) ∙ ap (λ (ws : List Attribute). let r : Option (Kept × Input) = Some (kept_of ws, j) in r) (append-nil vs)

  module _ (s : Spec) (us : List Spec) (e : ts ≡ s ∷ us) where
    pub kept_cut : value_by wide s.form j ≡ None → first_values wide ss i ≡ None
    kept_cut f = ap kept_by (so_far ∙ ap (behind vs) (ap (λ (us : List Spec). values wide us j) e ∙ no_value wide s us j f))

    pub so_further : (v : Option ℕ) (k : Input) → value_by wide s.form j ≡ Some (v, k) → values wide ss i ≡ behind (vs ++ (s.attribute, v) ∷ []) (values wide us k)
    so_further v k f = so_far ∙ ap (behind vs) (ap (λ (us : List Spec). values wide us j) e ∙ one_value wide s us j v k f) ∙ behind_first vs s.attribute v (values wide us k)
