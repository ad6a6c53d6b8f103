-- What look-ups give of the index that was read.
use Rattle.std.proofs.Common.{◌≡◌, ℕ, Bool, true, false, List, [], ◌∷◌, ◌++◌, map, filter, refl, sym, ap, ◌∙◌, subst, arith, ⊎_elim}
use Rattle.std.specs.Prelude.{flat_map, Contains, bytes_eq}
use Rattle.std.proofs.lemmas.Bool.{true≢false}
use Rattle.std.proofs.lemmas.List.{append-nil}
use Rattle.std.proofs.lemmas.Slice.Eq.{bytes_eq-Decides}
use Rattle.common_laws.proofs.Members.{contains_here, contains_later, contains_cases, of_filter}
use Rattle.index_model.specs.declared.entry.Entry.{Entry}
use Rattle.index_model.specs.declared.unit.Unit.{Unit as UnitHeader}
use Rattle.index_model.specs.NameIndex.{Indexed}
use Rattle.index_model.specs.NameIndexRead.{NameHit, name_index_hits}
use Rattle.index_model.proofs.Pairs.{Pairs}
use Rattle.index_alike.specs.NamesAlike.{hit_of}
use Rattle.index_alike.proofs.NamesParts.{es, names, entry_name}
use Rattle.index_alike.proofs.NamesRead.{own, named}

-- the first is another than the second
abbrev pub Apart : List ℕ → List ℕ → Type 0
Apart x y = x ≡ y → ⊥

module _ (units : List UnitHeader) (old : ℕ) (entries : List Entry) (name : List ℕ) where
  -- what a look-up gives of an index with these names
  abbrev given : List (List ℕ) → List NameHit
  given ns = flat_map (λ m. m.hits) (filter (λ m. bytes_eq m.name name) (map (named units old entries) ns))

  -- the entries of the name
  abbrev own_hits : List NameHit
  own_hits = map hit_of (own units old entries name)

  same : (x : List ℕ) → bytes_eq x name ≡ true → x ≡ name
  same x e = (bytes_eq-Decides x name).0 e

  -- a name without entries gives nothing
  none_given : (ns : List (List ℕ)) → own_hits ≡ [] → given ns ≡ []
  none_given [] none = refl
  none_given (x ∷ ns) none = by (bytes_eq x name) refl (none_given ns none)
    where
      by : (b : Bool) → bytes_eq x name ≡ b → given ns ≡ [] → given (x ∷ ns) ≡ []
      by true e rest = rw e (λ i. (ap (λ (y : List ℕ). map hit_of (own units old entries y)) (same x e) ∙ none) i ++ rest i)
      by false e rest = rw e rest

  -- nor does one that isn't there
  not_given : (ns : List (List ℕ)) → (Contains ns name → ⊥) → given ns ≡ []
  not_given [] other = refl
  not_given (x ∷ ns) other = by (bytes_eq x name) refl (not_given ns (λ l. other (contains_later x ns name l)))
    where
      by : (b : Bool) → bytes_eq x name ≡ b → given ns ≡ [] → given (x ∷ ns) ≡ []
      by true e rest = absurd (other (subst (Contains (x ∷ ns)) (same x e) (contains_here x ns)))
      by false e rest = rw e rest

  -- of distinct names one gives all
  one_given : (ns : List (List ℕ)) → Pairs Apart ns → Contains ns name → given ns ≡ own_hits
  one_given [] apart c = absurd (omega (arith, c.1))
  one_given (x ∷ ns) apart c = by (bytes_eq x name) refl (λ l. one_given ns apart.1 l)
    where
      by : (b : Bool) → bytes_eq x name ≡ b → (Contains ns name → given ns ≡ own_hits) → given (x ∷ ns) ≡ own_hits
      by true e rest =
          let here : x ≡ name = same x e in
          let none : given ns ≡ [] = not_given ns (λ l. apart.0 name l here) in
          rw e (λ i. map hit_of (own units old entries (here i)) ++ none i) ∙ append-nil own_hits
      by false e rest =
          let later : Contains ns name = ⊎_elim (λ (g : x ≡ name). absurd (true≢false (sym ((bytes_eq-Decides x name).1 g) ∙ e))) (λ (l : Contains ns name). l) (contains_cases x ns name c) in
          rw e (rest later)

  -- look-ups give all entries of the name
  pub hits_are : Pairs Apart (names units old entries) → name_index_hits (record { names = map (named units old entries) (names units old entries) }) name ≡ own_hits
  hits_are apart = by (own units old entries name) refl
    where
      by : (os : List Indexed) → own units old entries name ≡ os → given (names units old entries) ≡ own_hits
      by [] e = let none : own_hits ≡ [] = ap (map hit_of) e in none_given (names units old entries) none ∙ sym none
      by (o ∷ os) e =
          let c : Contains (own units old entries name) o = subst (λ (w : List Indexed). Contains w o) (sym e) (contains_here o os) in
          let m = of_filter (λ (e : Indexed). bytes_eq e.name name) (es units old entries) o c in
          one_given (names units old entries) apart (subst (Contains (names units old entries)) (same o.name m.1) (entry_name units old entries o m.0))
