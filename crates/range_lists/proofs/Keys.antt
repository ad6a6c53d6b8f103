-- The keys of a set of lists.
use Rattle.std.proofs.Common.{◌≡◌, ℕ, true, List, [], ◌∷◌, Option, Some, None, ◌<◌, refl, sym, ap, subst, ◌∙◌, inl, inr, ⊎_elim}
use Rattle.std.specs.Prelude.{Contains, ◌||◌}
use Rattle.std.specs.Option.{option_cmp}
use Rattle.std.specs.List.{list_any}
use Rattle.std.specs.BTreeMap.{is_at}
use Rattle.std.specs.BTreeSet.{insert_key}
use Rattle.std.specs.Ordering.{MatchOrdering, is_eq, match_ordering, nat_cmp, ordering_then}
use Rattle.std.specs.declared.cmp.Ordering.{Ordering}
use Rattle.std.specs.declared.cmp.Ordering.TheVariants.{Less, Equal, Greater}
use Rattle.std.proofs.lemmas.Cmp.{ranked}
use mathlib.Core.Logic.{◌⊎◌}
use Rattle.common_laws.proofs.Members.{contains_here, contains_later, contains_cases}
use Rattle.range_lists.specs.declared.found.RangeList.{RangeList}
use Rattle.range_lists.specs.declared.list_entry.ListFormat.{ListFormat}
use Rattle.range_lists.specs.declared.list_entry.ListFormat.TheVariants.{Pairs, Kinds}
use Rattle.range_lists.specs.contracts.found.RangeListOrd.TheImpl as list_ord
use Rattle.range_lists.specs.contracts.list_entry.ListFormatOrd.TheImpl as format_ord

module _ {K : Type 0} (cmp : K → K → Ordering) where
  -- of a set with one key more
  pub of_insert : (ks : List K) (k other : K) → Contains (insert_key cmp ks k) other → (k ≡ other) ⊎ Contains ks other
  of_insert [] k other c = contains_cases k [] other c
  of_insert (x ∷ xs) k other c = by (of_insert xs k other) (cmp k x) c
    where
      by : (Contains (insert_key cmp xs k) other → (k ≡ other) ⊎ Contains xs other) → (o : Ordering) → Contains (match_ordering o (k ∷ x ∷ xs) (x ∷ xs) (x ∷ insert_key cmp xs k)) other → (k ≡ other) ⊎ Contains (x ∷ xs) other
      by later Less d = contains_cases k (x ∷ xs) other d
      by later Equal d = inr d
      by later Greater d = ⊎_elim
          (λ (e : x ≡ other). inr (subst (Contains (x ∷ xs)) e (contains_here x xs)))
          (λ (l : Contains (insert_key cmp xs k) other). ⊎_elim
          (λ (e : k ≡ other). inl e)
          (λ (m : Contains xs other). inr (contains_later x xs other m))
          (later l))
          (contains_cases x (insert_key cmp xs k) other d)

-- a key that is equal to one of a set is that key, where only a key itself is equal to it
pub of_equal : {K : Type 0} (compare : K → Ordering) (k : K) → ((other : K) → compare other ≡ Equal → other ≡ k) → (ks : List K) → list_any (is_at compare) ks ≡ true → Contains ks k
of_equal compare k own [] is = absurd cc
of_equal compare k own (x ∷ xs) is = by (of_equal compare k own xs) (compare x) refl is
  where
    by : (list_any (is_at compare) xs ≡ true → Contains xs k) → (o : Ordering) → compare x ≡ o → (is_eq o || list_any (is_at compare) xs) ≡ true → Contains (x ∷ xs) k
    by later Less e h = contains_later x xs k (later h)
    by later Equal e h = subst (Contains (x ∷ xs)) (own x e) (contains_here x xs)
    by later Greater e h = contains_later x xs k (later h)

-- ---- only a list itself is equal to it

both : (o p : Ordering) → ordering_then o p ≡ Equal → (o ≡ Equal) × (p ≡ Equal)
both Less p h = absurd cc
both Equal p h = (refl, h)
both Greater p h = absurd cc

numbers : (x y : ℕ) → nat_cmp x y ≡ Equal → x ≡ y
numbers x y h = subst (λ (o : Ordering). MatchOrdering o (x < y) (x ≡ y) (y < x)) h (ranked x y (nat_cmp x y) refl)

options : (x y : Option ℕ) → option_cmp nat_cmp x y ≡ Equal → x ≡ y
options None None h = refl
options None (Some y) h = absurd cc
options (Some x) None h = absurd cc
options (Some x) (Some y) h = ap {B = Option ℕ} (λ (n : ℕ). Some n) (numbers x y h)

formats : (x y : ListFormat) → (format_ord.ghosts).cmp x y ≡ Equal → x ≡ y
formats Pairs Pairs h = refl
formats Pairs Kinds h = absurd cc
formats Kinds Pairs h = absurd cc
formats Kinds Kinds h = refl

abbrev pub lists_cmp : RangeList → RangeList → Ordering
lists_cmp = (list_ord.ghosts).cmp

fields : (x y : RangeList) → lists_cmp x y ≡ ordering_then ((format_ord.ghosts).cmp x.format y.format) (ordering_then (nat_cmp x.place y.place) (ordering_then (nat_cmp x.base y.base) (option_cmp nat_cmp x.addr_base y.addr_base)))
fields x y = refl

pub lists : (x y : RangeList) → lists_cmp x y ≡ Equal → y ≡ x
lists x y h =
    let a = both ((format_ord.ghosts).cmp x.format y.format) (ordering_then (nat_cmp x.place y.place) (ordering_then (nat_cmp x.base y.base) (option_cmp nat_cmp x.addr_base y.addr_base))) (sym (fields x y) ∙ h) in
    let b = both (nat_cmp x.place y.place) (ordering_then (nat_cmp x.base y.base) (option_cmp nat_cmp x.addr_base y.addr_base)) a.1 in
    let d = both (nat_cmp x.base y.base) (option_cmp nat_cmp x.addr_base y.addr_base) b.1 in
    sym (
    ap (λ (f : ListFormat). record x { format = f }) (formats x.format y.format a.0) ∙
    ap (λ (n : ℕ). record y { place = n; base = x.base; addr_base = x.addr_base }) (numbers x.place y.place b.0) ∙
    ap (λ (n : ℕ). record y { base = n; addr_base = x.addr_base }) (numbers x.base y.base d.0) ∙
    ap (λ (o : Option ℕ). record y { addr_base = o }) (options x.addr_base y.addr_base d.1))
