-- Entries, and what an index has of them.
use Rattle.std.proofs.Common.{◌≡◌, ℕ, zero, suc, ◌+◌, ◌-◌, ◌<◌, ◌≤◌, Bool, true, false, not, ◌&&◌, ◌||◌, cond, eqb, List, [], ◌∷◌, length, get_or, map, filter, Option, Some, None, refl, sym, ap, ◌∙◌, subst, arith, eq-eqb, ⊎_elim}
use Rattle.std.specs.Prelude.{Contains, bytes_eq, filter_map, slice_get, option_map, unwrap_or, position}
use Rattle.std.specs.List.{enumerate_from, position_or_len}
use Rattle.std.proofs.lemmas.Bool.{lt-ltb, eqb-true}
use Rattle.std.proofs.lemmas.Option.{slice_get-get_or, same_Some}
use Rattle.std.proofs.lemmas.List.Elements.{Contains-get_or}
use Rattle.common_laws.proofs.Members.{contains_here, contains_later, contains_cases, of_filter, to_filter}
use Rattle.index_model.specs.declared.entry.Entry.{Entry}
use Rattle.index_model.specs.declared.unit.Unit.{Unit as UnitHeader}
use Rattle.index_model.specs.Units.{is_types}
use Rattle.index_model.specs.GdbIndex.{is_type_unit}
use Rattle.index_model.specs.Entries.{simple_of}
use Rattle.index_model.specs.NameIndex.{Indexed, units_of_sort, string_of_entry, indexed_entry, all_indexed}
use Rattle.index_model.specs.NameIndexRead.{NameHit}
use Rattle.index_model.proofs.Meanings.{bind_some}
use Rattle.index_alike.specs.NamesAlike.{stands_under, hit_of}
use Rattle.index_alike.proofs.NamesBuckets.{first_up, first_passes}

-- ---- one entry

-- what an index has of an entry of a unit
abbrev pub indexed_as : List UnitHeader → Entry → UnitHeader → Indexed
indexed_as units e u = record { name = string_of_entry e; tag = e.tag; types = is_type_unit u; unit = unwrap_or (position (λ v. eqb v.0 e.unit) (units_of_sort (is_type_unit u) units)) 0; offset = e.offset - u.start }

-- the entry's unit stands in `.debug_info`
pub record IsOf (units : List UnitHeader) (e : Entry) (w : Indexed) : Type 0 where
  pub unit : UnitHeader
  pub at : slice_get units e.unit ≡ Some unit
  pub info : is_types unit.part ≡ false
  pub is : indexed_as units e unit ≡ w

unless : {A : Type 0} (b : Bool) (x y : A) → cond b None (Some x) ≡ Some y → (b ≡ false) × (x ≡ y)
unless true x y is = absurd cc
unless false x y is = (refl, same_Some x y is)

pub indexed_is : (units : List UnitHeader) (e : Entry) (w : Indexed) → indexed_entry units e ≡ Some w → IsOf units e w
unfolding indexed_entry
indexed_is units e w is =
    let p = bind_some (slice_get units e.unit) (λ u. cond (is_types u.part) None (Some (indexed_as units e u))) w is in
    let q = unless (is_types p.0.part) (indexed_as units e p.0) w p.2 in
    record { unit = p.0; at = p.1; info = q.0; is = q.1 }

-- ---- the place of its unit

contains_number : {A : Type 0} (n k : ℕ) (xs : List A) (x : A) → slice_get xs k ≡ Some x → Contains (enumerate_from n xs) (n + k, x)
contains_number n k [] x is = absurd cc
contains_number n zero (y ∷ ys) x is =
    let none : n ≡ n + 0 = omega arith in
    let same : y ≡ x = same_Some y x is in
    subst (Contains ((n, y) ∷ enumerate_from (n + 1) ys)) (λ i. (none i, same i)) (contains_here (n, y) (enumerate_from (n + 1) ys))
contains_number n (suc k) (y ∷ ys) x is =
    let next : n + 1 + k ≡ n + suc k = omega arith in
    contains_later (n, y) (enumerate_from (n + 1) ys) (n + suc k, x) (subst (λ (j : ℕ). Contains (enumerate_from (n + 1) ys) (j, x)) next (contains_number (n + 1) k ys x is))

abbrev is_listed : Bool → ℕ × UnitHeader → Bool
is_listed types u = not (is_types u.1.part) && cond types (is_type_unit u.1) (not (is_type_unit u.1))

listed : (u : ℕ × UnitHeader) → is_types u.1.part ≡ false → is_listed (is_type_unit u.1) u ≡ true
listed u info = rw info (by (is_type_unit u.1))
  where
    by : (b : Bool) → cond b b (not b) ≡ true
    by true = refl
    by false = refl

abbrev numbered : {A : Type 0} → ℕ → A → ℕ × A
numbered n x = (n, x)

abbrev found : {A : Type 0} → A → Option A
found x = Some x

-- what stands in a list with numbers stands at its number
contains_slice : {A : Type 0} (n : ℕ) (xs : List A) (v : ℕ × A) → Contains (enumerate_from n xs) v → (k : ℕ) × (v.0 ≡ n + k) × (slice_get xs k ≡ Some v.1)
contains_slice n [] v c = absurd (omega (arith, c.1))
contains_slice {A = A} n (x ∷ xs) v c = ⊎_elim {A = numbered n x ≡ v}
    (λ (same : numbered n x ≡ v). (0, (let at : n ≡ v.0 = ap (λ (p : ℕ × A). p.0) same in omega (arith, at)), ap (λ (p : ℕ × A). found p.1) same))
    (λ (l : Contains (enumerate_from (n + 1) xs) v). let r = contains_slice (n + 1) xs v l in let at = r.1 in (suc r.0, omega (arith, at), r.2))
    (contains_cases (numbered n x) (enumerate_from (n + 1) xs) v c)

-- the unit stands at its place in the list of its sort
pub record IsListed (units : List UnitHeader) (e : Entry) (w : Indexed) (u : UnitHeader) : Type 0 where
  pub within : w.unit < length (units_of_sort w.types units)
  pub at : slice_get (units_of_sort w.types units) w.unit ≡ Some (e.unit, u)

pub unit_listed : (units : List UnitHeader) (e : Entry) (w : Indexed) (h : IsOf units e w) → IsListed units e w h.unit
unit_listed units e w h =
    let u : UnitHeader = h.unit in
    let types : Bool = is_type_unit u in
    let none : 0 + e.unit ≡ e.unit = omega arith in
    let all = subst (λ (k : ℕ). Contains (enumerate_from 0 units) (k, u)) none (contains_number 0 e.unit units u h.at) in
    let c = to_filter (is_listed types) (enumerate_from 0 units) (e.unit, u) all (listed (e.unit, u) h.info) in
    let us = units_of_sort types units in
    let first : ℕ = position_or_len (λ v. eqb v.0 e.unit) us in
    let low : first ≤ c.0 = first_up (λ v. eqb v.0 e.unit) us c.0 (e.unit, u) c.1 (ap (λ (v : ℕ × UnitHeader). eqb v.0 e.unit) c.2 ∙ eq-eqb e.unit e.unit refl) in
    let within : first < length us = omega (arith, low, c.1) in
    let v : ℕ × UnitHeader = get_or us first (e.unit, u) in
    let number : v.0 ≡ e.unit = eqb-true _ _ (first_passes (λ v. eqb v.0 e.unit) us (e.unit, u) within) in
    let s = contains_slice 0 units v (of_filter (is_listed types) (enumerate_from 0 units) v (Contains-get_or us first (e.unit, u) within)).0 in
    let slot : s.0 ≡ e.unit = (let at = s.1 in omega (arith, at, number)) in
    let unit : v.1 ≡ u = same_Some v.1 u (sym s.2 ∙ ap (slice_get units) slot ∙ h.at) in
    let own : slice_get us first ≡ Some (e.unit, u) = slice_get-get_or us first (e.unit, u) within ∙ (λ i. Some (number i, unit i)) in
    let place : first ≡ (indexed_as units e u).unit = sym (ap (λ (b : Bool). unwrap_or (cond b (Some first) None) 0) (lt-ltb first (length us) within)) in
    let made : IsListed units e (indexed_as units e u) u = record { within = subst (λ (k : ℕ). k < length us) place within; at = subst (λ (k : ℕ). slice_get us k ≡ Some (e.unit, u)) place own } in
    subst (λ (x : Indexed). IsListed units e x u) h.is made

-- ---- all entries

-- an entry stands under the name that the index has of it
under_is : (name : List ℕ) (e : Entry) → bytes_eq (string_of_entry e) name ≡ stands_under name e
under_is name e = by e.linkage
  where
    or_none : (b : Bool) → b ≡ (b || false)
    or_none true = refl
    or_none false = refl

    by : (b : Bool) → bytes_eq (cond b e.name (simple_of e)) name ≡ ((not b && bytes_eq (simple_of e) name) || (b && bytes_eq e.name name))
    by true = refl
    by false = or_none (bytes_eq (simple_of e) name)

abbrev hits : List UnitHeader → List ℕ → List Entry → List NameHit
hits units name es = filter_map (λ e. option_map hit_of (indexed_entry units e)) (filter (stands_under name) es)

-- the entries that an index has of a name are those that stand under it
pub own_are : (units : List UnitHeader) (entries : List Entry) (name : List ℕ) →
    map hit_of (filter (λ w. bytes_eq w.name name) (all_indexed units entries)) ≡ filter_map (λ e. option_map hit_of (indexed_entry units e)) (filter (stands_under name) entries)
unfolding all_indexed
own_are units [] name = refl
own_are units (e ∷ entries) name = by (indexed_entry units e) refl (stands_under name e) refl (own_are units entries name)
  where
    by : (o : Option Indexed) → indexed_entry units e ≡ o → (b : Bool) → stands_under name e ≡ b → map hit_of (filter (λ w. bytes_eq w.name name) (filter_map (indexed_entry units) entries)) ≡ hits units name entries
        → map hit_of (filter (λ w. bytes_eq w.name name) (filter_map (indexed_entry units) (e ∷ entries))) ≡ hits units name (e ∷ entries)
    by None is true under rest = rw (is, under, is) rest
    by None is false under rest = rw (is, under) rest
    by (Some w) is true under rest =
        let h = indexed_is units e w is in
        let test : bytes_eq w.name name ≡ true = ap (λ (x : Indexed). bytes_eq x.name name) (sym h.is) ∙ under_is name e ∙ under in
        rw (is, test, under, is) (ap (λ (hs : List NameHit). hit_of w ∷ hs) rest)
    by (Some w) is false under rest =
        let h = indexed_is units e w is in
        let test : bytes_eq w.name name ≡ false = ap (λ (x : Indexed). bytes_eq x.name name) (sym h.is) ∙ under_is name e ∙ under in
        rw (is, test, under) rest

abbrev IsMadeOfOne : List UnitHeader → Indexed → List Entry → Type 0
IsMadeOfOne units w es = (d : Entry) × Contains es d × IsOf units d w

-- each entry of the index is made of an entry
pub of_indexed : (units : List UnitHeader) (entries : List Entry) (w : Indexed) → Contains (all_indexed units entries) w → (e : Entry) × Contains entries e × IsOf units e w
unfolding all_indexed
of_indexed units [] w c = absurd (omega (arith, c.1))
of_indexed units (e ∷ entries) w c = by (indexed_entry units e) refl c (λ l. of_indexed units entries w l)
  where
    later : IsMadeOfOne units w entries → IsMadeOfOne units w (e ∷ entries)
    later f = (f.0, contains_later e entries f.0 f.1, f.2)

    by : (o : Option Indexed) → indexed_entry units e ≡ o → Contains (filter_map (indexed_entry units) (e ∷ entries)) w → (Contains (filter_map (indexed_entry units) entries) w → IsMadeOfOne units w entries) → IsMadeOfOne units w (e ∷ entries)
    by None is c rest = later (rest (rw is at c))
    by (Some v) is c rest =
        let d : Contains (v ∷ filter_map (indexed_entry units) entries) w = rw is at c in
        ⊎_elim (λ (same : v ≡ w). (e, contains_here e entries, subst (IsOf units e) same (indexed_is units e v is))) (λ (l : Contains (filter_map (indexed_entry units) entries) w). later (rest l)) (contains_cases v (filter_map (indexed_entry units) entries) w d)
