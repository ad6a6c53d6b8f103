-- The places of units in their lists, and what stands in them.
use Rattle.std.proofs.Common.{Fits, w32, ◌≡◌, ℕ, zero, suc, ◌+◌, ◌-◌, ◌<◌, ◌≤◌, Bool, true, false, cond, eqb, List, [], ◌∷◌, ◌++◌, length, get_or, take, drop, map, Option, Some, None, refl, sym, ap, ◌∙◌, arith, length-append, eq-eqb}
use mathlib.Core.Bool.{not, ◌&&◌}
use Rattle.std.specs.Prelude.{All, filter, filter_map, flat_map, position, slice_get, option_map, unwrap_or, IsSomeAnd, sum_by}
use Rattle.std.specs.List.{enumerate_from}
use Rattle.std.proofs.lemmas.Bool.Decides.{nat_tests}
use Rattle.std.proofs.lemmas.List.{length-take-le, get_or_default, append-nil, take_more}
use Rattle.std.proofs.lemmas.List.Concat.{flat_map-append}
use Rattle.std.proofs.lemmas.List.Elements.{filter-append, filter_map-append, All-filter}
use Rattle.std.proofs.lemmas.List.FromFn.{length-enumerate_from, get_or-map-range_with_len, length-map-range_with_len, map-range_with_len_more}
use Rattle.std.proofs.lemmas.List.Sums.{length-filter, count_by-le-length, sum_by-cons, get_or-le-sum_by}
use Rattle.std.proofs.lemmas.Option.{slice_get_read}
use Rattle.ix_base.specs.Reading.{◌>>=◌ as ◌>>=?◌}
use Rattle.index_model.specs.declared.entry.Entry.{Entry}
use Rattle.index_model.specs.declared.unit.Unit.{Unit as UnitHeader}
use Rattle.index_model.specs.GdbIndex.{is_type_unit}
use Rattle.index_model.specs.Layout.{below, u32_bytes}
use Rattle.index_model.specs.NameIndex.{Indexed, units_of_sort, unit_offsets, indexed_entry, all_indexed, string_of_entry}
use Rattle.index_model.specs.Units.{is_types}
use Rattle.debugnames_write.specs.Conditions.{FollowFrom, IsInside}
use Rattle.debugnames_write.specs.Seen.{nameless}
use Rattle.debugnames_write.specs.Units.{is_listed, is_type_at, place_at}
use Rattle.debugnames_write.proofs.Lists.{enumerate_append, enumerate_more, around, position_at, places_below}

abbrev Numbered : Type 0
Numbered = ℕ × UnitHeader

abbrev listed : Bool → Numbered → Bool
listed t u = is_listed t u.1

-- ---- lengths

size_one : (b : Bool) (u : Numbered) → length (cond b (u ∷ []) []) ≡ cond b 1 0
size_one true u = refl
size_one false u = refl

pub units_few : (t : Bool) (units : List UnitHeader) → length (units_of_sort t units) ≤ length units
units_few t units = omega (arith, length-filter (listed t) (enumerate_from 0 units), count_by-le-length (listed t) (enumerate_from 0 units), length-enumerate_from 0 units)

own_by : (b : Bool) → ◌≡◌ {A = ℕ} (cond (not b && true) 1 0) (cond b 0 1)
own_by true = refl
own_by false = refl

other_by : (b : Bool) → ◌≡◌ {A = ℕ} (cond (not b && false) 1 0) 0
other_by true = refl
other_by false = refl

module _ (units : List UnitHeader) (i : ℕ) (u : UnitHeader) (lt : i < length units) (is : u ≡ get_or units i u) where
  list_more : (t : Bool) → units_of_sort t (take (i + 1) units) ≡ units_of_sort t (take i units) ++ cond (is_listed t u) ((i, u) ∷ []) []
  list_more t = ap (filter (listed t)) (enumerate_more units i u lt is) ∙ filter-append (listed t) (enumerate_from 0 (take i units)) ((i, u) ∷ [])

  count_more : (t : Bool) → length (units_of_sort t (take (i + 1) units)) ≡ length (units_of_sort t (take i units)) + cond (is_listed t u) 1 0
  count_more t =
      ap (λ (w : List Numbered). length w) (list_more t) ∙ length-append (units_of_sort t (take i units)) (cond (is_listed t u) ((i, u) ∷ []) [])
      ∙ ap (λ (n : ℕ). length (units_of_sort t (take i units)) + n) (size_one (is_listed t u) (i, u))

  -- a unit more in the list of its sort
  pub own_more : (t : Bool) → is_type_unit u ≡ t → length (units_of_sort t (take (i + 1) units)) ≡ length (units_of_sort t (take i units)) + cond (is_types u.part) 0 1
  own_more true e = count_more true ∙ ap (λ (n : ℕ). length (units_of_sort true (take i units)) + n) (ap (λ (b : Bool). cond (not (is_types u.part) && b) 1 0) e ∙ own_by (is_types u.part))
  own_more false e = count_more false ∙ ap (λ (n : ℕ). length (units_of_sort false (take i units)) + n) (ap (λ (b : Bool). cond (not (is_types u.part) && not b) 1 0) e ∙ own_by (is_types u.part))

  -- and none in the other
  pub other_more : (t : Bool) → is_type_unit u ≡ not t → length (units_of_sort t (take (i + 1) units)) ≡ length (units_of_sort t (take i units))
  other_more true e = count_more true ∙ ap (λ (n : ℕ). length (units_of_sort true (take i units)) + n) (ap (λ (b : Bool). cond (not (is_types u.part) && b) 1 0) e ∙ other_by (is_types u.part)) ∙ omega arith
  other_more false e = count_more false ∙ ap (λ (n : ℕ). length (units_of_sort false (take i units)) + n) (ap (λ (b : Bool). cond (not (is_types u.part) && not b) 1 0) e ∙ other_by (is_types u.part)) ∙ omega arith

  type_at : is_type_at units i ≡ is_type_unit u
  type_at = ap (λ (o : Option UnitHeader). unwrap_or (option_map is_type_unit o) false) (slice_get_read units (length units) i u refl lt is)

  pub place_is : (t : Bool) → is_type_unit u ≡ t → place_at units i ≡ length (units_of_sort t (take i units))
  place_is t e = ap (λ (b : Bool). length (units_of_sort b (take i units))) (type_at ∙ e)

  -- ---- the place of a unit

  passes : (t : Bool) → is_type_unit u ≡ t → is_types u.part ≡ false → is_listed t u ≡ true
  passes true e info = rw (info, e) refl
  passes false e info = rw (info, e) refl

  split : (t : Bool) → is_listed t u ≡ true → units_of_sort t units ≡ units_of_sort t (take i units) ++ (i, u) ∷ filter (listed t) (enumerate_from (i + 1) (drop (i + 1) units))
  split t pass =
      let size : 0 + length (take i units) ≡ i = omega (arith, length-take-le i units (omega arith)) in
      let whole : enumerate_from 0 units ≡ enumerate_from 0 (take i units) ++ (i, u) ∷ enumerate_from (i + 1) (drop (i + 1) units) =
      ap (enumerate_from 0) (around units i u lt is) ∙ enumerate_append 0 (take i units) (u ∷ drop (i + 1) units)
      ∙ ap (λ (k : ℕ). enumerate_from 0 (take i units) ++ (k, u) ∷ enumerate_from (k + 1) (drop (i + 1) units)) size in
      let rest : List Numbered = enumerate_from (i + 1) (drop (i + 1) units) in
      ap (filter (listed t)) whole ∙ filter-append (listed t) (enumerate_from 0 (take i units)) ((i, u) ∷ rest)
      ∙ ap (λ (b : Bool). filter (listed t) (enumerate_from 0 (take i units)) ++ cond b ((i, u) ∷ filter (listed t) rest) (filter (listed t) rest)) pass

  other_number : (k : ℕ) → k < i → eqb k i ≡ false
  other_number k less = grind (arith, nat_tests)

  pub position_is : (t : Bool) → is_type_unit u ≡ t → is_types u.part ≡ false → unwrap_or (position (λ v. eqb v.0 i) (units_of_sort t units)) 0 ≡ place_at units i
  position_is t e info =
      let size : length (take i units) ≡ i = length-take-le i units (omega arith) in
      let low : All (λ (v : Numbered). v.0 < 0 + length (take i units)) (units_of_sort t (take i units)) = All-filter (listed t) (λ (v : Numbered). v.0 < 0 + length (take i units)) (enumerate_from 0 (take i units)) (places_below 0 (take i units)) in
      let none : All (λ (v : Numbered). eqb v.0 i ≡ false) (units_of_sort t (take i units)) = λ k d less. other_number _ (let h = low k d less in omega (arith, h, size)) in
      ap (λ (vs : List Numbered). unwrap_or (position (λ v. eqb v.0 i) vs) 0) (split t (passes t e info))
      ∙ ap (λ (o : Option ℕ). unwrap_or o 0) (position_at (λ (v : Numbered). eqb v.0 i) (units_of_sort t (take i units)) (i, u) (filter (listed t) (enumerate_from (i + 1) (drop (i + 1) units))) none (eq-eqb i i refl))
      ∙ sym (place_is t e)

-- ---- entries

-- an entry whose unit was looked up
abbrev entry_at : List UnitHeader → Entry → Option UnitHeader → Option Indexed
entry_at units e found = found >>=? λ u.
    let unit = unwrap_or (position (λ v. eqb v.0 e.unit) (units_of_sort (is_type_unit u) units)) 0 in
    let indexed = Some (record { name = string_of_entry e; tag = e.tag; types = is_type_unit u; unit = unit; offset = e.offset - u.start }) in
    cond (is_types u.part) None indexed

module _ (units : List UnitHeader) (e : Entry) (u : UnitHeader) (lt : e.unit < length units) (is : u ≡ get_or units e.unit u) where
  pub indexed_is : (t : Bool) → is_type_unit u ≡ t → is_types u.part ≡ false → indexed_entry units e ≡ Some (record { name = string_of_entry e; tag = e.tag; types = is_type_unit u; unit = place_at units e.unit; offset = e.offset - u.start })
  unfolding indexed_entry
  indexed_is t same info =
      let found = slice_get_read units (length units) e.unit u refl lt is in
      let place = position_is units e.unit u lt is (is_type_unit u) refl info in
      ap (entry_at units e) found ∙ (λ i. cond (info i) None (Some (record { name = string_of_entry e; tag = e.tag; types = is_type_unit u; unit = place i; offset = e.offset - u.start })))

  pub not_indexed : is_types u.part ≡ true → indexed_entry units e ≡ None
  unfolding indexed_entry
  not_indexed types =
      let found = slice_get_read units (length units) e.unit u refl lt is in
      rw (found, types) refl

pub inside_within : (units : List UnitHeader) (k : ℕ) (P : UnitHeader → Type 0) → IsSomeAnd (slice_get units k) P → k < length units
inside_within [] k P h = absurd h
inside_within (u ∷ us) zero P h = omega arith
inside_within (u ∷ us) (suc k) P h = let r = inside_within us k P h in omega (arith, r)

pub inside_at : (units : List UnitHeader) (k : ℕ) (u : UnitHeader) (P : UnitHeader → Type 0) → k < length units → u ≡ get_or units k u → IsSomeAnd (slice_get units k) P → P u
inside_at units k u P lt is h = let e = slice_get_read units (length units) k u refl lt is in rw e at h

-- ---- starts

pub starts_low : (at : ℕ) (units : List UnitHeader) → FollowFrom at units → All (λ u. u.start ≤ at + sum_by (λ u. u.length) units) units
starts_low at [] f k d lt = absurd (omega arith)
starts_low at (u ∷ us) f zero d lt = omega (arith, f.0)
starts_low at (u ∷ us) f (suc k) d lt = let h = starts_low (at + u.length) us f.1 k d (omega arith) in omega (arith, h, sum_by-cons (λ (v : UnitHeader). v.length) u us)

-- ---- the table of places

pub places_long : (units : List UnitHeader) → length (map (place_at units) (below (length units))) ≡ length units
places_long units = length-map-range_with_len (place_at units) 0 (length units)

pub place_read : (units : List UnitHeader) (k : ℕ) → k < length units → get_or (map (place_at units) (below (length units))) k 0 ≡ place_at units k
place_read units k lt = get_or-map-range_with_len (place_at units) 0 (length units) k k 0 lt (omega arith)

-- ---- the loops

module _ (units : List UnitHeader) (i : ℕ) (d : UnitHeader) (lt : i < length units) where
  is_unit : get_or units i d ≡ get_or units i (get_or units i d)
  is_unit = get_or_default units i d (get_or units i d) lt

  pub place_push : (t : Bool) (n : ℕ) (places : List ℕ) → is_type_unit (get_or units i d) ≡ t → places ≡ map (place_at units) (below i) → n ≡ length (units_of_sort t (take i units)) → places ++ n ∷ [] ≡ map (place_at units) (below (i + 1))
  place_push t n places same is is_n =
      let at : n ≡ place_at units i = is_n ∙ sym (place_is units i (get_or units i d) lt is_unit t same) in
      (λ k. is k ++ at k ∷ []) ∙ sym (map-range_with_len_more (place_at units) 0 i i (omega arith))

  pub count_own : (t : Bool) (n c next : ℕ) → is_type_unit (get_or units i d) ≡ t → n ≡ length (units_of_sort t (take i units)) → c ≡ cond (is_types (get_or units i d).part) 0 1 → next ≡ n + c → next ≡ length (units_of_sort t (take (i + 1) units))
  count_own t n c next same is is_c sum = let more = own_more units i (get_or units i d) lt is_unit t same in omega arith

  pub count_other : (t : Bool) (n next : ℕ) → is_type_unit (get_or units i d) ≡ not t → n ≡ length (units_of_sort t (take i units)) → next ≡ n → next ≡ length (units_of_sort t (take (i + 1) units))
  count_other t n next same is sum = let more = other_more units i (get_or units i d) lt is_unit t same in omega arith

  -- where the listed units begin
  pub offsets_more : (t : Bool) → is_listed t (get_or units i d) ≡ true → unit_offsets t (take (i + 1) units) ≡ unit_offsets t (take i units) ++ u32_bytes (get_or units i d).start
  offsets_more t pass =
      let listed_one : List Numbered = (i, get_or units i d) ∷ [] in
      let front : units_of_sort t (take (i + 1) units) ≡ units_of_sort t (take i units) ++ (i, get_or units i d) ∷ [] = list_more units i (get_or units i d) lt is_unit t ∙ ap (λ (b : Bool). units_of_sort t (take i units) ++ cond b ((i, get_or units i d) ∷ []) []) pass in
      ap (flat_map (λ (u : Numbered). u32_bytes u.1.start)) front
      ∙ flat_map-append (λ (u : Numbered). u32_bytes u.1.start) (units_of_sort t (take i units)) ((i, get_or units i d) ∷ [])
      ∙ ap (λ (w : List ℕ). unit_offsets t (take i units) ++ w) (append-nil (u32_bytes (get_or units i d).start))

  pub offsets_keep : (t : Bool) → is_listed t (get_or units i d) ≡ false → unit_offsets t (take (i + 1) units) ≡ unit_offsets t (take i units)
  offsets_keep t fails =
      let front : units_of_sort t (take (i + 1) units) ≡ units_of_sort t (take i units) = list_more units i (get_or units i d) lt is_unit t ∙ ap (λ (b : Bool). units_of_sort t (take i units) ++ cond b ((i, get_or units i d) ∷ []) []) fails ∙ append-nil (units_of_sort t (take i units)) in
      ap (flat_map (λ (u : Numbered). u32_bytes u.1.start)) front

pub one_at_most : (b : Bool) (c : ℕ) → c ≡ cond b 0 1 → c ≤ 1
one_at_most true c e = omega arith
one_at_most false c e = omega arith

-- ---- one entry

pub entry_within : (units : List UnitHeader) (e : Entry) → IsInside units e → e.unit < length units
entry_within units e h = inside_within units e.unit (λ u. (u.start ≤ e.offset) × (e.offset < u.start + u.length)) h

pub entry_inside : (units : List UnitHeader) (e : Entry) (d : UnitHeader) → IsInside units e → ((get_or units e.unit d).start ≤ e.offset) × (e.offset < (get_or units e.unit d).start + (get_or units e.unit d).length)
entry_inside units e d h =
    let lt = entry_within units e h in
    inside_at units e.unit (get_or units e.unit d) (λ u. (u.start ≤ e.offset) × (e.offset < u.start + u.length)) lt (get_or_default units e.unit d (get_or units e.unit d) lt) h

pub unit_long : (units : List UnitHeader) (k : ℕ) (d : UnitHeader) → k < length units → (get_or units k d).length ≤ sum_by (λ u. u.length) units
unit_long units k d lt = get_or-le-sum_by (λ (u : UnitHeader). u.length) units k d lt

-- ---- all entries

one_some : (h : Entry → Option Indexed) (e : Entry) (y : Indexed) → h e ≡ Some y → filter_map h (e ∷ []) ≡ y ∷ []
one_some h e y same = rw same refl

one_none : (h : Entry → Option Indexed) (e : Entry) → h e ≡ None → filter_map h (e ∷ []) ≡ []
one_none h e same = rw same refl

module _ (units : List UnitHeader) (entries : List Entry) (i : ℕ) (e : Entry) (lt : i < length entries) (is : e ≡ get_or entries i e) where
  entries_front : take (i + 1) entries ≡ take i entries ++ e ∷ []
  entries_front = rw (take_more entries i e lt, ← is) refl

  pub indexed_push : (y : Indexed) → indexed_entry units e ≡ Some y → all_indexed units (take (i + 1) entries) ≡ all_indexed units (take i entries) ++ y ∷ []
  unfolding all_indexed
  indexed_push y same = ap (filter_map (indexed_entry units)) entries_front ∙ filter_map-append (indexed_entry units) (take i entries) (e ∷ []) ∙ ap (λ (w : List Indexed). filter_map (indexed_entry units) (take i entries) ++ w) (one_some (indexed_entry units) e y same)

  pub indexed_keep : indexed_entry units e ≡ None → all_indexed units (take (i + 1) entries) ≡ all_indexed units (take i entries)
  unfolding all_indexed
  indexed_keep same = ap (filter_map (indexed_entry units)) entries_front ∙ filter_map-append (indexed_entry units) (take i entries) (e ∷ []) ∙ ap (λ (w : List Indexed). filter_map (indexed_entry units) (take i entries) ++ w) (one_none (indexed_entry units) e same) ∙ append-nil (filter_map (indexed_entry units) (take i entries))

pub indexed_none : (units : List UnitHeader) → all_indexed units [] ≡ []
unfolding all_indexed
indexed_none units = refl

pub entry_low : (units : List UnitHeader) (e : Entry) (d : UnitHeader) → IsInside units e → sum_by (λ u. u.length) units < 4294967296 → e.offset - (get_or units e.unit d).start < 4294967296
entry_low units e d h short =
    let inside = entry_inside units e d h in
    let long = unit_long units e.unit d (entry_within units e h) in
    omega (arith, inside.0, inside.1, long)

-- an entry of a unit of `.debug_info`, field by field
pub entry_made : (units : List UnitHeader) (e : Entry) (d : UnitHeader) (types : Bool) (unit : ℕ) → IsInside units e → is_types (get_or units e.unit d).part ≡ false
    → types ≡ is_type_unit (get_or units e.unit d) → unit ≡ place_at units e.unit
    → Some (record { name = []; tag = e.tag; types = types; unit = unit; offset = e.offset - (get_or units e.unit d).start }) ≡ option_map nameless (indexed_entry units e)
entry_made units e d types unit h info is_types_ is_unit_ =
    let within = entry_within units e h in
    let made = indexed_is units e (get_or units e.unit d) within (get_or_default units e.unit d (get_or units e.unit d) within) (is_type_unit (get_or units e.unit d)) refl info in
    (λ i. Some (record { name = []; tag = e.tag; types = is_types_ i; unit = is_unit_ i; offset = e.offset - (get_or units e.unit d).start })) ∙ sym (ap (option_map nameless) made)

pub entry_left_out : (units : List UnitHeader) (e : Entry) (d : UnitHeader) → IsInside units e → is_types (get_or units e.unit d).part ≡ true → None ≡ option_map nameless (indexed_entry units e)
entry_left_out units e d h types =
    let within = entry_within units e h in
    sym (ap (option_map nameless) (not_indexed units e (get_or units e.unit d) within (get_or_default units e.unit d (get_or units e.unit d) within) types))

pub entry_fits : (units : List UnitHeader) (e : Entry) (d : UnitHeader) → IsInside units e → sum_by (λ u. u.length) units < 4294967296 → Fits w32 (e.offset - (get_or units e.unit d).start)
entry_fits units e d h short = let low = entry_low units e d h short in omega arith
