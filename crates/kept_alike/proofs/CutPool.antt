-- The last name of a constant pool that is cut has no end.
use Rattle.std.proofs.Common.{◌≡◌, ℕ, suc, ◌+◌, ◌-◌, ◌<◌, ◌≤◌, Bool, true, false, not, leb, cond, List, [], ◌∷◌, ◌++◌, length, get_or, take, drop, map, position, Option, Some, None, take-append-drop, refl, sym, ap, ◌∙◌, subst, arith, ⊎_elim}
use mathlib.Core.Bool.{true≢false}
use mathlib.Core.Logic.{◌⊎◌}
use Rattle.std.specs.Prelude.{◌==◌, bytes_eq, flat_map, filter, sum_by, Contains}
use Rattle.std.specs.List.{list_all}
use Rattle.std.proofs.lemmas.Bool.{and_parts, cases_order, leb-true}
use Rattle.std.proofs.lemmas.List.{append-nil, length-append, length-drop, length-map, length-take-le, get_or-map, nil_from_length, take-append-le, take_all}
use Rattle.std.proofs.lemmas.List.Concat.{length-flat_map}
use Rattle.std.proofs.lemmas.List.Elements.{Contains-get_or}
use Rattle.std.proofs.lemmas.List.Folds.{fold-map, list_all-append, list_all_at}
use Rattle.std.proofs.lemmas.List.Quantifiers.{position-Some}
use Rattle.std.proofs.lemmas.List.Sums.{sum_by_more}
use Rattle.ix_base.specs.Reading.{before_zero}
use Rattle.index_model.specs.declared.entry.Entry.{Entry}
use Rattle.index_model.specs.declared.unit.Unit.{Unit as UnitHeader}
use Rattle.index_model.specs.Layout.{ended, start_of}
use Rattle.index_model.specs.Order.{Rises}
use Rattle.index_model.specs.Ordered.{bytes_lt, place_of}
use Rattle.index_model.specs.GdbIndex.{Pool, index_names, name_place, pool_bytes, pool_of, vector_bytes}
use Rattle.index_model.specs.GdbAreas.{Areas, string_at}
use Rattle.index_model.proofs.Meanings.{bind_some}
use Rattle.index_model.proofs.Orders.{ascending_rises, bytes_order, pairs_from_rises}
use Rattle.index_alike.proofs.GdbPlaces.{Stands, from_there}
use Rattle.index_alike.proofs.GdbPool.{name_stands, names_of_pool}
use Rattle.index_alike.proofs.GdbPositions.{HasNoZero, place_in}
use Rattle.kept_alike.proofs.Prefixes.{behind}

-- ---- texts without an end

front_clean : (n : ℕ) (text : List ℕ) → HasNoZero text → HasNoZero (take n text)
front_clean n text none =
    (and_parts (list_all is_byte (take n text)) (list_all is_byte (drop n text)) (sym (list_all-append is_byte (take n text) (drop n text)) ∙ ap (list_all is_byte) (take-append-drop n text) ∙ none)).0
  where
    is_byte : ℕ → Bool
    is_byte b = not (b == 0)

no_end : (bytes text : List ℕ) → HasNoZero bytes → before_zero bytes ≡ Some text → ⊥
no_end bytes text none is =
    let b = bind_some (position (λ b. b == 0) bytes) (λ k. Some (take k bytes)) text is in
    let p = position-Some (λ b. b == 0) bytes b.0 0 b.1 in
    true≢false (sym none ∙ list_all_at (λ b. not (b == 0)) bytes b.0 0 p.0 (ap not p.1))

-- the front of a text and its zero has no zero
cut_text : (text bytes : List ℕ) (n : ℕ) → HasNoZero text → n ≤ length text → before_zero (take n (ended text)) ≡ Some bytes → ⊥
cut_text text bytes n none le is =
    no_end (take n text) bytes (front_clean n text none) (ap before_zero (sym (take-append-le n text (0 ∷ []) le)) ∙ is)

held : {A : Type 0} (b : Bool) (o : Option A) (x : A) → cond b o None ≡ Some x → (b ≡ true) × (o ≡ Some x)
held true o x is = (refl, is)
held false o x is = absurd cc

-- ---- the last name

module _ (units : List UnitHeader) (entries : List Entry) where
  abbrev pool : Pool
  pool = pool_of units entries

  abbrev names : List (List ℕ)
  names = pool.names

  names_ascend : Rises bytes_lt names
  unfolding index_names
  names_ascend = subst (Rises bytes_lt) (sym (names_of_pool units entries)) (ascending_rises bytes_lt bytes_order (map (λ e. e.name) (filter (λ e. not e.linkage) entries)))

  -- no name comes twice
  same_number : (i k : ℕ) → i < length names → suc k ≡ length names → get_or names i [] ≡ get_or names k [] → i ≡ k
  same_number i k within last same =
      ⊎_elim (λ (e : i ≡ k). e) (λ (o : (i < k) ⊎ (k < i)). ⊎_elim (λ (l : i < k). absurd (bytes_order.itself (get_or names k []) (sym (ap (λ (w : List ℕ). bytes_lt w (get_or names k [])) same) ∙ pairs_from_rises bytes_lt names names_ascend i k [] l (omega (arith, last))))) (λ (l : k < i). absurd (omega (arith, l, within, last))) o) (cases_order i k)

  module _ (k : ℕ) (last : suc k ≡ length names) where
    abbrev name : List ℕ
    name = get_or names k []

    pub is_name : Contains names name
    is_name = Contains-get_or names k [] (omega (arith, last))

    -- it ends where the pool ends
    name_at_end : name_place pool name + length (ended name) ≡ length (pool_bytes pool)
    name_at_end =
        let p = place_in name names is_name in
        let number : place_of bytes_eq name names ≡ k = same_number (place_of bytes_eq name names) k p.within last p.there in
        let whole : take (k + 1) (map ended names) ≡ map ended names = take_all (k + 1) (map ended names) (omega (arith, length-map names ended, last)) in
        let more : start_of (map ended names) (k + 1) ≡ start_of (map ended names) k + length (get_or (map ended names) k []) = sum_by_more length (map ended names) k [] (omega (arith, length-map names ended, last)) in
        let own : get_or (map ended names) k [] ≡ ended name = get_or-map ended names k [] [] (omega (arith, last)) in
        let texts : length (flat_map ended names) ≡ sum_by length (map ended names) = length-flat_map ended names ∙ sym (fold-map (λ (n : ℕ) (w : List ℕ). n + length w) ended 0 names) in
        omega (arith, length-append (flat_map vector_bytes pool.vectors) (flat_map ended names), ap (start_of (map ended names)) number, ap (sum_by length) whole, more, ap length own, texts)

    pub name_cut : HasNoZero name → (a : Areas) (left : ℕ) → a.pool.rest ≡ take left (pool_bytes pool) → left < length (pool_bytes pool) → (text : List ℕ) → string_at a (name_place pool name) ≡ Some text → ⊥
    name_cut none a left is less text found =
        let bytes : List ℕ = pool_bytes pool in
        let at : ℕ = name_place pool name in
        let stands : Stands at (ended name) bytes = name_stands pool name is_name in
        let size : length (take left bytes) ≡ left = length-take-le left bytes (omega (arith, less)) in
        let within = held (leb at (length (take left bytes))) (before_zero (drop at (take left bytes))) text (ap (λ (w : List ℕ). cond (leb at (length w)) (before_zero (drop at w)) None) (sym is) ∙ found) in
        let place : at ≤ left = omega (arith, leb-true at (length (take left bytes)) within.0, size) in
        let nothing : stands.behind ≡ [] = nil_from_length stands.behind (omega (arith, ap length (from_there stands), length-append (ended name) stands.behind, length-drop at bytes, name_at_end)) in
        let rest : drop at bytes ≡ ended name = from_there stands ∙ ap (λ (w : List ℕ). ended name ++ w) nothing ∙ append-nil (ended name) in
        let short : left - at ≤ length name = omega (arith, less, place, name_at_end, length-append name (0 ∷ [])) in
        cut_text name text (left - at) none short (ap before_zero (sym (behind at left bytes place ∙ ap (take (left - at)) rest)) ∙ within.1)
