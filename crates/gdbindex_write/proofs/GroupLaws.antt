-- The names of a table that have elements are those of the index, each with its vector.
use Rattle.std.proofs.Common.{◌≡◌, ℕ, ◌+◌, ◌-◌, ◌<◌, ◌≤◌, Bool, true, false, not, cond, eqb, ltb, List, [], ◌∷◌, ◌++◌, length, get_or, take, drop, map, refl, sym, ap, ◌∙◌, subst, arith}
use Rattle.std.specs.Prelude.{filter, nat_lt, Contains, slice_range}
use Rattle.std.proofs.lemmas.Bool.{lt-ltb, ltb-true}
use Rattle.std.proofs.lemmas.Bool.Decides.{nat_tests}
use Rattle.std.proofs.lemmas.List.{take_more, map_push, append-nil, take-append-le, take_all, drop-append-le, drop_at, length-drop}
use Rattle.std.proofs.lemmas.List.Elements.{filter-append, All-head, All-tail, All-weaker, All-push, Contains-get_or}
use Rattle.common_laws.proofs.Filters.{map_filter}
use Rattle.common_laws.proofs.Members.{of_map, to_map, of_filter, to_filter}
use Rattle.query_engine.specs.Texts.{table_names}
use Rattle.query_engine.proofs.TextOrder.{same_from_eq, eq_from_same}
use Rattle.index_model.specs.declared.entry.Entry.{Entry}
use Rattle.index_model.specs.Answers.{is_named}
use Rattle.index_model.specs.GdbIndex.{index_names}
use Rattle.index_model.specs.Order.{Rises}
use Rattle.index_model.specs.Ordered.{ascending, bytes_lt}
use Rattle.index_model.proofs.Orders.{bytes_order, nat_order, ascending_rises, ascending_has, ascending_only, ascending_is}
use Rattle.gdbindex_write.specs.declared.symbols.Symbol.{Symbol}
use Rattle.gdbindex_write.specs.Elements.{element_by, elements_by}
use Rattle.gdbindex_write.specs.Symbols.{AreWithin, Group, group_by, groups_seen, has_elements}

-- what passes a test of a list that rises, rises
rises_filter : {A : Type 0} (less : A → A → Bool) (p : A → Bool) (xs : List A) → Rises less xs → Rises less (filter p xs)
rises_filter less p [] r = tt
rises_filter less p (x ∷ xs) r = elim (p x) as (λ b. Rises less (cond b (x ∷ filter p xs) (filter p xs))) [
  | true ↦ (λ y c. r.0 y (of_filter p xs y c).0, rises_filter less p xs r.1)
  | false ↦ rises_filter less p xs r.1
]

abbrev plain : Entry → Bool
plain e = not e.linkage

abbrev name : Entry → List ℕ
name e = e.name

-- the groups of these names, those without elements left out
abbrev pub groups_by : List ℕ → List Entry → List (List ℕ) → List Group
groups_by numbers entries names = filter has_elements (map (group_by numbers entries) names)

module _ (numbers : List ℕ) (entries : List Entry) where
  abbrev kept : List ℕ → Bool
  kept n = has_elements (group_by numbers entries n)

  some_from_has : (xs : List ℕ) (x : ℕ) → Contains xs x → ltb 0 (length (ascending nat_lt xs)) ≡ true
  some_from_has xs x c = let d = ascending_has nat_lt nat_order xs x c in lt-ltb 0 (length (ascending nat_lt xs)) (omega (arith, d.1))

  -- a name of an entry that isn't a linkage entry has elements
  kept_plain : (e : Entry) → Contains entries e → plain e ≡ true → kept e.name ≡ true
  kept_plain e c is =
      let named = to_filter (is_named e.name) entries e c (eq_from_same e.name e.name refl) in
      let passes = to_filter plain (filter (is_named e.name) entries) e named is in
      some_from_has (elements_by numbers (filter (is_named e.name) entries)) (element_by numbers e) (to_map (element_by numbers) (filter plain (filter (is_named e.name) entries)) e passes)

  -- a name that has elements is that of such an entry
  plain_kept : (n : List ℕ) → kept n ≡ true → Contains (map name (filter plain entries)) n
  plain_kept n is =
      let es : List ℕ = elements_by numbers (filter (is_named n) entries) in
      let some : 0 < length (ascending nat_lt es) = ltb-true 0 (length (ascending nat_lt es)) is in
      let one = ascending_only nat_lt nat_order es (get_or (ascending nat_lt es) 0 0) (Contains-get_or (ascending nat_lt es) 0 0 some) in
      let e = of_map (element_by numbers) (filter plain (filter (is_named n) entries)) (get_or (ascending nat_lt es) 0 0) one in
      let own = of_filter plain (filter (is_named n) entries) e.0 e.1 in
      let there = of_filter (is_named n) entries e.0 own.0 in
      subst (Contains (map name (filter plain entries))) (same_from_eq e.0.name n there.1) (to_map name (filter plain entries) e.0 (to_filter plain entries e.0 there.0 own.1))

  names_kept : filter kept (table_names entries) ≡ index_names entries
  unfolding index_names
  names_kept = sym (ascending_is bytes_lt bytes_order (map name (filter plain entries)) (filter kept (table_names entries))
      (rises_filter bytes_lt kept (table_names entries) (ascending_rises bytes_lt bytes_order (map name entries)))
      (λ z c.
      let e = of_map name (filter plain entries) z c in
      let own = of_filter plain entries e.0 e.1 in
      let there = ascending_has bytes_lt bytes_order (map name entries) z (subst (Contains (map name entries)) e.2 (to_map name entries e.0 own.0)) in
      to_filter kept (table_names entries) z there (subst (λ (n : List ℕ). kept n ≡ true) e.2 (kept_plain e.0 own.0 own.1)))
      (λ z c. plain_kept z (of_filter kept (table_names entries) z c).1))

  -- of all names of the table, those with elements are the names of the index
  pub all_groups : groups_by numbers entries (table_names entries) ≡ map (group_by numbers entries) (index_names entries)
  all_groups = sym (map_filter (group_by numbers entries) has_elements (table_names entries)) ∙ ap (map (group_by numbers entries)) names_kept

  -- ---- one name more

  module _ (names : List (List ℕ)) (k : ℕ) (lt : k < length names) (gs : List Group) (so_far : gs ≡ groups_by numbers entries (take k names)) where
    abbrev next : Group
    next = group_by numbers entries (get_or names k [])

    more : groups_by numbers entries (take (k + 1) names) ≡ groups_by numbers entries (take k names) ++ cond (has_elements next) (next ∷ []) []
    more = ap (λ w. filter has_elements (map (group_by numbers entries) w)) (take_more names k [] lt) ∙ ap (filter has_elements) (map_push (group_by numbers entries) (take k names) (get_or names k []))
        ∙ filter-append has_elements (map (group_by numbers entries) (take k names)) (next ∷ [])

    pub group_more : (g : Group) → g ≡ next → ltb 0 (length g.1) ≡ true → gs ++ g ∷ [] ≡ groups_by numbers entries (take (k + 1) names)
    group_more g is some =
        let has : has_elements next ≡ true = ap has_elements (sym is) ∙ some in
        (λ i. so_far i ++ is i ∷ []) ∙ sym (more ∙ ap (λ b. groups_by numbers entries (take k names) ++ cond b (next ∷ []) []) has)

    pub group_out : (g : Group) → g ≡ next → ltb 0 (length g.1) ≡ false → gs ≡ groups_by numbers entries (take (k + 1) names)
    group_out g is none =
        let has : has_elements next ≡ false = ap has_elements (sym is) ∙ none in
        so_far ∙ sym (more ∙ ap (λ b. groups_by numbers entries (take k names) ++ cond b (next ∷ []) []) has ∙ append-nil (groups_by numbers entries (take k names)))

-- a vector has elements unless it is empty
pub some_left : (n : ℕ) (b : Bool) → b ≡ eqb n 0 → b ≡ false → ltb 0 n ≡ true
some_left n b is e = let f : eqb n 0 ≡ false = sym is ∙ e in grind (arith, nat_tests)

pub none_left : (n : ℕ) (b : Bool) → b ≡ eqb n 0 → b ≡ true → ltb 0 n ≡ false
none_left n b is e = let f : eqb n 0 ≡ true = sym is ∙ e in grind (arith, nat_tests)

-- ---- elements behind those of earlier symbols

-- a part does not see what is appended
part_stays : (es vs : List ℕ) (start end : ℕ) → start ≤ end → end ≤ length es → slice_range (es ++ vs) start end ≡ slice_range es start end
part_stays es vs start end le within =
    ap (take (end - start)) (drop-append-le start es vs (omega arith)) ∙ take-append-le (end - start) (drop start es) vs (omega (arith, length-drop start es))

last_part : (es vs : List ℕ) (end : ℕ) → end ≡ length es + length vs → slice_range (es ++ vs) (length es) end ≡ vs
last_part es vs end is = ap (take (end - length es)) (drop_at es vs (length es) refl) ∙ take_all (end - length es) vs (omega arith)

seen_stay : (es vs : List ℕ) (list : List Symbol) → AreWithin (length es) list → groups_seen (es ++ vs) list ≡ groups_seen es list
seen_stay es vs [] all = refl
seen_stay es vs (s ∷ list) all =
    let own = All-head (λ (t : Symbol). (t.start ≤ t.end) × (t.end ≤ length es)) s list all in
    λ i. (s.name.now, part_stays es vs s.start s.end own.0 own.1 i) ∷ seen_stay es vs list (All-tail (λ (t : Symbol). (t.start ≤ t.end) × (t.end ≤ length es)) s list all) i

pub seen_push : (es vs : List ℕ) (list : List Symbol) (s : Symbol) → AreWithin (length es) list → s.start ≡ length es → s.end ≡ length es + length vs → groups_seen (es ++ vs) (list ++ s ∷ []) ≡ groups_seen es list ++ (s.name.now, vs) ∷ []
seen_push es vs list s within starts ends =
    let own : slice_range (es ++ vs) s.start s.end ≡ vs = ap (λ (n : ℕ). slice_range (es ++ vs) n s.end) starts ∙ last_part es vs s.end ends in
    map_push (λ (t : Symbol). (t.name.now, slice_range (es ++ vs) t.start t.end)) list s ∙ (λ i. seen_stay es vs list within i ++ (s.name.now, own i) ∷ [])

pub within_push : (m n : ℕ) (list : List Symbol) (s : Symbol) → m ≤ n → s.start ≤ s.end → s.end ≤ n → AreWithin m list → AreWithin n (list ++ s ∷ [])
within_push m n list s grown order low all =
    All-push (λ (t : Symbol). (t.start ≤ t.end) × (t.end ≤ n)) list s (All-weaker (λ (t : Symbol). (t.start ≤ t.end) × (t.end ≤ m)) (λ (t : Symbol). (t.start ≤ t.end) × (t.end ≤ n)) (λ t h. (h.0, omega (arith, h.1))) list all) (order, low)
