-- The parent of an item on a walk is the last of the passed items that has children and stands one level up.
use Rattle.std.proofs.Common.{◌≡◌, ℕ, suc, ◌+◌, ◌<◌, ◌≤◌, Bool, true, false, cond, ltb, eqb, ◌&&◌, List, [], ◌∷◌, ◌++◌, filter, Option, Some, None, option_map, refl, sym, ap, subst, ◌∙◌, arith, append-nil, ⊎_elim}
use Rattle.std.specs.Prelude.{Contains}
use Rattle.std.specs.List.{last_or}
use Rattle.std.proofs.Math.Bool.{and_comm}
use Rattle.std.proofs.lemmas.Bool.{true≢false, lt-ltb, le-ltb, eq-eqb, ne_eqb, cases_eq}
use Rattle.std.proofs.lemmas.Option.{same_Some}
use Rattle.std.proofs.lemmas.List.Elements.{Contains-append_right, filter-append}
use Rattle.common_laws.proofs.Members.{contains_here, contains_cases, of_map, of_filter}
use Rattle.common_laws.proofs.Filters.{filter_agree, filter_none, filter_both}
use Rattle.common_laws.proofs.Booleans.{first_off, first_on}
use Rattle.index_model.specs.declared.shard.Span.{Span}
use Rattle.index_model.specs.Walk.{Item, parent_of}
use Rattle.index_model.specs.Program.{Walked, items_of, scope_around}
use Rattle.index_model.specs.ShardParts.{span_of}
use Rattle.index_model.specs.LawsOrder.{IsInOrder, HasParent}
use Rattle.index_model.proofs.ParentLaws.{Rise, rise_below}
use Rattle.index_model.proofs.OrderLaws.{walks_in_order, walk_rises}
use Rattle.index_model.proofs.InnermostLaws.{same_item, parent_innermost}
use Rattle.gdb_reach.specs.Standing.{ComesBehind, in_unit, last_parent}

-- ---- entries that rise

before_in : (n : ℕ) (es : List Item) (d : Item) (rest : List Item) → Rise n (es ++ d ∷ rest) → (x : Item) → Contains es x → x.at < d.at
before_in n [] d rest r x c = absurd (omega (arith, c.1))
before_in n (e ∷ es) d rest r x c = ⊎_elim
    (λ (same : e ≡ x). let up = rise_below (suc e.at) (es ++ d ∷ rest) d r.1 (Contains-append_right es (d ∷ rest) d (contains_here d rest)) in omega (arith, up, ap (λ (y : Item). y.at) same))
    (λ (l : Contains es x). before_in (suc e.at) es d rest r.1 x l)
    (contains_cases e es x c)

after_in : (n : ℕ) (es : List Item) (d : Item) (rest : List Item) → Rise n (es ++ d ∷ rest) → (x : Item) → Contains (d ∷ rest) x → d.at ≤ x.at
after_in n [] d rest r x c = ⊎_elim
    (λ (same : d ≡ x). omega (arith, ap (λ (y : Item). y.at) same))
    (λ (l : Contains rest x). let up = rise_below (suc d.at) rest x r.1 l in omega (arith, up))
    (contains_cases d rest x c)
after_in n (e ∷ es) d rest r x c = after_in (suc e.at) es d rest r.1 x c

-- ---- the last that passes two tests

module _ {A : Type 0} (p q : A → Bool) (x : A) (on : p x ≡ true) where
  abbrev passes_both : A → Bool
  passes_both y = p y && q y

  -- what is found of the rest, behind what was found before
  abbrev Found : List A → Type 0
  Found ys = (one two : Option A) → (one ≡ Some x → two ≡ Some x) → last_or one (filter q ys) ≡ Some x → last_or two (filter passes_both ys) ≡ Some x

  one_found : (y : A) (ys : List A) → Found ys → (one two : Option A) → (one ≡ Some x → two ≡ Some x) → (a b : Bool) → p y ≡ a →
      last_or one (cond b (y ∷ filter q ys) (filter q ys)) ≡ Some x → last_or two (cond (a && b) (y ∷ filter passes_both ys) (filter passes_both ys)) ≡ Some x
  one_found y ys later one two h true true e is = later (Some y) (Some y) (λ (same : Some y ≡ Some x). same) is
  one_found y ys later one two h true false e is = later one two h is
  one_found y ys later one two h false true e is = later (Some y) two (λ (same : Some y ≡ Some x). absurd (true≢false (sym on ∙ ap p (sym (same_Some y x same)) ∙ e))) is
  one_found y ys later one two h false false e is = later one two h is

  -- where the last that passes one test passes the other too, it is the last that passes both
  last_of_both : (xs : List A) → Found xs
  last_of_both [] one two h is = h is
  last_of_both (y ∷ ys) one two h is = one_found y ys (last_of_both ys) one two h (p y) (q y) refl is

-- ---- the next item

module _ (w : Walked) (passed : List Item) (d : Item) (h : ComesBehind w passed d) where
  abbrev ds : List Item
  ds = items_of w

  abbrev has_children : Item → Bool
  has_children e = e.children

  order : IsInOrder w
  order = walks_in_order h.file.sections h.file.place w h.file.walk

  rises : (n : ℕ) × Rise n ds
  rises = walk_rises h.file.sections h.file.place w h.file.walk

  rise_here : Rise rises.0 (h.before ++ d ∷ h.rest)
  rise_here = subst (Rise rises.0) (sym h.whole) rises.1

  member : Contains ds d
  member = subst (λ (xs : List Item). Contains xs d) h.whole (Contains-append_right h.before (d ∷ h.rest) d (contains_here d h.rest))

  pub parent : 0 < d.depth → HasParent ds d
  parent deep = order.parents d member deep

  pub no_parent : d.depth ≡ 0 → scope_around (in_unit w d) ≡ None
  no_parent is = ap (option_map (λ e. in_unit w e)) (order.root d member is).1

  -- its span is among those of the items with children
  parent_has_children : (deep : 0 < d.depth) → (parent deep).parent.children ≡ true
  unfolding span_of
  parent_has_children deep =
      let e : Item = (parent deep).parent in
      let i = parent_innermost h.file.sections h.file.place w h.file.walk d member deep in
      let same : i.0 ≡ e = same_Some i.0 e (sym i.1 ∙ (parent deep).is) in
      let m = of_map (span_of w) (filter (λ x. x.children) ds) (span_of w i.0) i.2.member in
      let k = of_filter (λ (x : Item). x.children) ds m.0 m.1 in
      let at : m.0.at ≡ e.at = ap (λ (s : Span). s.entry) m.2 ∙ ap (λ (x : Item). x.at) same in
      ap has_children (sym (same_item rises.0 ds m.0 e rises.1 k.0 (parent deep).member at)) ∙ k.1

  module _ (n : ℕ) (deep : d.depth ≡ suc n) where
    pub some : 0 < d.depth
    some = omega (arith, deep)

    abbrev one_up : Item → Bool
    one_up e = eqb e.depth n

    one_less : (e : Item) → eqb (e.depth + 1) d.depth ≡ eqb e.depth n
    one_less e = ⊎_elim
        (λ (same : e.depth ≡ n). eq-eqb (e.depth + 1) d.depth (omega (arith, same, deep)) ∙ sym (eq-eqb e.depth n same))
        (λ (other : e.depth ≡ n → ⊥). ne_eqb (e.depth + 1) d.depth (λ is. other (omega (arith, is, deep))) ∙ sym (ne_eqb e.depth n other))
        (cases_eq e.depth n)

    abbrev above : Item → Bool
    above e = ltb e.at d.at && eqb (e.depth + 1) d.depth

    -- it is the last one before the item
    last_before : last_or None (filter one_up h.before) ≡ parent_of ds d
    last_before =
        let early = filter_agree above one_up h.before (λ e c. first_on (ltb e.at d.at) (eqb (e.depth + 1) d.depth) (lt-ltb e.at d.at (before_in rises.0 h.before d h.rest rise_here e c)) ∙ one_less e) in
        let late = filter_none above (d ∷ h.rest) (λ e c. first_off (ltb e.at d.at) (eqb (e.depth + 1) d.depth) (le-ltb e.at d.at (after_in rises.0 h.before d h.rest rise_here e c))) in
        let all : filter above (h.before ++ d ∷ h.rest) ≡ filter one_up h.before ++ [] = filter-append above h.before (d ∷ h.rest) ∙ ap (λ (xs : List Item). xs ++ filter above (d ∷ h.rest)) early ∙ ap (λ (xs : List Item). filter one_up h.before ++ xs) late in
        ap (λ (xs : List Item). last_or None xs) (sym (all ∙ append-nil (filter one_up h.before))) ∙ ap (λ (xs : List Item). last_or None (filter above xs)) h.whole

    both : (xs : List Item) → filter one_up (filter has_children xs) ≡ filter (λ e. has_children e && one_up e) xs
    both xs = filter_both one_up has_children (λ e. has_children e && one_up e) xs (λ e c. and_comm (one_up e) (has_children e))

    -- what was left out has no children
    pub last_passed : last_parent passed n ≡ Some (parent some).parent
    last_passed =
        ap (λ (xs : List Item). last_or None xs) (sym (both passed) ∙ ap (filter one_up) h.parents ∙ both h.before) ∙
        last_of_both has_children one_up (parent some).parent (parent_has_children some) h.before None None (λ (same : None ≡ Some (parent some).parent). same) (last_before ∙ (parent some).is)

    pub around : scope_around (in_unit w d) ≡ Some (in_unit w (parent some).parent)
    around = ap (option_map (λ e. in_unit w e)) (parent some).is
