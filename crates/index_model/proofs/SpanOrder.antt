-- The spans of consecutive units: they rise, and the last that is open at an entry is that of its parent.
use Rattle.std.proofs.Common.{◌≡◌, ℕ, zero, suc, ◌+◌, ◌-◌, ◌<◌, ◌≤◌, Bool, true, false, cond, ltb, eqb, ◌&&◌, ◌++◌, drop, List, [], ◌∷◌, length, take, get_or, Option, Some, None, Ok, refl, sym, ap, subst, ◌∙◌, arith, inl, inr, ⊎_elim, length-take, get_or-take}
use Rattle.std.specs.Prelude.{Contains, filter, filter_map, flat_map, option_and_then, slice_get}
use Rattle.std.specs.List.{last_or, cons_option}
use Rattle.std.specs.Option.{option_map}
use Rattle.std.proofs.lemmas.Bool.{true≢false, ltb-true, lt-ltb, cases_lt}
use Rattle.std.specs.List.Sorted.{IsNonDecreasingBy, IsPartitionPoint}
use Rattle.std.proofs.Math.Seq.{take-suc}
use Rattle.std.proofs.lemmas.List.{take-append-drop}
use mathlib.Core.Logic.{◌⊎◌}
use Rattle.common_laws.proofs.Members.{contains_here, contains_later, contains_cases, of_map, of_filter, of_flat_map, to_flat_map}
use Rattle.ix_base.specs.Reading.{Input}
use Rattle.index_model.specs.declared.shard.Shard.{Shard}
use Rattle.index_model.specs.declared.shard.Span.{Span}
use Rattle.index_model.specs.declared.unit.Unit.{Unit as UnitHeader}
use Rattle.index_model.specs.Sections.{Section}
use Rattle.index_model.specs.Walk.{Item, Token, Null, Entry, Levels, parent_of, walk_of}
use Rattle.index_model.specs.WalkLeft.{levels_after}
use Rattle.index_model.specs.Program.{Walked, Located, walked, items_of, located, joint, body}
use Rattle.index_model.specs.ShardParts.{ends_children, first_place, span_of, spans_of}
use Rattle.index_model.specs.Parents.{IsParentAt, parent_offset}
use Rattle.index_model.specs.LawsSpans.{Holds, IsInnermost}
use Rattle.index_model.specs.Searches.{if_open}
use Rattle.index_model.proofs.Halves.{at}
use Rattle.index_model.proofs.Pairs.{Pairs, On, pairs_append, pairs_filter, pairs_map, pairs_weaker, all_pairs}
use Rattle.index_model.proofs.TokenReads.{Follow, start, walk_follows}
use Rattle.index_model.proofs.OrderLaws.{entries, bounded, goes, walk_tokens, walks_in_order}
use Rattle.index_model.proofs.Scans.{walked_read}
use Rattle.index_model.proofs.InnermostLaws.{parent_innermost, root_in_no_span}
use Rattle.index_model.proofs.UnitsApart.{Apart, AreApart, IsWalk, pairs_cases, pairs_front, run_apart}

-- ---- the last that passes a test

module _ {A : Type 0} (R : A → A → Type 0) (p : A → Bool) where
  -- none passes, and what stood before is the last; or the last is a member that passes, and each other comes before it
  abbrev pub IsLast : List A → Option A → Option A → Type 0
  IsLast xs before r = (((x : A) → Contains xs x → p x ≡ true → ⊥) × (r ≡ before)) ⊎ ((e : A) × (r ≡ Some e) × Contains xs e × (p e ≡ true) × ((x : A) → Contains xs x → p x ≡ true → (x ≡ e) ⊎ R x e))

  module _ (y : A) (ys : List A) (first : (x : A) → Contains ys x → R y x) (before r : Option A) where
    passes : p y ≡ true → IsLast ys (Some y) r → IsLast (y ∷ ys) before r
    passes on h = ⊎_elim
        (λ (l : ((x : A) → Contains ys x → p x ≡ true → ⊥) × (r ≡ Some y)). inr (y, l.1, contains_here y ys, on, λ x c t. ⊎_elim (λ (same : y ≡ x). inl (sym same)) (λ (later : Contains ys x). absurd (l.0 x later t)) (contains_cases y ys x c)))
        (λ (g : (e : A) × (r ≡ Some e) × Contains ys e × (p e ≡ true) × ((x : A) → Contains ys x → p x ≡ true → (x ≡ e) ⊎ R x e)).
        inr (g.0, g.1, contains_later y ys g.0 g.2, g.3, λ x c t. ⊎_elim (λ (same : y ≡ x). inr (subst (λ (z : A). R z g.0) same (first g.0 g.2))) (λ (later : Contains ys x). g.4 x later t) (contains_cases y ys x c)))
        h

    skips : p y ≡ false → IsLast ys before r → IsLast (y ∷ ys) before r
    skips off h = ⊎_elim
        (λ (l : ((x : A) → Contains ys x → p x ≡ true → ⊥) × (r ≡ before)). inl (λ x c t. ⊎_elim (λ (same : y ≡ x). true≢false (sym t ∙ ap p (sym same) ∙ off)) (λ (later : Contains ys x). l.0 x later t) (contains_cases y ys x c), l.1))
        (λ (g : (e : A) × (r ≡ Some e) × Contains ys e × (p e ≡ true) × ((x : A) → Contains ys x → p x ≡ true → (x ≡ e) ⊎ R x e)).
        inr (g.0, g.1, contains_later y ys g.0 g.2, g.3, λ x c t. ⊎_elim (λ (same : y ≡ x). absurd (true≢false (sym t ∙ ap p (sym same) ∙ off))) (λ (later : Contains ys x). g.4 x later t) (contains_cases y ys x c)))
        h

  pub last_is : (xs : List A) (before : Option A) → Pairs R xs → IsLast xs before (last_or before (filter p xs))
  last_is [] before h = inl (λ x c t. omega (arith, c.1), refl)
  last_is (y ∷ ys) before h =
      elim (p y) as (λ b. p y ≡ b → IsLast (y ∷ ys) before (last_or before (cond b (y ∷ filter p ys) (filter p ys)))) [
        | true ↦ λ on. passes y ys h.0 before (last_or (Some y) (filter p ys)) on (last_is ys (Some y) h.1)
        | false ↦ λ off. skips y ys h.0 before (last_or before (filter p ys)) off (last_is ys before h.1)
      ] refl

-- ---- the spans of a unit

-- the second span begins later
abbrev pub Later : Span → Span → Type 0
Later s t = s.from < t.from

abbrev EndsLater : Item → Item → Type 0
EndsLater d e = d.after < e.after

after_rise : (open_ : Levels) (i : Input) (ts : List Token) → Follow open_ i ts → Pairs EndsLater (entries ts)
after_rise open_ i [] f = tt
after_rise open_ i (Null depth after ∷ ts) f = after_rise (levels_after open_ (Null depth after)) f.1 ts f.3
after_rise open_ i (Entry e ∷ ts) f = (
  λ d c. let b = bounded (levels_after open_ (Entry e)) f.1 ts f.3 d c in omega (arith, f.2.says.2, b.0, b.1),
  after_rise (levels_after open_ (Entry e)) f.1 ts f.3,
)

-- children end inside the bytes
ends_inside : (e : Item) (end : ℕ) (open_ : Levels) (i : Input) (ts : List Token) → Follow open_ i ts → i.at + length i.rest ≤ end → first_place (filter_map (ends_children e) ts) end ≤ end
ends_inside e end open_ i [] f le = omega arith
ends_inside e end open_ i (Entry x ∷ ts) f le = let g = goes open_ i f.1 (Entry x) f.2 in ends_inside e end (levels_after open_ (Entry x)) f.1 ts f.3 (omega (arith, g.1, le))
ends_inside e end open_ i (Null depth after ∷ ts) f le =
    let g = goes open_ i f.1 (Null depth after) f.2 in
    either (ltb e.at after && eqb depth (e.depth + 1)) (omega (arith, g.1, f.2.says.2, le)) (ends_inside e end (levels_after open_ (Null depth after)) f.1 ts f.3 (omega (arith, g.1, le)))
  where
    either : (b : Bool) → after ≤ end → first_place (filter_map (ends_children e) ts) end ≤ end → first_place (cons_option (cond b (Some after) None) (filter_map (ends_children e) ts)) end ≤ end
    either true here later = here
    either false here later = later

children_inside : (ss : List Section) (u : ℕ × UnitHeader) (w : Walked) → walked ss u ≡ Ok w → (d : Item) → Contains (items_of w) d → first_place (filter_map (ends_children d) w.walk.tokens) (w.unit.start + w.unit.length) ≤ w.unit.start + w.unit.length
children_inside ss u w is =
    let r = walked_read ss u w is in
    let own = drop (u.1.start + u.1.body) (joint ss) in
    let tokens : List Token = (walk_of u.1 r.0 (body ss u.1)).tokens in
    let f : Follow start (body ss u.1) tokens = walk_follows u.1 r.0 (body ss u.1) in
    let made : (d : Item) → Contains (entries tokens) d → first_place (filter_map (ends_children d) tokens) (u.1.start + u.1.length) ≤ u.1.start + u.1.length = λ d c.
    let b = bounded start (body ss u.1) tokens f d c in
    ends_inside d (u.1.start + u.1.length) start (body ss u.1) tokens f (omega (arith, b.0, b.1, b.2, length-take (u.1.length - u.1.body) own)) in
    subst (λ (v : Walked). (d : Item) → Contains (items_of v) d → first_place (filter_map (ends_children d) v.walk.tokens) (v.unit.start + v.unit.length) ≤ v.unit.start + v.unit.length) r.1 made

-- what is known of a span of a unit
record IsInUnit (w : Walked) (s : Span) : Type 0 where
  begins : w.unit.start < s.from
  from : s.from ≤ w.unit.start + w.unit.length
  to : s.to ≤ w.unit.start + w.unit.length

module _ (ss : List Section) (w : Walked) (walk : IsWalk ss w) where
  span_inside : (d : Item) → Contains (items_of w) d → IsInUnit w (span_of w d)
  unfolding span_of
  span_inside d c =
      let t = walk_tokens ss walk.0 w walk.1 in
      let o = (walks_in_order ss walk.0 w walk.1).inside d c in
      record { begins = omega (arith, o.begins, o.some); from = o.ends; to = children_inside ss walk.0 w walk.1 d c }

  spans_inside : (s : Span) → Contains (spans_of w) s → IsInUnit w s
  spans_inside s c =
      let m = of_map (span_of w) (filter (λ x. x.children) (items_of w)) s c in
      let k = of_filter (λ x. x.children) (items_of w) m.0 m.1 in
      subst (IsInUnit w) m.2 (span_inside m.0 k.0)

  later_span : (d e : Item) → EndsLater d e → Later (span_of w d) (span_of w e)
  unfolding span_of
  later_span d e h = h

  unit_rises : Pairs Later (spans_of w)
  unit_rises =
      let t = walk_tokens ss walk.0 w walk.1 in
      let rises : Pairs EndsLater (items_of w) = after_rise start t.0 w.walk.tokens t.1 in
      let parents = filter (λ (x : Item). x.children) (items_of w) in
      pairs_map Later (span_of w) parents (pairs_weaker EndsLater (On Later (span_of w)) later_span parents (pairs_filter EndsLater (λ x. x.children) (items_of w) rises))

-- ---- the spans of a run

pub run_rises : (ss : List Section) (run : List Walked) → AreApart ss run → Pairs Later (flat_map spans_of run)
run_rises ss [] a = tt
run_rises ss (w ∷ ws) a =
    let others = run_rises ss ws (record { apart = a.apart.1; walks = λ v c. a.walks v (contains_later w ws v c) }) in
    pairs_append Later (spans_of w) (flat_map spans_of ws) (unit_rises ss w (a.walks w (contains_here w ws))) others (λ s t sc tc.
    let v = of_flat_map spans_of ws t tc in
    let x = spans_inside ss w (a.walks w (contains_here w ws)) s sc in
    let y = spans_inside ss v.0 (a.walks v.0 (contains_later w ws v.0 v.1)) t v.2 in
    let z = a.apart.0 v.0 v.1 in
    omega (arith, x.from, y.begins, z.1))

module _ (ss : List Section) (run : List Walked) (a : AreApart ss run) (w : Walked) (wc : Contains run w) (d : Item) (dc : Contains (items_of w) d) where
  -- a span that holds an entry is one of its unit
  same_unit : (s : Span) → Contains (flat_map spans_of run) s → Holds s d.at → Contains (spans_of w) s
  same_unit s c h =
      let v = of_flat_map spans_of run s c in
      let x = spans_inside ss v.0 (a.walks v.0 v.1) s v.2 in
      let walk = a.walks w wc in
      let o = (walks_in_order ss walk.0 w walk.1).inside d dc in
      ⊎_elim
      (λ (same : v.0 ≡ w). subst (λ (y : Walked). Contains (spans_of y) s) same v.2)
      (λ (other : Apart v.0 w ⊎ Apart w v.0). ⊎_elim
      (λ (l : Apart v.0 w). absurd (omega (arith, l.1, o.begins, h.1, x.to)))
      (λ (r : Apart w v.0). absurd (omega (arith, r.1, o.some, o.ends, h.0, x.begins)))
      other)
      (pairs_cases Apart run a.apart v.0 w v.1 wc)

  -- so is the innermost
  module _ (e : Item) (s : IsInnermost (spans_of w) d.at (span_of w e)) where
    in_run : IsInnermost (flat_map spans_of run) d.at (span_of w e)
    in_run = record { member = to_flat_map spans_of run w (span_of w e) wc s.member; holds = s.holds; greatest = λ t tc th. s.greatest t (same_unit t tc th) th }

-- ---- the last that is open

module _ (place : ℕ) where
  abbrev pub is_open : Span → Bool
  is_open s = ltb place s.to

  -- of these spans those that begin at the place or before it
  pub record AreBegun (spans begun : List Span) : Type 0 where
    pub rise : Pairs Later begun
    pub members : (s : Span) → Contains begun s → Contains spans s × (s.from ≤ place)
    pub all : (s : Span) → Contains spans s → s.from ≤ place → Contains begun s

  module _ (spans begun : List Span) (h : AreBegun spans begun) where
    none_open : ((s : Span) → Contains spans s → Holds s place → ⊥) → last_or None (filter is_open begun) ≡ None
    none_open none = ⊎_elim
        (λ (l : ((s : Span) → Contains begun s → is_open s ≡ true → ⊥) × (last_or None (filter is_open begun) ≡ None)). l.1)
        (λ (g : (s : Span) × (last_or None (filter is_open begun) ≡ Some s) × Contains begun s × (is_open s ≡ true) × ((x : Span) → Contains begun x → is_open x ≡ true → (x ≡ s) ⊎ Later x s)).
        let m = h.members g.0 g.2 in absurd (none g.0 m.0 (m.1, ltb-true place g.0.to g.3)))
        (last_is Later is_open begun None h.rise)

    innermost_open : (s : Span) → IsInnermost spans place s → last_or None (filter is_open begun) ≡ Some s
    innermost_open s i =
        let c = h.all s i.member i.holds.0 in
        let on = lt-ltb place s.to i.holds.1 in
        ⊎_elim
        (λ (l : ((x : Span) → Contains begun x → is_open x ≡ true → ⊥) × (last_or None (filter is_open begun) ≡ None)). absurd (l.0 s c on))
        (λ (g : (x : Span) × (last_or None (filter is_open begun) ≡ Some x) × Contains begun x × (is_open x ≡ true) × ((y : Span) → Contains begun y → is_open y ≡ true → (y ≡ x) ⊎ Later y x)).
        let m = h.members g.0 g.2 in
        g.1 ∙ ap (λ (x : Span). Some x) (⊎_elim
        (λ (same : g.0 ≡ s). same)
        (λ (lt : Later g.0 s). ⊎_elim (λ (same : s ≡ g.0). sym same) (λ (gt : Later s g.0). absurd (omega (arith, lt, gt))) (g.4 s c on))
        (i.greatest g.0 m.0 (m.1, ltb-true place g.0.to g.3))))
        (last_is Later is_open begun None h.rise)

-- the first n, where they begin at the place or before it and the others later
module _ (place : ℕ) (spans : List Span) (rise : Pairs Later spans) (n : ℕ) (within : n ≤ length spans) where
  begun_first : ((k : ℕ) (d : Span) → k < n → (get_or spans k d).from ≤ place) → ((k : ℕ) (d : Span) → n ≤ k → k < length spans → place < (get_or spans k d).from) → AreBegun place spans (take n spans)
  begun_first before behind = record {
    rise = pairs_front Later (take n spans) (drop n spans) (subst (Pairs Later) (sym (take-append-drop n spans)) rise);
    members = λ s c.
        let k : c.0 < n = omega (arith, c.1, length-take n spans) in
        let l : c.0 < length spans = omega (arith, k, within) in
        let at : get_or spans c.0 s ≡ s = sym (get_or-take n spans c.0 s k) ∙ c.2 in
        ((c.0, l, at), subst (λ (x : Span). x.from ≤ place) at (before c.0 s k));
    all = λ s c le. ⊎_elim
        (λ (lt : c.0 < n). (c.0, omega (arith, lt, within, length-take n spans), get_or-take n spans c.0 s lt ∙ c.2))
        (λ (ge : n ≤ c.0). absurd (omega (arith, le, ap (λ (x : Span). x.from) c.2, behind c.0 s ge c.1)))
        (cases_lt c.0 n);
  }

-- ---- the parent

abbrev pub entry : Span → ℕ
entry s = s.entry

pub entry_is : (w : Walked) (e : Item) → (span_of w e).entry ≡ e.at
unfolding span_of
entry_is w e = refl

mapped : (w : Walked) (o : Option Item) → option_map (λ e. e.at) o ≡ option_map (λ e. e.item.at) (option_map (λ e. let l : Located = record { home = w; item = e } in l) o)
mapped w (Some e) = refl
mapped w None = refl

zero_or_more : (n : ℕ) → (n ≡ 0) ⊎ (0 < n)
zero_or_more zero = inl refl
zero_or_more (suc n) = inr (omega arith)

module _ (ss : List Section) (run : List Walked) (a : AreApart ss run) (begun : List Span) where
  parent_in : (w : Walked) → Contains run w → (d : Item) → Contains (items_of w) d → AreBegun d.at (flat_map spans_of run) begun → option_map entry (last_or None (filter (is_open d.at) begun)) ≡ option_map (λ e. e.at) (parent_of (items_of w) d)
  parent_in w wc d dc b = ⊎_elim
      (λ (top : d.depth ≡ 0).
      let walk = a.walks w wc in
      let none = none_open d.at (flat_map spans_of run) begun b (λ s c h. root_in_no_span ss walk.0 w walk.1 d dc top s (same_unit ss run a w wc d dc s c h) h) in
      ap (option_map entry) none ∙ ap (option_map (λ e. e.at)) (sym ((walks_in_order ss walk.0 w walk.1).root d dc top).1))
      (λ (deep : 0 < d.depth).
      let walk = a.walks w wc in
      let p = parent_innermost ss walk.0 w walk.1 d dc deep in
      let found = innermost_open d.at (flat_map spans_of run) begun b (span_of w p.0) (in_run ss run a w wc d dc p.0 p.2) in
      ap (option_map entry) found ∙ ap (λ (n : ℕ). Some n) (entry_is w p.0) ∙ ap (option_map (λ e. e.at)) (sym p.1))
      (zero_or_more d.depth)

  pub parent_found : (d : Located) → Contains (flat_map located run) d → AreBegun d.item.at (flat_map spans_of run) begun → option_map entry (last_or None (filter (is_open d.item.at) begun)) ≡ parent_offset d
  parent_found d c b =
      let w = of_flat_map located run d c in
      let x = of_map (λ e. let l : Located = record { home = w.0; item = e } in l) (items_of w.0) d w.2 in
      subst (λ (y : Located). AreBegun y.item.at (flat_map spans_of run) begun → option_map entry (last_or None (filter (is_open y.item.at) begun)) ≡ parent_offset y) x.2
      (λ h. parent_in w.0 w.1 x.0 x.1 h ∙ mapped w.0 (parent_of (items_of w.0) x.0)) b

-- ---- the last of a list that grows

pub last_push : {A : Type 0} (p : A → Bool) (xs : List A) (y : A) (before : Option A) → last_or before (filter p (xs ++ y ∷ [])) ≡ cond (p y) (Some y) (last_or before (filter p xs))
last_push p [] y before = elim (p y) as (λ b. last_or before (cond b (y ∷ []) []) ≡ cond b (Some y) before) [
  | true ↦ refl
  | false ↦ refl
]
last_push p (x ∷ xs) y before = elim (p x) as (λ b. last_or before (cond b (x ∷ filter p (xs ++ y ∷ [])) (filter p (xs ++ y ∷ []))) ≡ cond (p y) (Some y) (last_or before (cond b (x ∷ filter p xs) (filter p xs)))) [
  | true ↦ last_push p xs y (Some x)
  | false ↦ last_push p xs y before
]

-- one element more of a list
module _ {A : Type 0} (p : A → Bool) (xs : List A) (k : ℕ) (d : A) (some : 0 < k) (within : k ≤ length xs) where
  one_more : last_or None (filter p (take k xs)) ≡ cond (p (get_or xs (k - 1) d)) (Some (get_or xs (k - 1) d)) (last_or None (filter p (take (k - 1) xs)))
  one_more =
      let n : suc (k - 1) ≡ k = omega (arith, some) in
      let l : k - 1 < length xs = omega (arith, some, within) in
      ap (λ (m : ℕ). last_or None (filter p (take m xs))) (sym n) ∙ ap (λ (ys : List A). last_or None (filter p ys)) (take-suc xs (k - 1) d l) ∙ last_push p (take (k - 1) xs) (get_or xs (k - 1) d) None

  pub last_hit : p (get_or xs (k - 1) d) ≡ true → last_or None (filter p (take k xs)) ≡ Some (get_or xs (k - 1) d)
  last_hit on = one_more ∙ ap (λ (b : Bool). cond b (Some (get_or xs (k - 1) d)) (last_or None (filter p (take (k - 1) xs)))) on

  pub last_missed : p (get_or xs (k - 1) d) ≡ false → last_or None (filter p (take k xs)) ≡ last_or None (filter p (take (k - 1) xs))
  last_missed off = one_more ∙ ap (λ (b : Bool). cond b (Some (get_or xs (k - 1) d)) (last_or None (filter p (take (k - 1) xs)))) off

-- the span before an index, where it is open
module _ (place : ℕ) (xs : List Span) (k : ℕ) (some : 0 < k) (within : k ≤ length xs) (o : Option Span) (is : o ≡ option_and_then (if_open place) (slice_get xs (k - 1))) where
  here : (s : Span) × (o ≡ cond (ltb place s.to) (Some s) None) × ((d : Span) → get_or xs (k - 1) d ≡ s)
  here = let x = at (λ (s : Span). s.from) xs place xs (k - 1) (omega (arith, some, within)) in (x.0, is ∙ ap (option_and_then (if_open place)) x.1, x.2)

  abbrev pub last : ℕ → Option Span
  last n = last_or None (filter (is_open place) (take n xs))

  -- it is the last that is open
  pub opened : (s : Span) → o ≡ Some s → last k ≡ Some s
  opened s found = by (ltb place (here.0).to) refl (sym here.1 ∙ found)
    where
      by : (b : Bool) → ltb place (here.0).to ≡ b → cond b (Some here.0) None ≡ Some s → last k ≡ Some s
      by true on e = last_hit (is_open place) xs k here.0 some within (ap (λ (x : Span). ltb place x.to) (here.2 here.0) ∙ on) ∙ ap {B = Option Span} (λ (x : Span). Some x) (here.2 here.0) ∙ e
      by false on e = absurd cc

  -- else the last is one of those before it
  pub unopened : o ≡ None → last k ≡ last (k - 1)
  unopened none = by (ltb place (here.0).to) refl (sym here.1 ∙ none)
    where
      by : (b : Bool) → ltb place (here.0).to ≡ b → cond b (Some here.0) None ≡ None → last k ≡ last (k - 1)
      by true on e = absurd cc
      by false off e = last_missed (is_open place) xs k here.0 some within (ap (λ (x : Span). ltb place x.to) (here.2 here.0) ∙ off)

-- ---- a shard

-- where they begin doesn't fall
from_rises : (spans : List Span) → Pairs Later spans → IsNonDecreasingBy (λ s. s.from) spans
from_rises spans rise i j d le within = ⊎_elim
    (λ (lt : i < j). let h = all_pairs Later spans rise i j d lt within in omega (arith, h))
    (λ (ge : j ≤ i). let same : i ≡ j = omega (arith, le, ge) in subst (λ (k : ℕ). (get_or spans i d).from ≤ (get_or spans k d).from) same (omega arith))
    (cases_lt i j)

-- where a shard stands for a run the last span that is open is that of the parent
pub parent_right : (s : Shard) (place n : ℕ) → n ≤ length s.spans →
    (IsNonDecreasingBy (λ t. t.from) s.spans → IsPartitionPoint (λ t. t.from ≤ place) (λ t. place < t.from) s.spans n) →
    IsParentAt s place (option_map entry (last_or None (filter (is_open place) (take n s.spans))))
parent_right s place n within point f p run file part stands d c at =
    let spans = s.spans in
    let a = run_apart f p run file part in
    let whole : spans ≡ flat_map spans_of run = stands.spans in
    let rise : Pairs Later spans = subst (Pairs Later) (sym whole) (run_rises p.sections run a) in
    let parts = point (from_rises spans rise) in
    let begun : AreBegun place spans (take n spans) = begun_first place spans rise n within
    (λ k e lt. parts.0 k e (omega arith) lt)
    (λ k e le lt. parts.1 k e le lt) in
    let here : AreBegun d.item.at (flat_map spans_of run) (take n spans) = subst (λ (m : ℕ). AreBegun m (flat_map spans_of run) (take n spans)) (sym at) (subst (λ (xs : List Span). AreBegun place xs (take n spans)) whole begun) in
    subst (λ (m : ℕ). option_map entry (last_or None (filter (is_open m) (take n spans))) ≡ parent_offset d) at (parent_found p.sections run a (take n spans) d c here)
