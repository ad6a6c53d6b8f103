-- The innermost span that holds an entry is that of its parent.
use Rattle.std.proofs.Common.{◌≡◌, ℕ, suc, ◌+◌, ◌<◌, ◌≤◌, Bool, true, false, cond, ltb, eqb, ◌&&◌, List, [], ◌∷◌, Some, None, refl, sym, ap, subst, ◌∙◌, arith, inl, inr, ⊎_elim}
use Rattle.std.specs.Prelude.{Contains, filter_map, filter}
use Rattle.std.specs.List.{cons_option}
use Rattle.std.proofs.lemmas.Bool.{lt-ltb, eq-eqb, cases_order, cases_eq, cases_Bool, ne_eqb, and_right, and_from}
use mathlib.Core.Logic.{◌⊎◌}
use Rattle.common_laws.proofs.Members.{contains_later, contains_cases, of_map, to_map, of_filter, to_filter}
use Rattle.ix_base.specs.Reading.{Input}
use Rattle.index_model.specs.declared.shard.Span.{Span}
use Rattle.index_model.specs.Walk.{Item, Token, Null, Entry, Levels}
use Rattle.index_model.specs.WalkLeft.{levels_after}
use Rattle.index_model.specs.Program.{Walked, items_of}
use Rattle.index_model.specs.ShardParts.{ends_children, first_place, span_of, spans_of}
use Rattle.index_model.specs.LawsOrder.{HasParent}
use Rattle.index_model.specs.LawsSpans.{Holds, IsInnermost, ParentHasTheInnermostSpan, NoSpanHoldsARoot}
use Rattle.index_model.proofs.TokenReads.{Follow, start}
use Rattle.index_model.proofs.ParentLaws.{Rise, rise_below}
use Rattle.index_model.proofs.OrderLaws.{entries, goes, bounded, rises, deep, opened_before, walk_tokens, walks_in_order}
use Rattle.index_model.proofs.SpanLaws.{Split, split, behind, of_rest, ends_in_rest, next_is}

-- where the children of an entry end among these tokens, or at this place
abbrev ends_at : Item → List Token → ℕ → ℕ
ends_at e ts end = first_place (filter_map (ends_children e) ts) end

abbrev ends_here : Item → ℕ → ℕ → Bool
ends_here e depth after = ltb e.at after && eqb depth (e.depth + 1)

module _ (e : Item) (end : ℕ) where
  -- they end behind every place that these tokens follow
  behind_place : (place : ℕ) (open_ : Levels) (i : Input) (ts : List Token) → Follow open_ i ts → place ≤ i.at → place < end → place < ends_at e ts end
  behind_place place open_ i [] f le lt = lt
  behind_place place open_ i (Entry x ∷ ts) f le lt = let g = goes open_ i f.1 (Entry x) f.2 in behind_place place (levels_after open_ (Entry x)) f.1 ts f.3 (omega (arith, g.0, le)) lt
  behind_place place open_ i (Null depth after ∷ ts) f le lt =
      let g = goes open_ i f.1 (Null depth after) f.2 in
      either (ends_here e depth after) (omega (arith, g.0, le, f.2.says.2)) (behind_place place (levels_after open_ (Null depth after)) f.1 ts f.3 (omega (arith, g.0, le)) lt)
    where
      either : (b : Bool) → place < after → place < ends_at e ts end → place < first_place (cons_option (cond b (Some after) None) (filter_map (ends_children e) ts)) end
      either true here later = here
      either false here later = later

  module _ (d : Item) where
    -- no entry of e's depth stands between
    abbrev NoneBetween : List Item → Type 0
    NoneBetween ds = (x : Item) → Contains ds x → x.at < d.at → x.depth ≡ e.depth → ⊥

    -- then the children of e don't end before d
    held : (open_ : Levels) (i : Input) (ts : List Token) → Follow open_ i ts → Contains (entries ts) d → d.depth ≡ e.depth + 1 → NoneBetween (entries ts) → e.at < i.at → d.at < end → d.at < ends_at e ts end
    held open_ i [] f c one none lt in_end = absurd (omega (arith, c.1))
    held open_ i (Entry x ∷ ts) f c one none lt in_end =
        let g = goes open_ i f.1 (Entry x) f.2 in
        ⊎_elim
        (λ (same : x ≡ d). behind_place d.at (levels_after open_ (Entry x)) f.1 ts f.3 (omega (arith, g.0, f.2.says.0, ap (λ (y : Item). y.at) same)) in_end)
        (λ (l : Contains (entries ts) d). held (levels_after open_ (Entry x)) f.1 ts f.3 l one (λ y yc. none y (contains_later x (entries ts) y yc)) (omega (arith, g.0, lt)) in_end)
        (contains_cases x (entries ts) d c)
    held open_ i (Null depth after ∷ ts) f c one none lt in_end =
        let g = goes open_ i f.1 (Null depth after) f.2 in
        let l = levels_after open_ (Null depth after) in
        ⊎_elim
        (λ (same : depth ≡ e.depth + 1).
        let x = opened_before e.depth [] l f.1 ts f.3 (λ j lj jd. absurd (omega (arith, f.2.says.1, same))) (λ y yc. absurd (omega (arith, yc.1))) d c e.depth (omega arith) (omega (arith, one)) in
        absurd (none x.0 x.1 x.2 x.3))
        (λ (other : depth ≡ e.depth + 1 → ⊥).
        let off : ends_here e depth after ≡ false = and_right (ltb e.at after) (eqb depth (e.depth + 1)) (ne_eqb depth (e.depth + 1) other) in
        rw off (held l f.1 ts f.3 c one none (omega (arith, g.0, lt)) in_end))
        (cases_eq depth (e.depth + 1))

    -- what stands before the end of e's children is deeper than e
    deeper : (open_ : Levels) (i : Input) (ts : List Token) → Follow open_ i ts → Contains (entries ts) d → e.depth + 1 ≤ open_.depth → e.at < i.at → d.at < ends_at e ts end → e.depth + 1 ≤ d.depth
    deeper open_ i [] f c low lt inside = absurd (omega (arith, c.1))
    deeper open_ i (Entry x ∷ ts) f c low lt inside =
        let g = goes open_ i f.1 (Entry x) f.2 in
        ⊎_elim
        (λ (same : x ≡ d). omega (arith, f.2.says.1, low, ap (λ (y : Item). y.depth) same))
        (λ (l : Contains (entries ts) d). deeper (levels_after open_ (Entry x)) f.1 ts f.3 l (up x.children) (omega (arith, g.0, lt)) inside)
        (contains_cases x (entries ts) d c)
      where
        up : (b : Bool) → e.depth + 1 ≤ cond b (open_.depth + 1) open_.depth
        up true = omega (arith, low)
        up false = low
    deeper open_ i (Null depth after ∷ ts) f c low lt inside =
        let g = goes open_ i f.1 (Null depth after) f.2 in
        let l = levels_after open_ (Null depth after) in
        let later = bounded l f.1 ts f.3 d c in
        ⊎_elim
        (λ (same : depth ≡ e.depth + 1).
        let on : ends_here e depth after ≡ true = and_from (ltb e.at after) (eqb depth (e.depth + 1)) (lt-ltb e.at after (omega (arith, f.2.says.2, g.0, lt))) (eq-eqb depth (e.depth + 1) same) in
        let stop : d.at < after = rw on at inside in
        absurd (omega (arith, stop, f.2.says.2, later.0)))
        (λ (other : depth ≡ e.depth + 1 → ⊥).
        let off : ends_here e depth after ≡ false = and_right (ltb e.at after) (eqb depth (e.depth + 1)) (ne_eqb depth (e.depth + 1) other) in
        let on : d.at < ends_at e ts end = rw off at inside in
        deeper l f.1 ts f.3 c (omega (arith, f.2.says.1, low, other)) (omega (arith, g.0, lt)) on)
        (cases_eq depth (e.depth + 1))

-- two entries at one place are one
pub same_item : (n : ℕ) (ds : List Item) (x y : Item) → Rise n ds → Contains ds x → Contains ds y → x.at ≡ y.at → x ≡ y
same_item n [] x y r xc yc same = absurd (omega (arith, xc.1))
same_item n (d ∷ ds) x y r xc yc same = ⊎_elim
    (λ (dx : d ≡ x). ⊎_elim
    (λ (dy : d ≡ y). sym dx ∙ dy)
    (λ (yl : Contains ds y). absurd (omega (arith, rise_below (suc d.at) ds y r.1 yl, same, ap (λ (z : Item). z.at) dx)))
    (contains_cases d ds y yc))
    (λ (xl : Contains ds x). ⊎_elim
    (λ (dy : d ≡ y). absurd (omega (arith, rise_below (suc d.at) ds x r.1 xl, same, ap (λ (z : Item). z.at) dy)))
    (λ (yl : Contains ds y). same_item (suc d.at) ds x y r.1 xl yl same)
    (contains_cases d ds y yc))
    (contains_cases d ds x xc)

one_more : (c b : Bool) (open_ depth : ℕ) → c ≡ b → depth ≡ open_ → cond c (open_ + 1) open_ ≡ cond b (depth + 1) depth
one_more c b open_ depth is same = ap (λ (x : Bool). cond x (open_ + 1) open_) is ∙ ap (λ (x : ℕ). cond b (x + 1) x) (sym same)

module _ (w : Walked) (i : Input) (f : Follow start i w.walk.tokens) where
  abbrev ts : List Token
  ts = w.walk.tokens

  abbrev end : ℕ
  end = w.unit.start + w.unit.length

  -- the tokens split at an entry
  at_item : (e : Item) → Contains (items_of w) e → Split i ts e
  at_item e c = split start i ts f e c

  -- behind an entry with children a level more is open, behind another none
  level : (e : Item) (c : Contains (items_of w) e) (b : Bool) → e.children ≡ b → (levels_after (at_item e c).open_ (Entry e)).depth ≡ cond b (e.depth + 1) e.depth
  level e c b is = one_more e.children b (at_item e c).open_.depth e.depth is (at_item e c).token.says.1

  module _ (d : Item) (dc : Contains (items_of w) d) (h : HasParent (items_of w) d) where
    abbrev e : Item
    e = h.parent

    abbrev s : Split i ts e
    s = at_item e h.member

    in_rest : Contains (entries s.rest) d
    in_rest = behind i ts e s d dc h.earlier

    -- the parent is the last of its depth before the entry
    none_between : NoneBetween e end d (entries s.rest)
    none_between x xc lt same =
        let last = h.last x (of_rest i ts e s x xc) lt (omega (arith, same, h.one_up)) in
        let b = bounded (levels_after s.open_ (Entry e)) s.next s.rest s.follows x xc in
        omega (arith, last, b.0, (next_is i ts e s).1)

    has_children : e.children ≡ true
    has_children = ⊎_elim
        (λ (on : e.children ≡ true). on)
        (λ (off : e.children ≡ false).
        let l = level e h.member false off in
        let x = opened_before e.depth [] (levels_after s.open_ (Entry e)) s.next s.rest s.follows (λ j lj jd. absurd (omega (arith, l, lj, jd))) (λ y yc. absurd (omega (arith, yc.1))) d in_rest e.depth (omega arith) (omega (arith, h.one_up)) in
        absurd (none_between x.0 x.1 x.2 x.3))
        (cases_Bool e.children)

    holds : d.at < end → Holds (span_of w e) d.at
    unfolding span_of
    holds in_end =
        let n = next_is i ts e s in
        let b = bounded (levels_after s.open_ (Entry e)) s.next s.rest s.follows d in_rest in
        let to : d.at < ends_at e s.rest end = held e end d (levels_after s.open_ (Entry e)) s.next s.rest s.follows in_rest (sym h.one_up) none_between n.1 in_end in
        (omega (arith, n.0, b.0), subst (λ (xs : List ℕ). d.at < first_place xs end) (sym (ends_in_rest i ts e s)) to)

    -- another span that holds the entry is that of an entry before its parent
    module _ (o : Item) (oc : Contains (items_of w) o) (on : o.children ≡ true) where
      abbrev t : Split i ts o
      t = at_item o oc

      not_later : e.at < o.at → o.at < d.at → d.at < ends_at o ts end → ⊥
      not_later lt before inside =
          let n = next_is i ts o t in
          let l = level o oc true on in
          let dr = behind i ts o t d dc before in
          let below = deeper o end d (levels_after t.open_ (Entry o)) t.next t.rest t.follows dr (omega (arith, l)) n.1 (subst (λ (xs : List ℕ). d.at < first_place xs end) (ends_in_rest i ts o t) inside) in
          ⊎_elim
          (λ (same : o.depth ≡ e.depth). omega (arith, h.last o oc before (omega (arith, same, h.one_up)), lt))
          (λ (other : o.depth ≡ e.depth → ⊥).
          let x = opened_before (o.depth + 1) [] (levels_after t.open_ (Entry o)) t.next t.rest t.follows (λ j lj jd. absurd (omega (arith, l, lj, jd))) (λ y yc. absurd (omega (arith, yc.1))) d dr e.depth (omega (arith, below, h.one_up, other)) (omega (arith, h.one_up)) in
          let b = bounded (levels_after t.open_ (Entry o)) t.next t.rest t.follows x.0 x.1 in
          omega (arith, h.last x.0 (of_rest i ts o t x.0 x.1) x.2 (omega (arith, x.3, h.one_up)), b.0, n.1, lt))
          (cases_eq o.depth e.depth)

      order : Holds (span_of w o) d.at → (o ≡ e) ⊎ ((span_of w o).from < (span_of w e).from)
      unfolding span_of
      order held_by =
          let n = next_is i ts o t in
          let m = next_is i ts e s in
          ⊎_elim
          (λ (same : o.at ≡ e.at). inl (same_item i.at (items_of w) o e (rises start i ts f) oc h.member same))
          (λ (or : (o.at < e.at) ⊎ (e.at < o.at)). ⊎_elim
          (λ (lt : o.at < e.at).
          let b = bounded (levels_after t.open_ (Entry o)) t.next t.rest t.follows e (behind i ts o t e h.member lt) in
          inr (omega (arith, n.0, b.0, m.0, m.1)))
          (λ (gt : e.at < o.at). absurd (not_later gt (omega (arith, held_by.0, n.0, n.1)) held_by.1))
          or)
          (cases_order o.at e.at)

    innermost : d.at < end → IsInnermost (spans_of w) d.at (span_of w e)
    innermost in_end = record {
      member = to_map (span_of w) (filter (λ x. x.children) (items_of w)) e (to_filter (λ x. x.children) (items_of w) e h.member has_children);
      holds = holds in_end;
      greatest = λ x xc xh.
          let m = of_map (span_of w) (filter (λ x. x.children) (items_of w)) x xc in
          let k = of_filter (λ x. x.children) (items_of w) m.0 m.1 in
          let r = order m.0 k.0 k.1 (subst (λ (y : Span). Holds y d.at) (sym m.2) xh) in
          ⊎_elim
          (λ (same : m.0 ≡ e). inl (sym m.2 ∙ ap (span_of w) same))
          (λ (lt : (span_of w m.0).from < (span_of w e).from). inr (subst (λ (y : Span). y.from < (span_of w e).from) m.2 lt))
          r;
    }

  -- a root stands before every span
  no_span : (d : Item) → Contains (items_of w) d → d.depth ≡ 0 → (x : Span) → Contains (spans_of w) x → Holds x d.at → ⊥
  unfolding span_of
  no_span d dc top x xc xh =
      let m = of_map (span_of w) (filter (λ x. x.children) (items_of w)) x xc in
      let k = of_filter (λ x. x.children) (items_of w) m.0 m.1 in
      let held_by : Holds (span_of w m.0) d.at = subst (λ (y : Span). Holds y d.at) (sym m.2) xh in
      let t = at_item m.0 k.0 in
      let n = next_is i ts m.0 t in
      omega (arith, top, deep (levels_after t.open_ (Entry m.0)) t.next t.rest refl t.follows d (behind i ts m.0 t d dc (omega (arith, held_by.0, n.0, n.1))))

pub parent_innermost : ParentHasTheInnermostSpan
parent_innermost ss u w is d dc lt =
    let t = walk_tokens ss u w is in
    let o = walks_in_order ss u w is in
    let h = o.parents d dc lt in
    let b = o.inside d dc in
    (h.parent, h.is, innermost w t.0 t.1 d dc h (omega (arith, b.some, b.ends)))

pub root_in_no_span : NoSpanHoldsARoot
root_in_no_span ss u w is d dc top x xc xh = let t = walk_tokens ss u w is in no_span w t.0 t.1 d dc top x xc xh
