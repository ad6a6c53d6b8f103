-- The entries inside a span of a unit, by the walk that begins there.
use Rattle.std.proofs.Common.{◌≡◌, ℕ, zero, suc, ◌+◌, ◌-◌, ◌<◌, ◌≤◌, Bool, true, false, cond, leb, ltb, eqb, ◌&&◌, List, [], ◌∷◌, length, drop, Option, Some, None, Result, Ok, Err, refl, sym, ap, subst, ◌∙◌, arith, length-drop, ⊎_elim}
use Rattle.std.specs.Prelude.{Contains, filter, find, ◌==◌}
use Rattle.std.proofs.lemmas.Bool.{and_from, lt-ltb, le-leb, ne_eqb, lt-leb, le-ltb, true≢false}
use Rattle.std.proofs.lemmas.List.{drop-drop}
use Rattle.common_laws.proofs.Members.{contains_cases, of_map, of_filter}
use Rattle.ix_base.specs.declared.fault.Fault.{Fault}
use Rattle.ix_base.specs.Reading.{Input}
use Rattle.index_model.specs.declared.unit.Unit.{Unit as UnitHeader}
use Rattle.index_model.specs.declared.shard.Span.{Span}
use Rattle.index_model.specs.Abbreviations.{Abbrev}
use Rattle.index_model.specs.Walk.{Item, Token, Null, Entry, Levels, Walk, items, is_over, behind, with_token, tail_of, token_or_fault}
use Rattle.index_model.specs.WalkLeft.{levels_after, left_from, left}
use Rattle.index_model.specs.Program.{Walked, items_of}
use Rattle.index_model.specs.ShardParts.{span_of, spans_of, item_in_span}
use Rattle.index_model.proofs.TokenReads.{start, left_follow, walk_left}
use Rattle.index_model.proofs.OrderLaws.{bounded}
use Rattle.index_model.proofs.ResumeLaws.{same_inside, span_facts}
use Rattle.entry_scan.specs.Inside.{tree_of, walked_of, inside_of}
use Rattle.entry_scan.proofs.EntryLaws.{shallow_token}

-- ---- depths

module _ (u : UnitHeader) (table : List Abbrev) where
  abbrev token : Levels → Input → Result (Token × Input) Fault
  token = token_or_fault u table

  shallow_next : (open_ : Levels) (i : Input) (t : Token × Input) (w : Walk) → token open_ i ≡ Ok t → (d : Item) → (Contains (items w) d → d.depth ≤ 1024) → Contains (items (with_token t.0 w)) d → d.depth ≤ 1024
  shallow_next open_ i (Null depth after, next) w is d later c = later c
  shallow_next open_ i (Entry x, next) w is d later c = ⊎_elim
      (λ (same : x ≡ d). omega (arith, shallow_token u table open_ i x next is, ap (λ (y : Item). y.depth) same))
      later
      (contains_cases x (items w) d c)

  -- no entry is deeper than the limit
  shallow_left : (n : ℕ) (open_ : Levels) (i : Input) (d : Item) → Contains (items (left_from token n open_ i)) d → d.depth ≤ 1024
  unfolding left_from tail_of
  shallow_left zero open_ i d c = absurd (omega (arith, c.1))
  shallow_left (suc n) open_ i d c =
      elim (is_over open_ i) as (λ b. Contains (items (cond b (tail_of i) (behind (token open_ i) (λ t. left_from token n (levels_after open_ t.0) t.1)))) d → d.depth ≤ 1024) [
        | true ↦ λ h. absurd (omega (arith, h.1))
        | false ↦ elim (token open_ i) as (λ r. token open_ i ≡ r → Contains (items (behind r (λ t. left_from token n (levels_after open_ t.0) t.1))) d → d.depth ≤ 1024) [
          | Err f ↦ λ g h. absurd (omega (arith, h.1))
          | Ok t ↦ λ g h. shallow_next open_ i t (left_from token n (levels_after open_ t.0) t.1) g d (shallow_left n (levels_after open_ t.0) t.1 d) h
        ] refl
      ] c

-- ---- what is looked for

find_same : (p q : Item → Bool) (ds : List Item) → ((d : Item) → p d ≡ q d) → find p ds ≡ find q ds
find_same p q [] h = refl
find_same p q (d ∷ ds) h = ap (λ (b : Bool). cond b (Some d) (find p ds)) (h d) ∙ ap (λ (r : Option Item). cond (q d) (Some d) r) (find_same p q ds h)

find_none : (p : Item → Bool) (ds : List Item) → ((d : Item) → p d ≡ false) → find p ds ≡ None
find_none p [] h = refl
find_none p (d ∷ ds) h = rw (h d) (find_none p ds h)

module _ (o : ℕ) where
  abbrev here : Item → Bool
  here d = d.at == o

  -- a test that what is looked for passes takes nothing away
  find_kept : (q : Item → Bool) → ((d : Item) → d.at ≡ o → q d ≡ true) → (ds : List Item) → find here (filter q ds) ≡ find here ds
  find_kept q h [] = refl
  find_kept q h (d ∷ ds) =
      elim (q d) as (λ b. q d ≡ b → find here (cond b (d ∷ filter q ds) (filter q ds)) ≡ cond (here d) (Some d) (find here ds)) [
        | true ↦ λ is. ap (λ (r : Option Item). cond (here d) (Some d) r) (find_kept q h ds)
        | false ↦ λ is. rw (ne_eqb d.at o (λ same. true≢false (sym (h d same) ∙ is))) (find_kept q h ds)
      ] refl

and_on : (x y z : Bool) → y ≡ true → z ≡ true → (x && y && z) ≡ x
and_on true y z a b = rw (a, b) refl
and_on false y z a b = refl

and_off_2 : (x y z : Bool) → y ≡ false → (x && y && z) ≡ false
and_off_2 true y z a = rw a refl
and_off_2 false y z a = refl

and_off_3 : (x y z : Bool) → z ≡ false → (x && y && z) ≡ false
and_off_3 true true z a = a
and_off_3 true false z a = refl
and_off_3 false y z a = refl

-- ---- spans

module _ (u : UnitHeader) (table : List Abbrev) (bytes : List ℕ) (s : Span) (header : u.body ≤ length bytes) (member : Contains (spans_of (walked_of u table bytes s.unit)) s) where
  abbrev w : Walked
  w = walked_of u table bytes s.unit

  abbrev tree : Input
  tree = tree_of u bytes

  -- the walk of the unit, by what is left at its start
  abbrev whole : Walk
  whole = left (token_or_fault u table) start tree

  -- the entry of the span
  record Opener : Type 0 where
    entry : Item
    inside : Contains (items whole) entry
    children : entry.children ≡ true
    from : s.from ≡ entry.after
    depth : s.depth ≡ entry.depth

  opener : Opener
  opener =
      let m = of_map (span_of w) (filter (λ x. x.children) (items_of w)) s member in
      let k = of_filter (λ x. x.children) (items_of w) m.0 m.1 in
      let f = span_facts w m.0 in
      record {
        entry = m.0;
        inside = subst (λ (v : Walk). Contains (items v) m.0) (walk_left u table tree) k.0;
        children = k.1;
        from = ap (λ (x : Span). x.from) (sym m.2) ∙ f.0;
        depth = ap (λ (x : Span). x.depth) (sym m.2) ∙ f.1;
      }

  -- a span begins inside the unit's bytes, at a depth within the limit
  pub place : (u.start ≤ s.from) × (s.from ≤ u.start + length bytes) × (s.depth ≤ 1024)
  place =
      let o = opener in
      let b = bounded start tree whole.tokens (left_follow u table (length tree.rest) start tree) o.entry o.inside in
      let d = shallow_left u table (length tree.rest) start tree o.entry o.inside in
      let l = length-drop u.body bytes in
      (omega (arith, b.0, b.1, o.from), omega (arith, b.2, o.from, l, header), omega (arith, d, o.depth))

  -- the bytes from behind the entry on are those of the unit from there on
  onward : drop (s.from - tree.at) tree.rest ≡ drop (s.from - u.start) bytes
  onward =
      let o = opener in
      let b = bounded start tree whole.tokens (left_follow u table (length tree.rest) start tree) o.entry o.inside in
      let n : u.body + (s.from - tree.at) ≡ s.from - u.start = omega (arith, b.0, b.1, o.from) in
      drop-drop (s.from - tree.at) u.body bytes ∙ ap (λ (k : ℕ). drop k bytes) n

  abbrev in_span : Item → Bool
  in_span d = leb s.from d.at && ltb d.at s.to

  -- the walk that begins there gives the entries inside
  same : filter (λ d. ltb d.at s.to) (items (inside_of u table bytes s)) ≡ filter in_span (items_of w)
  same =
      let o = opener in
      let again = same_inside u table tree o.entry s o.from o.depth o.children o.inside in
      ap (λ (r : List ℕ). filter (λ (d : Item). ltb d.at s.to) (items (left (token_or_fault u table) (record { root = true; depth = s.depth + 1 }) (record { at = s.from; rest = r })))) (sym onward) ∙ again ∙ ap (λ (v : Walk). filter in_span (items v)) (sym (walk_left u table tree))

  module _ (o : ℕ) where
    -- outside there is none
    pub before : o < s.from → item_in_span w s o ≡ None
    before lt = find_none (λ d. d.at == o && leb s.from o && ltb o s.to) (items_of w) (λ d. and_off_2 (eqb d.at o) (leb s.from o) (ltb o s.to) (lt-leb s.from o lt))

    pub past : s.to ≤ o → item_in_span w s o ≡ None
    past le = find_none (λ d. d.at == o && leb s.from o && ltb o s.to) (items_of w) (λ d. and_off_3 (eqb d.at o) (leb s.from o) (ltb o s.to) (le-ltb o s.to le))

    -- inside it is that of the walk that begins there
    pub inside : s.from ≤ o → o < s.to → find (λ d. d.at == o) (items (inside_of u table bytes s)) ≡ item_in_span w s o
    inside le lt =
        let on : ltb o s.to ≡ true = lt-ltb o s.to lt in
        let in_time = find_kept o (λ d. ltb d.at s.to) (λ d is. ap (λ (n : ℕ). ltb n s.to) is ∙ on) (items (inside_of u table bytes s)) in
        let within = find_kept o in_span (λ d is. and_from (leb s.from d.at) (ltb d.at s.to) (ap (λ (n : ℕ). leb s.from n) is ∙ le-leb s.from o le) (ap (λ (n : ℕ). ltb n s.to) is ∙ on)) (items_of w) in
        let both = find_same (λ d. d.at == o && leb s.from o && ltb o s.to) (λ d. d.at == o) (items_of w) (λ d. and_on (eqb d.at o) (leb s.from o) (ltb o s.to) (le-leb s.from o le) on) in
        sym in_time ∙ ap (λ (ds : List Item). find (λ (d : Item). d.at == o) ds) same ∙ within ∙ sym both
