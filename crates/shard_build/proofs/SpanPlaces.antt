-- The spans of the entries of a walk, by the tokens behind each of them.
use Rattle.std.proofs.Common.{◌≡◌, ℕ, ◌+◌, ◌<◌, ◌≤◌, Bool, true, false, cond, eqb, ltb, ◌&&◌, List, [], ◌∷◌, ◌++◌, Option, Some, None, unwrap_or, refl, sym, ap, ◌∙◌, arith, append_assoc, ⊎_elim}
use Rattle.std.specs.Prelude.{Contains, filter, filter_map, map}
use Rattle.std.specs.List.{cons_option}
use Rattle.std.proofs.lemmas.Bool.{lt-ltb, le-ltb}
use Rattle.std.proofs.lemmas.List.Elements.{filter_map-append, Contains-push_cases}
use Rattle.common_laws.proofs.Members.{contains_here, contains_later}
use Rattle.ix_base.specs.Reading.{Input}
use Rattle.index_model.specs.declared.shard.Span.{Span}
use Rattle.index_model.specs.declared.unit.Unit.{Unit as UnitHeader}
use Rattle.index_model.specs.Program.{Walked}
use Rattle.index_model.specs.Sections.{Section}
use Rattle.index_model.specs.ShardParts.{ends_children, first_place, span_of, spans_of}
use Rattle.index_model.specs.Walk.{Item, Token, Null, Entry, Levels}
use Rattle.index_model.specs.WalkLeft.{levels_after}
use Rattle.index_model.proofs.OrderLaws.{entries, goes}
use Rattle.index_model.proofs.TokenReads.{Follow}
use Rattle.shard_build.proofs.SpanEnds.{ends, new_spans, span_before}

-- ---- behind an entry

place_of : (end : ℕ) (b : Bool) (after : ℕ) (more : List ℕ) (o : Option ℕ) → first_place more end ≡ unwrap_or o end → first_place (cons_option (cond b (Some after) None) more) end ≡ unwrap_or (cond b (Some after) o) end
place_of end true after more o h = refl
place_of end false after more o h = h

-- the first null of the entry's level ends its children
pub ends_there : (d : Item) (end : ℕ) (open_ : Levels) (i : Input) (ts : List Token) → Follow open_ i ts → d.at < i.at → first_place (filter_map (ends_children d) ts) end ≡ unwrap_or (ends d.depth ts) end
ends_there d end open_ i [] f lt = refl
ends_there d end open_ i (Entry e ∷ ts) f lt =
    let g = goes open_ i f.1 (Entry e) f.2 in
    ends_there d end (levels_after open_ (Entry e)) f.1 ts f.3 (omega (arith, lt, g.0))
ends_there d end open_ i (Null depth after ∷ ts) f lt =
    let g = goes open_ i f.1 (Null depth after) f.2 in
    let later = ends_there d end (levels_after open_ (Null depth after)) f.1 ts f.3 (omega (arith, lt, g.0)) in
    let behind : ltb d.at after ≡ true = lt-ltb d.at after (omega (arith, lt, g.0, f.2.says.2)) in
    ap (λ (b : Bool). first_place (cons_option (cond (b && eqb depth (d.depth + 1)) (Some after) None) (filter_map (ends_children d) ts)) end) behind ∙
    place_of end (eqb depth (d.depth + 1)) after (filter_map (ends_children d) ts) (ends d.depth ts) later

-- ---- in front of an entry

-- these nulls end no later than at this place
abbrev pub NullsBefore : ℕ → List Token → Type 0
NullsBefore place ts = (depth after : ℕ) → Contains ts (Null depth after) → after ≤ place

nulls_more : (place next : ℕ) (ts : List Token) (t : Token) → place ≤ next → ((depth after : ℕ) → t ≡ Null depth after → after ≤ next) → NullsBefore place ts → NullsBefore next (ts ++ t ∷ [])
nulls_more place next ts t le here h depth after c = ⊎_elim
    (λ (l : Contains ts (Null depth after)). omega (arith, h depth after l, le))
    (λ (same : t ≡ Null depth after). here depth after same)
    (Contains-push_cases ts t (Null depth after) c)

-- so they don't end the children of an entry behind it
none_ends : (d : Item) (ts : List Token) → NullsBefore d.at ts → filter_map (ends_children d) ts ≡ []
none_ends d [] h = refl
none_ends d (Entry e ∷ ts) h = none_ends d ts (λ depth after c. h depth after (contains_later (Entry e) ts (Null depth after) c))
none_ends d (Null depth after ∷ ts) h =
    let early : ltb d.at after ≡ false = le-ltb d.at after (h depth after (contains_here (Null depth after) ts)) in
    ap (λ (b : Bool). cons_option (cond (b && eqb depth (d.depth + 1)) (Some after) None) (filter_map (ends_children d) ts)) early ∙
    none_ends d ts (λ depth after c. h depth after (contains_later (Null _ _) ts (Null depth after) c))

module _ (ss : List Section) (w : Walked) where
  abbrev u : ℕ × UnitHeader
  u = (w.number, w.unit)

  -- the span of an entry goes by the tokens behind it
  span_is : (d : Item) (before ts : List Token) (next : Input) (open_ : Levels) → before ++ Entry d ∷ ts ≡ w.walk.tokens → NullsBefore d.at before → Follow open_ next ts → d.at < next.at → span_before ss u d ts ≡ span_of w d
  unfolding span_of
  span_is d before ts next open_ whole nulls f lt =
      let end = w.unit.start + w.unit.length in
      let all : filter_map (ends_children d) w.walk.tokens ≡ filter_map (ends_children d) ts =
      ap (filter_map (ends_children d)) (sym whole) ∙ filter_map-append (ends_children d) before (Entry d ∷ ts) ∙ ap (λ (xs : List ℕ). xs ++ filter_map (ends_children d) ts) (none_ends d before nulls) in
      ap (λ (to : ℕ). let made : Span = record { unit = w.number; entry = d.at; depth = d.depth; from = d.after; to = to } in made)
      (sym (ends_there d end open_ next ts f lt) ∙ ap (λ (xs : List ℕ). first_place xs end) (sym all))

  by_children : (b : Bool) (s t : Span) (d : Item) (more : List Span) (ds : List Item) → s ≡ t → t ≡ span_of w d → more ≡ map (span_of w) ds → cond b (s ∷ more) more ≡ map (span_of w) (cond b (d ∷ ds) ds)
  by_children true s t d more ds a e h = ap (λ (x : Span). x ∷ more) (a ∙ e) ∙ ap (λ (xs : List Span). span_of w d ∷ xs) h
  by_children false s t d more ds a e h = h

  pub spans_from : (before ts : List Token) (open_ : Levels) (i : Input) → before ++ ts ≡ w.walk.tokens → NullsBefore i.at before → Follow open_ i ts → new_spans ss u ts ≡ map (span_of w) (filter (λ d. d.children) (entries ts))
  spans_from before [] open_ i whole nulls f = refl
  spans_from before (Null depth after ∷ ts) open_ i whole nulls f =
      let g = goes open_ i f.1 (Null depth after) f.2 in
      let here : (j a : ℕ) → Null depth after ≡ Null j a → a ≤ f.1.at = λ j a same. let e : after ≡ a = cc in omega (arith, e, f.2.says.2) in
      spans_from (before ++ Null depth after ∷ []) ts (levels_after open_ (Null depth after)) f.1 (append_assoc before (Null depth after ∷ []) ts ∙ whole) (nulls_more i.at f.1.at before (Null depth after) (omega (arith, g.0)) here nulls) f.3
  spans_from before (Entry d ∷ ts) open_ i whole nulls f =
      let g = goes open_ i f.1 (Entry d) f.2 in
      let at : d.at ≡ i.at = f.2.says.0 in
      let here : (j a : ℕ) → Entry d ≡ Null j a → a ≤ f.1.at = λ j a same. absurd cc in
      let later = spans_from (before ++ Entry d ∷ []) ts (levels_after open_ (Entry d)) f.1 (append_assoc before (Entry d ∷ []) ts ∙ whole) (nulls_more i.at f.1.at before (Entry d) (omega (arith, g.0)) here nulls) f.3 in
      let own = span_is d before ts f.1 (levels_after open_ (Entry d)) whole (λ depth after c. omega (arith, at, nulls depth after c)) f.3 (omega (arith, at, g.0)) in
      by_children d.children (span_before ss u d ts) (span_before ss u d ts) d (new_spans ss u ts) (filter (λ d. d.children) (entries ts)) refl own later

  -- the spans of all entries are those of the unit
  pub all_spans : (open_ : Levels) (i : Input) → Follow open_ i w.walk.tokens → new_spans ss u w.walk.tokens ≡ spans_of w
  all_spans open_ i f = spans_from [] w.walk.tokens open_ i refl (λ depth after c. absurd (omega (arith, c.1))) f
