-- The spans that are kept behind some tokens are those of the walk.
use Rattle.std.proofs.Common.{◌≡◌, ℕ, zero, suc, ◌+◌, ◌-◌, ◌<◌, ◌≤◌, Bool, true, false, cond, eqb, List, [], ◌∷◌, ◌++◌, length, Option, Some, None, unwrap_or, Ok, refl, sym, ap, subst, ◌∙◌, arith, append_assoc, append-nil, length-append}
use Rattle.std.proofs.lemmas.Bool.{eq-eqb, ne_eqb}
use Rattle.ix_base.specs.Reading.{Input}
use Rattle.index_model.specs.declared.shard.Span.{Span}
use Rattle.index_model.specs.declared.unit.Unit.{Unit as UnitHeader}
use Rattle.index_model.specs.Sections.{Section}
use Rattle.index_model.specs.Walk.{Item, Token, Null, Entry, Levels}
use Rattle.index_model.specs.WalkLeft.{levels_after}
use Rattle.index_model.proofs.Meanings.{same_ok}
use Rattle.index_model.proofs.TokenReads.{Follow}
use Rattle.shard_build.specs.declared.open.Open.{Open}
use Rattle.index_model.specs.Searches.{ended_at}
use Rattle.shard_build.specs.Kept.{Behind, closed, role_of, span_from, spans_by, behind_all}
use Rattle.shard_build.proofs.EntrySteps.{made, visited, has_texts}

-- where the children of an entry of this depth end among these tokens
abbrev pub ends : ℕ → List Token → Option ℕ
ends j [] = None
ends j (Null depth after ∷ ts) = cond (eqb depth (j + 1)) (Some after) (ends j ts)
ends j (Entry d ∷ ts) = ends j ts

-- the span at an index ends at this place, if there is one
abbrev pub ended_by : List Span → ℕ → Option ℕ → List Span
ended_by ss k None = ss
ended_by ss k (Some after) = ended_at ss k after

-- the spans of the open entries end where these tokens end their children
abbrev pub filled : List Open → ℕ → List Token → List Span → List Span
filled [] n ts ss = ss
filled (o ∷ os) zero ts ss = ss
filled (o ∷ os) (suc j) ts ss = filled os j ts (ended_by ss o.span (ends j ts))

-- the spans of open entries stand in order, the innermost last, and below this index
abbrev pub Ascend : ℕ → List Open → Type 0
Ascend n [] = Unit {0}
Ascend n (o ∷ os) = (o.span < n) × Ascend o.span os

ascend_more : (n m : ℕ) (os : List Open) → n ≤ m → Ascend n os → Ascend m os
ascend_more n m [] le a = tt
ascend_more n m (o ∷ os) le a = (omega (arith, le, a.0), a.1)

length_ended : (ss : List Span) (k after : ℕ) → length (ended_at ss k after) ≡ length ss
length_ended [] k after = refl
length_ended (s ∷ ss) zero after = refl
length_ended (s ∷ ss) (suc k) after = ap (λ (n : ℕ). suc n) (length_ended ss k after)

length_ended_by : (ss : List Span) (k : ℕ) (o : Option ℕ) → length (ended_by ss k o) ≡ length ss
length_ended_by ss k None = refl
length_ended_by ss k (Some after) = length_ended ss k after

-- a span that ends doesn't touch those behind it
ended_front : (ss more : List Span) (k after : ℕ) → k < length ss → ended_at (ss ++ more) k after ≡ ended_at ss k after ++ more
ended_front [] more k after lt = absurd (omega arith)
ended_front (s ∷ ss) more zero after lt = refl
ended_front (s ∷ ss) more (suc k) after lt = ap (λ (xs : List Span). s ∷ xs) (ended_front ss more k after (omega arith))

ended_by_front : (ss more : List Span) (k : ℕ) (o : Option ℕ) → k < length ss → ended_by (ss ++ more) k o ≡ ended_by ss k o ++ more
ended_by_front ss more k None lt = refl
ended_by_front ss more k (Some after) lt = ended_front ss more k after lt

filled_front : (os : List Open) (n : ℕ) (ts : List Token) (ss more : List Span) → Ascend (length ss) os → filled os n ts (ss ++ more) ≡ filled os n ts ss ++ more
filled_front [] n ts ss more a = refl
filled_front (o ∷ os) zero ts ss more a = refl
filled_front (o ∷ os) (suc j) ts ss more a =
    ap (filled os j ts) (ended_by_front ss more o.span (ends j ts) a.0) ∙
    filled_front os j ts (ended_by ss o.span (ends j ts)) more (ascend_more o.span (length (ended_by ss o.span (ends j ts))) os (omega (arith, a.0, length_ended_by ss o.span (ends j ts))) a.1)

-- the last span
ended_last : (ss : List Span) (s : Span) (after : ℕ) → ended_at (ss ++ s ∷ []) (length ss) after ≡ ss ++ record s { to = after } ∷ []
ended_last [] s after = refl
ended_last (x ∷ ss) s after = ap (λ (xs : List Span). x ∷ xs) (ended_last ss s after)

ended_by_last : (ss : List Span) (s : Span) (o : Option ℕ) → ended_by (ss ++ s ∷ []) (length ss) o ≡ ss ++ record s { to = unwrap_or o s.to } ∷ []
ended_by_last ss s None = refl
ended_by_last ss s (Some after) = ended_last ss s after

filled_entry : (os : List Open) (n : ℕ) (d : Item) (ts : List Token) (ss : List Span) → filled os n (Entry d ∷ ts) ss ≡ filled os n ts ss
filled_entry [] n d ts ss = refl
filled_entry (o ∷ os) zero d ts ss = refl
filled_entry (o ∷ os) (suc j) d ts ss = filled_entry os j d ts (ended_by ss o.span (ends j ts))

-- a null ends no children of an outer level
ends_deeper : (j depth after : ℕ) (ts : List Token) → j + 1 < depth → ends j (Null depth after ∷ ts) ≡ ends j ts
ends_deeper j depth after ts lt = rw (ne_eqb depth (j + 1) (λ same. absurd (omega (arith, same, lt)))) refl

filled_null : (os : List Open) (n depth after : ℕ) (ts : List Token) (ss : List Span) → n < depth → filled os n (Null depth after ∷ ts) ss ≡ filled os n ts ss
filled_null [] n depth after ts ss lt = refl
filled_null (o ∷ os) zero depth after ts ss lt = refl
filled_null (o ∷ os) (suc j) depth after ts ss lt =
    ap (λ (x : Option ℕ). filled os j (Null depth after ∷ ts) (ended_by ss o.span x)) (ends_deeper j depth after ts (omega (arith, lt))) ∙
    filled_null os j depth after ts (ended_by ss o.span (ends j ts)) (omega (arith, lt))

-- ---- behind all tokens

module _ (ss : List Section) (u : ℕ × UnitHeader) where
  abbrev pub unit_end : ℕ
  unit_end = u.1.start + u.1.length

  -- the span of an entry in front of these tokens
  abbrev pub span_before : Item → List Token → Span
  span_before d ts = record (span_from ss u d) { to = unwrap_or (ends d.depth ts) unit_end }

  -- the spans of the entries among these tokens
  abbrev pub new_spans : List Token → List Span
  new_spans [] = []
  new_spans (Null depth after ∷ ts) = new_spans ts
  new_spans (Entry d ∷ ts) = cond d.children (span_before d ts ∷ new_spans ts) (new_spans ts)

  -- an entry in front of these tokens, with the open entries and the spans before it
  module _ (d : Item) (ts : List Token) (o : Open) (os : List Open) (before all : List Span) (at_end : o.span ≡ length before) where
    abbrev With : Bool → Type 0
    With children = all ≡ filled (cond children (o ∷ os) os) (cond children (d.depth + 1) d.depth) ts (before ++ cond children (span_from ss u d ∷ []) []) ++ new_spans ts

    with_entry : Ascend (length before) os → (children : Bool) → With children → all ≡ filled os d.depth (Entry d ∷ ts) before ++ cond children (span_before d ts ∷ new_spans ts) (new_spans ts)
    with_entry a false h = h ∙ ap (λ (xs : List Span). filled os d.depth ts xs ++ new_spans ts) (append-nil before) ∙ ap (λ (xs : List Span). xs ++ new_spans ts) (sym (filled_entry os d.depth d ts before))
    with_entry a true h =
        let s = span_from ss u d in
        let one : d.depth + 1 ≡ suc d.depth = omega arith in
        h ∙
        ap (λ (n : ℕ). filled (o ∷ os) n ts (before ++ s ∷ []) ++ new_spans ts) one ∙
        ap (λ (k : ℕ). filled os d.depth ts (ended_by (before ++ s ∷ []) k (ends d.depth ts)) ++ new_spans ts) at_end ∙
        ap (λ (xs : List Span). filled os d.depth ts xs ++ new_spans ts) (ended_by_last before s (ends d.depth ts)) ∙
        ap (λ (xs : List Span). xs ++ new_spans ts) (filled_front os d.depth ts before (span_before d ts ∷ []) a) ∙
        append_assoc (filled os d.depth ts before) (span_before d ts ∷ []) (new_spans ts) ∙
        ap (λ (xs : List Span). xs ++ span_before d ts ∷ new_spans ts) (sym (filled_entry os d.depth d ts before))

  sized : (children : Bool) (o : Open) (os : List Open) (n : ℕ) → length os ≡ n → length (cond children (o ∷ os) os) ≡ cond children (n + 1) n
  sized true o os n is = omega (arith, is)
  sized false o os n is = is

  ascends : (children : Bool) (o : Open) (os : List Open) (before : List Span) (s : Span) → o.span ≡ length before → Ascend (length before) os → Ascend (length (before ++ cond children (s ∷ []) [])) (cond children (o ∷ os) os)
  ascends true o os before s at a = (omega (arith, at, length-append before (s ∷ [])), ascend_more (length before) o.span os (omega (arith, at)) a)
  ascends false o os before s at a = ascend_more (length before) (length (before ++ [])) os (omega (arith, length-append before [])) a

  -- behind a null the innermost entry's span ends
  null_spans : (b : Behind) (os : List Open) (n depth after : ℕ) (ts : List Token) (all : List Span) → length os ≡ n → depth ≡ n → all ≡ filled (closed b os after).opened (n - 1) ts (closed b os after).spans ++ new_spans ts → b.opened ≡ os → all ≡ filled os n (Null depth after ∷ ts) b.spans ++ new_spans ts
  null_spans b [] n depth after ts all size at h same = h ∙ ap (λ (os : List Open). filled os (n - 1) ts b.spans ++ new_spans ts) same
  null_spans b (o ∷ os) zero depth after ts all size at h same = absurd (omega (arith, size))
  null_spans b (o ∷ os) (suc j) depth after ts all size at h same =
      let less : suc j - 1 ≡ j = omega arith in
      let here : eqb depth (j + 1) ≡ true = eq-eqb depth (j + 1) (omega (arith, at)) in
      h ∙
      ap (λ (n : ℕ). filled os n ts (ended_at b.spans o.span after) ++ new_spans ts) less ∙
      ap (λ (xs : List Span). xs ++ new_spans ts) (sym (filled_null os j depth after ts (ended_at b.spans o.span after) (omega (arith, at)))) ∙
      ap (λ (t : Bool). filled os j (Null depth after ∷ ts) (ended_by b.spans o.span (cond t (Some after) (ends j ts))) ++ new_spans ts) (sym here)

  closed_size : (b : Behind) (os : List Open) (n after : ℕ) → b.opened ≡ os → length os ≡ n → length (closed b os after).opened ≡ n - 1
  closed_size b [] n after same size = omega (arith, size, ap (λ (os : List Open). length os) same)
  closed_size b (o ∷ os) n after same size = omega (arith, size)

  closed_ascends : (b : Behind) (os : List Open) (after : ℕ) → b.opened ≡ os → Ascend (length b.spans) os → Ascend (length (closed b os after).spans) (closed b os after).opened
  closed_ascends b [] after same a = rw same tt
  closed_ascends b (o ∷ os) after same a = ascend_more o.span (length (ended_at b.spans o.span after)) os (omega (arith, a.0, length_ended b.spans o.span after)) a.1

  -- the open entries' spans end where the tokens say, and the tokens' own spans come behind
  pub spans_behind : (open_ : Levels) (i : Input) (ts : List Token) → Follow open_ i ts → (b c : Behind) → length b.opened ≡ open_.depth → Ascend (length b.spans) b.opened → behind_all ss u b ts ≡ Ok c → c.spans ≡ filled b.opened open_.depth ts b.spans ++ new_spans ts
  spans_behind open_ i [] f b c size a is = ap (λ (x : Behind). x.spans) (sym (same_ok b c is)) ∙ sym (append-nil b.spans) ∙ ap (λ (xs : List Span). xs ++ []) (sym (filled_none b.opened open_.depth b.spans))
    where
      filled_none : (os : List Open) (n : ℕ) (xs : List Span) → filled os n [] xs ≡ xs
      filled_none [] n xs = refl
      filled_none (o ∷ os) zero xs = refl
      filled_none (o ∷ os) (suc j) xs = filled_none os j xs
  spans_behind open_ i (Null depth after ∷ ts) f b c size a is =
      let says = f.2.says in
      let later = spans_behind (levels_after open_ (Null depth after)) f.1 ts f.3 (closed b b.opened after) c (closed_size b b.opened open_.depth after refl size) (closed_ascends b b.opened after refl a) is in
      null_spans b b.opened open_.depth depth after ts c.spans size says.1 later refl
  spans_behind open_ i (Entry d ∷ ts) f b c size a is =
      let says = f.2.says in
      let h = has_texts ss u b d ts c is in
      let m = made ss u b d h.0 in
      let o : Open = record { at = d.at; parent = role_of d.depth d.tag (visited ss u b d); span = length b.spans } in
      let later = spans_behind (levels_after open_ (Entry d)) f.1 ts f.3 m c (sized d.children o b.opened open_.depth size) (ascends d.children o b.opened b.spans (span_from ss u d) refl a) h.2 in
      let there : With d ts o b.opened b.spans c.spans refl d.children = subst (λ (n : ℕ). c.spans ≡ filled (cond d.children (o ∷ b.opened) b.opened) (cond d.children (n + 1) n) ts (b.spans ++ spans_by ss u d) ++ new_spans ts) (sym says.1) later in
      with_entry d ts o b.opened b.spans c.spans refl a d.children there ∙ ap (λ (n : ℕ). filled b.opened n (Entry d ∷ ts) b.spans ++ new_spans (Entry d ∷ ts)) says.1
