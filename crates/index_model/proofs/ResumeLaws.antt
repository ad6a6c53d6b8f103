-- A walk that is resumed behind an entry goes on as the whole walk does.
use Rattle.std.proofs.Common.{◌≡◌, ℕ, zero, suc, ◌+◌, ◌-◌, ◌<◌, ◌≤◌, Bool, true, false, cond, ltb, leb, eqb, ◌&&◌, ◌||◌, List, [], ◌∷◌, ◌++◌, length, drop, Result, Ok, Err, refl, sym, ap, subst, ◌∙◌, arith, ⊎_elim}
use Rattle.std.specs.Prelude.{Contains, filter}
use Rattle.std.proofs.lemmas.Bool.{eq-eqb, le-leb, lt-leb, cond-true}
use Rattle.std.proofs.lemmas.List.Elements.{filter_map-append, filter-append}
use Rattle.common_laws.proofs.Members.{contains_here, contains_later, contains_cases, of_map, of_filter}
use Rattle.common_laws.proofs.Booleans.{first_off, first_on}
use Rattle.ix_base.specs.declared.fault.Fault.{Fault}
use Rattle.ix_base.specs.Reading.{Input}
use Rattle.index_model.specs.declared.unit.Unit.{Unit as UnitHeader}
use Rattle.index_model.specs.declared.shard.Span.{Span}
use Rattle.index_model.specs.Abbreviations.{Abbrev}
use Rattle.index_model.specs.Walk.{Item, Token, Null, Entry, Levels, Walk, is_over, begins_with_zero, item_in, behind, with_token, tail_of, token_or_fault}
use Rattle.index_model.specs.WalkLeft.{levels_after, left_from, left}
use Rattle.index_model.specs.Program.{Walked, items_of, body}
use Rattle.index_model.specs.ShardParts.{span_of}
use Rattle.index_model.specs.LawsSpans.{ResumedGivesTheSame}
use Rattle.index_model.proofs.UnitReads.{Passes, passes_on}
use Rattle.index_model.proofs.TokenReads.{IsToken, start, read_is, left_follow, walk_left}
use Rattle.index_model.proofs.OrderLaws.{entries, goes, bounded}
use Rattle.index_model.proofs.Scans.{read, walked_by}

-- the levels behind an entry
abbrev below : Item → Levels
below e = record { root = true; depth = cond e.children (e.depth + 1) e.depth }

below_is : (open_ : Levels) (x : Item) → x.depth ≡ open_.depth → levels_after open_ (Entry x) ≡ below x
below_is open_ x is = ap (λ (n : ℕ). let l : Levels = record { root = true; depth = cond x.children (n + 1) n } in l) (sym is)

module _ (u : UnitHeader) (a : List Abbrev) where
  abbrev token : Levels → Input → Result (Token × Input) Fault
  token = token_or_fault u a

  over : (open_ : Levels) (i : Input) → length i.rest ≤ 0 → is_over open_ i ≡ true
  over open_ i none = let e : eqb (length i.rest) 0 ≡ true = eq-eqb (length i.rest) 0 (omega (arith, none)) in or_left' (eqb (length i.rest) 0) (cond open_.root (eqb open_.depth 0) (begins_with_zero i.rest)) e
    where
      or_left' : (b c : Bool) → b ≡ true → (b || c) ≡ true
      or_left' true c e = refl
      or_left' false c e = absurd cc

  -- with no bytes left the tree is over, however many tokens may follow
  none_left : (n : ℕ) (open_ : Levels) (i : Input) → length i.rest ≤ 0 → left_from token n open_ i ≡ tail_of i
  unfolding left_from
  none_left zero open_ i none = refl
  none_left (suc n) open_ i none = cond-true (is_over open_ i) (tail_of i) (behind (token open_ i) (λ t. left_from token n (levels_after open_ t.0) t.1)) (over open_ i none)

  -- more tokens than bytes make no difference
  enough : (n m : ℕ) (open_ : Levels) (i : Input) → length i.rest ≤ n → length i.rest ≤ m → left_from token n open_ i ≡ left_from token m open_ i
  unfolding left_from
  enough zero m open_ i ln lm = sym (none_left m open_ i ln)
  enough (suc n) zero open_ i ln lm = none_left (suc n) open_ i lm
  enough (suc n) (suc m) open_ i ln lm =
      ap (λ (w : Walk). cond (is_over open_ i) (tail_of i) w)
      (elim (token open_ i) as (λ r. token open_ i ≡ r → behind r (λ t. left_from token n (levels_after open_ t.0) t.1) ≡ behind r (λ t. left_from token m (levels_after open_ t.0) t.1)) [
        | Err f ↦ λ g. refl
        | Ok t ↦ λ g.
            let move = goes open_ i t.1 t.0 (read_is u a open_ i t g) in
            ap (with_token t.0) (enough n m (levels_after open_ t.0) t.1 (omega (arith, move.0, move.1, ln)) (omega (arith, move.0, move.1, lm)))
      ] refl)

  -- the walk is some tokens, the entry, and what is left behind it
  record Resumes (i : Input) (w : Walk) (e : Item) : Type 0 where
    before : List Token
    next : Input
    bytes : ℕ
    passes : Passes bytes i next
    place : next.at ≡ e.after
    own : e.at < e.after
    earlier : (x : Item) → Contains (entries before) x → x.at < e.after
    is : w.tokens ≡ before ++ Entry e ∷ (left token (below e) next).tokens

  module _ (open_ : Levels) (i next : Input) (w : Walk) where
    later_null : (depth after : ℕ) (e : Item) → IsToken open_ i next (Null depth after) → Resumes next w e → Resumes i (with_token (Null depth after) w) e
    later_null depth after e t r = record {
      before = Null depth after ∷ r.before;
      next = r.next;
      bytes = t.bytes + r.bytes;
      passes = passes_on t.bytes r.bytes i next r.next t.passes r.passes;
      place = r.place;
      own = r.own;
      earlier = r.earlier;
      is = ap (λ (ts : List Token). Null depth after ∷ ts) r.is;
    }

    later_entry : (x e : Item) → IsToken open_ i next (Entry x) → Resumes next w e → Resumes i (with_token (Entry x) w) e
    later_entry x e t r = record {
      before = Entry x ∷ r.before;
      next = r.next;
      bytes = t.bytes + r.bytes;
      passes = passes_on t.bytes r.bytes i next r.next t.passes r.passes;
      place = r.place;
      own = r.own;
      earlier = λ y c. ⊎_elim (λ (same : x ≡ y). let g = goes open_ i next (Entry x) t in omega (arith, ap (λ (z : Item). z.at) same, t.says.0, g.0, r.place, ap (λ (z : Input). z.at) r.passes.on)) (λ (l : Contains (entries r.before) y). r.earlier y l) (contains_cases x (entries r.before) y c);
      is = ap (λ (ts : List Token). Entry x ∷ ts) r.is;
    }

    here : (x : Item) → IsToken open_ i next (Entry x) → w ≡ left token (levels_after open_ (Entry x)) next → Resumes i (with_token (Entry x) w) x
    here x t is = record {
      before = [];
      next = next;
      bytes = t.bytes;
      passes = t.passes;
      place = sym t.says.2;
      own = let g = goes open_ i next (Entry x) t in omega (arith, g.0, t.says.0, t.says.2);
      earlier = λ y c. absurd (omega (arith, c.1));
      is = ap (λ (v : Walk). Entry x ∷ v.tokens) (is ∙ ap (λ (l : Levels). left token l next) (below_is open_ x t.says.1));
    }

    resume_token : (t : Token) (e : Item) → IsToken open_ i next t → w ≡ left token (levels_after open_ t) next → (Contains (entries w.tokens) e → Resumes next w e) → Contains (entries (with_token t w).tokens) e → Resumes i (with_token t w) e
    resume_token (Null depth after) e t is later c = later_null depth after e t (later c)
    resume_token (Entry x) e t is later c = ⊎_elim
        (λ (same : x ≡ e). subst (Resumes i (with_token (Entry x) w)) same (here x t is))
        (λ (l : Contains (entries w.tokens) e). later_entry x e t (later l))
        (contains_cases x (entries w.tokens) e c)

  resume : (n : ℕ) (open_ : Levels) (i : Input) → length i.rest ≤ n → (e : Item) → Contains (entries (left_from token n open_ i).tokens) e → Resumes i (left_from token n open_ i) e
  unfolding left_from tail_of
  resume zero open_ i le e c = absurd (omega (arith, c.1))
  resume (suc n) open_ i le e c =
      elim (is_over open_ i) as (λ b. Contains (entries (cond b (tail_of i) (behind (token open_ i) (λ t. left_from token n (levels_after open_ t.0) t.1))).tokens) e → Resumes i (cond b (tail_of i) (behind (token open_ i) (λ t. left_from token n (levels_after open_ t.0) t.1))) e) [
        | true ↦ λ d. absurd (omega (arith, d.1))
        | false ↦ elim (token open_ i) as (λ r. token open_ i ≡ r → Contains (entries (behind r (λ t. left_from token n (levels_after open_ t.0) t.1)).tokens) e → Resumes i (behind r (λ t. left_from token n (levels_after open_ t.0) t.1)) e) [
          | Err f ↦ λ g d. absurd (omega (arith, d.1))
          | Ok t ↦ λ g d.
              let h = read_is u a open_ i t g in
              let move = goes open_ i t.1 t.0 h in
              let less : length t.1.rest ≤ n = omega (arith, move.0, move.1, le) in
              resume_token open_ i t.1 (left_from token n (levels_after open_ t.0) t.1) t.0 e h (enough n (length t.1.rest) (levels_after open_ t.0) t.1 less (omega arith)) (resume n (levels_after open_ t.0) t.1 less e) d
        ] refl
      ] c

-- ---- filters

filter_none : (p : Item → Bool) (ds : List Item) → ((d : Item) → Contains ds d → p d ≡ false) → filter p ds ≡ []
filter_none p [] h = refl
filter_none p (d ∷ ds) h = rw (h d (contains_here d ds)) (filter_none p ds (λ x c. h x (contains_later d ds x c)))

filter_same : (p q : Item → Bool) (ds : List Item) → ((d : Item) → Contains ds d → p d ≡ q d) → filter p ds ≡ filter q ds
filter_same p q [] h = refl
filter_same p q (d ∷ ds) h = ap (λ (b : Bool). cond b (d ∷ filter p ds) (filter p ds)) (h d (contains_here d ds)) ∙ ap (λ (xs : List Item). cond (q d) (d ∷ xs) xs) (filter_same p q ds (λ x c. h x (contains_later d ds x c)))

-- ---- spans

module _ (u : UnitHeader) (a : List Abbrev) (whole : Input) (e : Item) (s : Span) (from : s.from ≡ e.after) (depth : s.depth ≡ e.depth) (children : e.children ≡ true) where
  -- the bytes from behind the entry on
  abbrev onward : Input
  onward = record { at = s.from; rest = drop (s.from - whole.at) whole.rest }

  -- the walk that begins there, one level below the entry
  abbrev again : Walk
  again = left (token u a) (record { root = true; depth = s.depth + 1 }) onward

  -- from the end of the entry on, as far as the span goes
  abbrev inside : Item → Bool
  inside d = leb s.from d.at && ltb d.at s.to

  abbrev in_time : Item → Bool
  in_time d = ltb d.at s.to

  module _ (w : Walk) (r : Resumes u a whole w e) where
    abbrev rest : List Token
    rest = (left (token u a) (below e) r.next).tokens

    at_next : r.next ≡ onward
    at_next =
        let n : r.bytes ≡ s.from - whole.at = omega (arith, ap (λ (i : Input). i.at) r.passes.on, r.place, from) in
        let p : whole.at + r.bytes ≡ s.from = omega (arith, ap (λ (i : Input). i.at) r.passes.on, r.place, from) in
        sym r.passes.on ∙ ap (λ (k : ℕ). let i : Input = record { at = k; rest = drop r.bytes whole.rest } in i) p ∙ ap (λ (k : ℕ). let i : Input = record { at = s.from; rest = drop k whole.rest } in i) n

    level : below e ≡ record { root = true; depth = s.depth + 1 }
    level = ap (λ (b : Bool). let l : Levels = record { root = true; depth = cond b (e.depth + 1) e.depth } in l) children ∙ ap (λ (n : ℕ). let l : Levels = record { root = true; depth = n + 1 } in l) (sym depth)

    rest_is : rest ≡ again.tokens
    rest_is = ap (λ (i : Input). (left (token u a) (below e) i).tokens) at_next ∙ ap (λ (l : Levels). (left (token u a) l onward).tokens) level

    before_out : (d : Item) → Contains (entries r.before) d → inside d ≡ false
    before_out d c = first_off (leb s.from d.at) (ltb d.at s.to) (lt-leb s.from d.at (omega (arith, r.earlier d c, from)))

    own_out : inside e ≡ false
    own_out = first_off (leb s.from e.at) (ltb e.at s.to) (lt-leb s.from e.at (omega (arith, r.own, from)))

    rest_in : (d : Item) → Contains (entries rest) d → inside d ≡ in_time d
    rest_in d c =
        let b = bounded (below e) r.next rest (left_follow u a (length r.next.rest) (below e) r.next) d c in
        first_on (leb s.from d.at) (ltb d.at s.to) (le-leb s.from d.at (omega (arith, b.0, r.place, from)))

    same : filter in_time (entries again.tokens) ≡ filter inside (entries w.tokens)
    same =
        let split : entries w.tokens ≡ entries r.before ++ e ∷ entries rest = ap entries r.is ∙ filter_map-append item_in r.before (Entry e ∷ rest) in
        let parts : filter inside (entries r.before ++ e ∷ entries rest) ≡ filter inside (entries r.before) ++ filter inside (e ∷ entries rest) = filter-append inside (entries r.before) (e ∷ entries rest) in
        let out : filter inside (entries r.before) ≡ [] = filter_none inside (entries r.before) before_out in
        let own : filter inside (e ∷ entries rest) ≡ filter inside (entries rest) = ap (λ (b : Bool). cond b (e ∷ filter inside (entries rest)) (filter inside (entries rest))) own_out in
        let all : filter inside (entries w.tokens) ≡ filter in_time (entries rest) = ap (filter inside) split ∙ parts ∙ ap (λ (xs : List Item). xs ++ filter inside (e ∷ entries rest)) out ∙ own ∙ filter_same inside in_time (entries rest) rest_in in
        ap (λ (ts : List Token). filter in_time (entries ts)) (sym rest_is) ∙ sym all

  -- it gives the entries of the whole walk, as far as the span goes
  pub same_inside : Contains (entries (left (token u a) start whole).tokens) e → filter in_time (entries again.tokens) ≡ filter inside (entries (left (token u a) start whole).tokens)
  same_inside member = same (left (token u a) start whole) (resume u a (length whole.rest) start whole (omega arith) e member)

pub span_facts : (w : Walked) (o : Item) → ((span_of w o).from ≡ o.after) × ((span_of w o).depth ≡ o.depth)
unfolding span_of
span_facts w o = (refl, refl)

pub resumed_same : ResumedGivesTheSame
resumed_same ss u w a at is s c =
    let m = of_map (span_of w) (filter (λ x. x.children) (items_of w)) s c in
    let k = of_filter (λ x. x.children) (items_of w) m.0 m.1 in
    let f = span_facts w m.0 in
    let from : s.from ≡ m.0.after = ap (λ (x : Span). x.from) (sym m.2) ∙ f.0 in
    let depth : s.depth ≡ m.0.depth = ap (λ (x : Span). x.depth) (sym m.2) ∙ f.1 in
    let by : read ss u a ≡ w = walked_by ss u a w at is in
    let walk : w.walk ≡ left (token u.1 a) start (body ss u.1) = ap (λ (v : Walked). v.walk) (sym by) ∙ walk_left u.1 a (body ss u.1) in
    let member : Contains (entries (left (token u.1 a) start (body ss u.1)).tokens) m.0 = subst (λ (v : Walk). Contains (entries v.tokens) m.0) walk k.0 in
    same_inside u.1 a (body ss u.1) m.0 s from depth k.1 member ∙ ap (λ (v : Walk). filter (λ (d : Item). leb s.from d.at && ltb d.at s.to) (entries v.tokens)) (sym walk)
