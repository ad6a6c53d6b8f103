-- Entries and the spans that hold them.
use Rattle.std.proofs.Common.{◌≡◌, ℕ, ◌<◌, ◌≤◌, List, [], ◌∷◌, ◌++◌, None, refl, sym, ap, subst, ◌∙◌, arith, ⊎_elim}
use Rattle.std.specs.Prelude.{Contains, filter_map}
use Rattle.std.proofs.lemmas.Bool.{le-ltb}
use Rattle.std.proofs.lemmas.List.Elements.{filter_map-append, Contains-append_cases, Contains-append_right}
use Rattle.common_laws.proofs.Members.{contains_later, contains_cases}
use Rattle.ix_base.specs.Reading.{Input}
use Rattle.index_model.specs.Walk.{Item, Token, Null, Entry, Levels, item_in}
use Rattle.index_model.specs.WalkLeft.{levels_after}
use Rattle.index_model.specs.ShardParts.{ends_children}
use Rattle.index_model.proofs.TokenReads.{IsToken, Follow}
use Rattle.index_model.proofs.OrderLaws.{entries, goes}

-- ---- the tokens before an entry and behind it

pub record Split (i : Input) (ts : List Token) (e : Item) : Type 0 where
  pub before : List Token
  pub rest : List Token
  pub open_ : Levels
  pub here : Input
  pub next : Input
  pub is : ts ≡ before ++ Entry e ∷ rest
  pub token : IsToken open_ here next (Entry e)
  pub follows : Follow (levels_after open_ (Entry e)) next rest
  pub onwards : i.at ≤ here.at
  pub earlier : (x : Item) → Contains (entries before) x → x.at < e.at
  pub no_end : filter_map (ends_children e) before ≡ []

-- a null that ends before an entry doesn't end its children
early : (e : Item) (depth after : ℕ) → after ≤ e.at → ends_children e (Null depth after) ≡ None
early e depth after le = rw (le-ltb e.at after le) refl

split_later_null : (open_ : Levels) (i next : Input) (depth after : ℕ) (ts : List Token) (e : Item) → IsToken open_ i next (Null depth after) → Split next ts e → Split i (Null depth after ∷ ts) e
split_later_null open_ i next depth after ts e t s =
    let g = goes open_ i next (Null depth after) t in
    let at = s.token.says.0 in
    record {
      before = Null depth after ∷ s.before;
      rest = s.rest;
      open_ = s.open_;
      here = s.here;
      next = s.next;
      is = ap (λ (xs : List Token). Null depth after ∷ xs) s.is;
      token = s.token;
      follows = s.follows;
      onwards = omega (arith, g.0, s.onwards);
      earlier = s.earlier;
      no_end = rw (early e depth after (omega (arith, t.says.2, s.onwards, at))) s.no_end;
    }

split_later_entry : (open_ : Levels) (i next : Input) (x : Item) (ts : List Token) (e : Item) → IsToken open_ i next (Entry x) → Split next ts e → Split i (Entry x ∷ ts) e
split_later_entry open_ i next x ts e t s =
    let g = goes open_ i next (Entry x) t in
    let at = s.token.says.0 in
    record {
      before = Entry x ∷ s.before;
      rest = s.rest;
      open_ = s.open_;
      here = s.here;
      next = s.next;
      is = ap (λ (xs : List Token). Entry x ∷ xs) s.is;
      token = s.token;
      follows = s.follows;
      onwards = omega (arith, g.0, s.onwards);
      earlier = λ y c. ⊎_elim (λ (same : x ≡ y). omega (arith, ap (λ (z : Item). z.at) same, t.says.0, g.0, s.onwards, at)) (λ (l : Contains (entries s.before) y). s.earlier y l) (contains_cases x (entries s.before) y c);
      no_end = s.no_end;
    }

pub split : (open_ : Levels) (i : Input) (ts : List Token) → Follow open_ i ts → (e : Item) → Contains (entries ts) e → Split i ts e
split open_ i [] f e c = absurd (omega (arith, c.1))
split open_ i (Null depth after ∷ ts) f e c = split_later_null open_ i f.1 depth after ts e f.2 (split (levels_after open_ (Null depth after)) f.1 ts f.3 e c)
split open_ i (Entry x ∷ ts) f e c = ⊎_elim
    (λ (same : x ≡ e). subst (λ (y : Item). Split i (Entry x ∷ ts) y) same (record {
      before = [];
      rest = ts;
      open_ = open_;
      here = i;
      next = f.1;
      is = refl;
      token = f.2;
      follows = f.3;
      onwards = omega arith;
      earlier = λ y d. absurd (omega (arith, d.1));
      no_end = refl;
    }))
    (λ (l : Contains (entries ts) e). split_later_entry open_ i f.1 x ts e f.2 (split (levels_after open_ (Entry x)) f.1 ts f.3 e l))
    (contains_cases x (entries ts) e c)

module _ (i : Input) (ts : List Token) (e : Item) (s : Split i ts e) where
  whole : entries ts ≡ entries s.before ++ e ∷ entries s.rest
  whole = ap entries s.is ∙ filter_map-append item_in s.before (Entry e ∷ s.rest)

  -- what stands behind the entry is one of all
  pub of_rest : (d : Item) → Contains (entries s.rest) d → Contains (entries ts) d
  of_rest d c = subst (λ (xs : List Item). Contains xs d) (sym whole) (Contains-append_right (entries s.before) (e ∷ entries s.rest) d (contains_later e (entries s.rest) d c))

  -- what stands behind the entry comes after its end
  pub behind : (d : Item) → Contains (entries ts) d → e.at < d.at → Contains (entries s.rest) d
  behind d c lt =
      ⊎_elim
      (λ (l : Contains (entries s.before) d). absurd (omega (arith, s.earlier d l, lt)))
      (λ (r : Contains (e ∷ entries s.rest) d). ⊎_elim (λ (same : e ≡ d). absurd (omega (arith, lt, ap (λ (x : Item). x.at) same))) (λ (m : Contains (entries s.rest) d). m) (contains_cases e (entries s.rest) d r))
      (Contains-append_cases (entries s.before) (e ∷ entries s.rest) d (subst (λ (xs : List Item). Contains xs d) whole c))

  -- the children of the entry end at a null behind it
  pub ends_in_rest : filter_map (ends_children e) ts ≡ filter_map (ends_children e) s.rest
  ends_in_rest = ap (filter_map (ends_children e)) s.is ∙ filter_map-append (ends_children e) s.before (Entry e ∷ s.rest) ∙ ap (λ (xs : List ℕ). xs ++ filter_map (ends_children e) s.rest) s.no_end

  -- the entry ends where the bytes behind it begin, and behind its own place
  pub next_is : (s.next.at ≡ e.after) × (e.at < s.next.at)
  next_is = let g = goes s.open_ s.here s.next (Entry e) s.token in (sym s.token.says.2, omega (arith, g.0, s.token.says.0))
