-- The order in a walk.
use Rattle.std.proofs.Common.{◌≡◌, ℕ, suc, ◌+◌, ◌-◌, ◌<◌, ◌≤◌, Bool, true, false, cond, eqb, List, [], ◌∷◌, ◌++◌, length, drop, Option, Some, Ok, refl, ap, subst, arith, append_assoc, length-drop, length-take, ⊎_elim}
use Rattle.std.specs.Prelude.{Contains, filter_map, find}
use Rattle.std.proofs.lemmas.Bool.{false≢true, or_parts, eqb-false, eq-eqb, cases_lt}
use Rattle.std.proofs.lemmas.List.Elements.{Contains-append_left, Contains-push, Contains-push_cases}
use Rattle.common_laws.proofs.Members.{contains_cases}
use Rattle.ix_base.specs.Reading.{Input}
use Rattle.index_model.specs.declared.unit.Unit.{Unit as UnitHeader}
use Rattle.index_model.specs.Sections.{Section}
use Rattle.index_model.specs.Walk.{Item, Token, Null, Entry, Levels, is_over, begins_with_zero, item_in, walk_of}
use Rattle.index_model.specs.WalkLeft.{levels_after}
use Rattle.index_model.specs.Program.{Walked, walked, items_of, joint, body}
use Rattle.index_model.specs.Abbreviations.{Abbrev}
use Rattle.index_model.specs.LawsOrder.{IsInside, HasParent, IsInOrder, WalksAreInOrder}
use Rattle.index_model.proofs.TokenReads.{IsToken, Follow, start, walk_follows}
use Rattle.index_model.proofs.ParentLaws.{Rise, increasing, has_parent, no_parent}
use Rattle.index_model.proofs.Scans.{read, walked_read}

-- the entries among these tokens
abbrev pub entries : List Token → List Item
entries = filter_map item_in

-- ---- places

module _ (open_ : Levels) (i next : Input) (t : Token) (h : IsToken open_ i next t) where
  -- a token moves on, and the bytes end where they ended
  pub goes : (i.at < next.at) × (next.at + length next.rest ≡ i.at + length i.rest)
  goes =
      let a : i.at + h.bytes ≡ next.at = ap (λ (x : Input). x.at) h.passes.on in
      let r : drop h.bytes i.rest ≡ next.rest = ap (λ (x : Input). x.rest) h.passes.on in
      (omega (arith, h.some), omega (arith, h.passes.there, ap (λ (x : List ℕ). length x) r, length-drop h.bytes i.rest))

-- so the entries lie in the bytes
pub bounded : (open_ : Levels) (i : Input) (ts : List Token) → Follow open_ i ts → (d : Item) → Contains (entries ts) d → (i.at ≤ d.at) × (d.at < d.after) × (d.after ≤ i.at + length i.rest)
bounded open_ i [] f d c = absurd (omega (arith, c.1))
bounded open_ i (Null depth after ∷ ts) f d c =
    let g = goes open_ i f.1 (Null depth after) f.2 in
    let r = bounded (levels_after open_ (Null depth after)) f.1 ts f.3 d c in
    (omega (arith, g.0, r.0), r.1, omega (arith, g.1, r.2))
bounded open_ i (Entry e ∷ ts) f d c =
    let g = goes open_ i f.1 (Entry e) f.2 in
    let s = f.2.says in
    ⊎_elim
    (λ (same : e ≡ d). let at = ap (λ (x : Item). x.at) same in let after = ap (λ (x : Item). x.after) same in (omega (arith, at, s.0), omega (arith, at, after, s.0, s.2, g.0), omega (arith, after, s.2, g.1)))
    (λ (l : Contains (entries ts) d). let r = bounded (levels_after open_ (Entry e)) f.1 ts f.3 d l in (omega (arith, g.0, r.0), r.1, omega (arith, g.1, r.2)))
    (contains_cases e (entries ts) d c)

rise_from : (n m : ℕ) (ds : List Item) → n ≤ m → Rise m ds → Rise n ds
rise_from n m [] le r = tt
rise_from n m (d ∷ ds) le r = (omega (arith, le, r.0), r.1)

-- and their offsets rise
pub rises : (open_ : Levels) (i : Input) (ts : List Token) → Follow open_ i ts → Rise i.at (entries ts)
rises open_ i [] f = tt
rises open_ i (Null depth after ∷ ts) f = rise_from i.at f.1.at (entries ts) (let g = goes open_ i f.1 (Null depth after) f.2 in omega (arith, g.0)) (rises (levels_after open_ (Null depth after)) f.1 ts f.3)
rises open_ i (Entry e ∷ ts) f =
    let g = goes open_ i f.1 (Entry e) f.2 in
    let s = f.2.says in
    (omega (arith, s.0), rise_from (suc e.at) f.1.at (entries ts) (omega (arith, s.0, g.0)) (rises (levels_after open_ (Entry e)) f.1 ts f.3))

-- ---- depths

-- where the tree goes on behind the root a level is open
pub is_open : (open_ : Levels) (i : Input) → is_over open_ i ≡ false → open_.root ≡ true → 0 < open_.depth
is_open open_ i e root =
    let z = (or_parts (eqb (length i.rest) 0) (cond open_.root (eqb open_.depth 0) (begins_with_zero i.rest)) e).1 in
    let shut : eqb open_.depth 0 ≡ false = subst (λ (b : Bool). cond b (eqb open_.depth 0) (begins_with_zero i.rest) ≡ false) root z in
    let some = eqb-false open_.depth 0 shut in
    omega (arith, some)

root_after : (open_ : Levels) (t : Token) → (levels_after open_ t).root ≡ true
root_after open_ (Null depth after) = refl
root_after open_ (Entry d) = refl

-- behind the root no entry has depth 0
pub deep : (open_ : Levels) (i : Input) (ts : List Token) → open_.root ≡ true → Follow open_ i ts → (d : Item) → Contains (entries ts) d → 0 < d.depth
deep open_ i [] root f d c = absurd (omega (arith, c.1))
deep open_ i (Null depth after ∷ ts) root f d c = deep (levels_after open_ (Null depth after)) f.1 ts refl f.3 d c
deep open_ i (Entry e ∷ ts) root f d c =
    let some = is_open open_ i f.0 root in
    ⊎_elim
    (λ (same : e ≡ d). omega (arith, some, f.2.says.1, ap (λ (x : Item). x.depth) same))
    (λ (l : Contains (entries ts) d). deep (levels_after open_ (Entry e)) f.1 ts refl f.3 d l)
    (contains_cases e (entries ts) d c)

-- each open level from low on was opened by one of these entries
abbrev Opened : ℕ → ℕ → List Item → Type 0
Opened low depth es = (j : ℕ) → low ≤ j → j < depth → (e : Item) × Contains es e × (e.depth ≡ j)

abbrev Before : ℕ → List Item → Type 0
Before place es = (e : Item) → Contains es e → e.at < place

opened_push : (low depth : ℕ) (es : List Item) (d : Item) (b : Bool) → d.depth ≡ depth → Opened low depth es → Opened low (cond b (depth + 1) depth) (es ++ d ∷ [])
opened_push low depth es d false is h j lj jd = let e = h j lj jd in (e.0, Contains-append_left es (d ∷ []) e.0 e.1, e.2)
opened_push low depth es d true is h j lj jd = ⊎_elim
    (λ (lt : j < depth). let e = h j lj lt in (e.0, Contains-append_left es (d ∷ []) e.0 e.1, e.2))
    (λ (ge : depth ≤ j). (d, Contains-push es d, omega (arith, is, ge, jd)))
    (cases_lt j depth)

before_push : (place next : ℕ) (es : List Item) (d : Item) → place ≤ next → d.at < next → Before place es → Before next (es ++ d ∷ [])
before_push place next es d le lt h e c = ⊎_elim (λ (l : Contains es e). omega (arith, le, h e l)) (λ (same : d ≡ e). omega (arith, lt, ap (λ (x : Item). x.at) same)) (Contains-push_cases es d e c)

-- For an entry of these tokens each level between low and its own was opened by an earlier entry.
pub opened_before : (low : ℕ) (es : List Item) (open_ : Levels) (i : Input) (ts : List Token) → Follow open_ i ts → Opened low open_.depth es → Before i.at es →
    (d : Item) → Contains (entries ts) d → (j : ℕ) → low ≤ j → j < d.depth → (e : Item) × Contains (es ++ entries ts) e × (e.at < d.at) × (e.depth ≡ j)
opened_before low es open_ i [] f o b d c j lj jd = absurd (omega (arith, c.1))
opened_before low es open_ i (Null depth after ∷ ts) f o b d c j lj jd =
    let g = goes open_ i f.1 (Null depth after) f.2 in
    opened_before low es (levels_after open_ (Null depth after)) f.1 ts f.3 (λ k lk kd. o k lk (omega (arith, kd))) (λ e ec. omega (arith, b e ec, g.0)) d c j lj jd
opened_before low es open_ i (Entry x ∷ ts) f o b d c j lj jd =
    let g = goes open_ i f.1 (Entry x) f.2 in
    let s = f.2.says in
    ⊎_elim
    (λ (same : x ≡ d). let e = o j lj (omega (arith, s.1, jd, ap (λ (y : Item). y.depth) same)) in (e.0, Contains-append_left es (x ∷ entries ts) e.0 e.1, omega (arith, b e.0 e.1, s.0, ap (λ (y : Item). y.at) same), e.2))
    (λ (l : Contains (entries ts) d).
    let r = opened_before low (es ++ x ∷ []) (levels_after open_ (Entry x)) f.1 ts f.3 (opened_push low open_.depth es x x.children s.1 o) (before_push i.at f.1.at es x (omega (arith, g.0)) (omega (arith, s.0, g.0)) b) d l j lj jd in
    (r.0, subst (λ (xs : List Item). Contains xs r.0) (append_assoc es (x ∷ []) (entries ts)) r.1, r.2, r.3))
    (contains_cases x (entries ts) d c)

-- ---- a walk

-- the first entry is the root, and each other is deeper
pub root_first : (i : Input) (ts : List Token) → Follow start i ts → (d : Item) → Contains (entries ts) d → d.depth ≡ 0 → find (λ e. eqb e.depth 0) (entries ts) ≡ Some d
root_first i [] f d c z = absurd (omega (arith, c.1))
root_first i (Null depth after ∷ ts) f d c z = absurd (false≢true f.2.says.0)
root_first i (Entry e ∷ ts) f d c z =
    let top : eqb e.depth 0 ≡ true = eq-eqb e.depth 0 f.2.says.1 in
    ⊎_elim
    (λ (same : e ≡ d). rw top (ap {B = Option Item} (λ (x : Item). Some x) same))
    (λ (l : Contains (entries ts) d). absurd (omega (arith, z, deep (levels_after start (Entry e)) f.1 ts refl f.3 d l)))
    (contains_cases e (entries ts) d c)

opened_none : Opened 0 0 []
opened_none j lj jd = absurd (omega arith)

before_none : (place : ℕ) → Before place []
before_none place e c = absurd (omega (arith, c.1))

module _ (ss : List Section) (u : ℕ × UnitHeader) (a : List Abbrev) where
  abbrev whole : Input
  whole = body ss u.1

  abbrev tokens : List Token
  tokens = (walk_of u.1 a whole).tokens

  follows : Follow start whole tokens
  follows = walk_follows u.1 a whole

  within : (d : Item) → Contains (entries tokens) d → IsInside u.1 d
  within d c =
      let b = bounded start whole tokens follows d c in
      let all = drop (u.1.start + u.1.body) (joint ss) in
      record { begins = b.0; some = b.1; ends = omega (arith, b.0, b.1, b.2, length-take (u.1.length - u.1.body) all) }

  parent : (d : Item) → Contains (entries tokens) d → 0 < d.depth → HasParent (entries tokens) d
  parent d c deeper =
      let e = opened_before 0 [] start whole tokens follows opened_none (before_none whole.at) d c (d.depth - 1) (omega arith) (omega (arith, deeper)) in
      has_parent whole.at (entries tokens) (rises start whole tokens follows) d e.0 e.1 e.2 (omega (arith, e.3, deeper))

  ordered : IsInOrder (read ss u a)
  ordered = record {
    rise = increasing whole.at (entries tokens) (rises start whole tokens follows);
    inside = within;
    root = λ d c z. (root_first whole tokens follows d c z, no_parent whole.at (entries tokens) (rises start whole tokens follows) d z);
    parents = parent;
  }

pub walks_in_order : WalksAreInOrder
walks_in_order ss u w is = let r = walked_read ss u w is in subst IsInOrder r.1 (ordered ss u r.0)

-- the offsets of a walk rise
pub walk_rises : (ss : List Section) (u : ℕ × UnitHeader) (w : Walked) → walked ss u ≡ Ok w → (n : ℕ) × Rise n (items_of w)
walk_rises ss u w is =
    let r = walked_read ss u w is in
    let made : Rise (whole ss u r.0).at (items_of (read ss u r.0)) = rises start (whole ss u r.0) (tokens ss u r.0) (follows ss u r.0) in
    ((whole ss u r.0).at, subst (λ (v : Walked). Rise (whole ss u r.0).at (items_of v)) r.1 made)

-- the tokens of a walk
pub walk_tokens : (ss : List Section) (u : ℕ × UnitHeader) (w : Walked) → walked ss u ≡ Ok w → (i : Input) × Follow start i w.walk.tokens
walk_tokens ss u w is = let r = walked_read ss u w is in (whole ss u r.0, subst (λ (v : Walked). Follow start (whole ss u r.0) v.walk.tokens) r.1 (follows ss u r.0))
