-- The open entries are the lexical parents of what comes.
use Rattle.std.proofs.Common.{◌≡◌, ℕ, zero, suc, ◌-◌, ◌<◌, ◌≤◌, Bool, List, [], ◌∷◌, ◌++◌, Option, Some, None, option_map, sym, ap, subst, ◌∙◌, arith, ⊎_elim}
use Rattle.std.specs.Prelude.{Contains}
use Rattle.std.proofs.lemmas.List.Elements.{Contains-append_left, Contains-append_right, Contains-append_cases, Contains-push, Contains-push_cases}
use Rattle.common_laws.proofs.Members.{contains_here, contains_cases}
use Rattle.index_model.specs.declared.rules.Parent.{Parent}
use Rattle.index_model.specs.Walk.{Item, parent_of}
use Rattle.index_model.specs.Rules.{is_visited, is_visited_under, parent_as}
use Rattle.index_model.specs.LawsOrder.{HasParent}
use Rattle.index_model.proofs.ParentLaws.{Rise, rise_below}
use Rattle.index_model.proofs.VisitedLaws.{visited_by_parent}
use Rattle.index_model.proofs.InnermostLaws.{same_item}
use Rattle.shard_build.specs.declared.open.Open.{Open}
use Rattle.shard_build.specs.Kept.{innermost, is_visited_in, role_of}

-- ---- entries that rise

pub before_in : (n : ℕ) (es : List Item) (d : Item) (rest : List Item) → Rise n (es ++ d ∷ rest) → (x : Item) → Contains es x → x.at < d.at
before_in n [] d rest r x c = absurd (omega (arith, c.1))
before_in n (e ∷ es) d rest r x c = ⊎_elim
    (λ (same : e ≡ x). let up = rise_below (suc e.at) (es ++ d ∷ rest) d r.1 (Contains-append_right es (d ∷ rest) d (contains_here d rest)) in omega (arith, up, ap (λ (y : Item). y.at) same))
    (λ (l : Contains es x). before_in (suc e.at) es d rest r.1 x l)
    (contains_cases e es x c)

pub after_in : (n : ℕ) (es : List Item) (d : Item) (rest : List Item) → Rise n (es ++ d ∷ rest) → (x : Item) → Contains (d ∷ rest) x → d.at ≤ x.at
after_in n [] d rest r x c = ⊎_elim
    (λ (same : d ≡ x). omega (arith, ap (λ (y : Item). y.at) same))
    (λ (l : Contains rest x). let up = rise_below (suc d.at) rest x r.1 l in omega (arith, up))
    (contains_cases d rest x c)
after_in n (e ∷ es) d rest r x c = after_in (suc e.at) es d rest r.1 x c

-- ---- open entries

-- o is the last entry of this depth among the earlier ones
pub record IsOpen (ada : Bool) (ds es : List Item) (j : ℕ) (o : Open) : Type 0 where
  pub entry : Item
  pub member : Contains es entry
  pub depth : entry.depth ≡ j
  pub at : o.at ≡ entry.at
  pub parent : o.parent ≡ role_of entry.depth entry.tag (is_visited ada ds entry)
  pub last : (x : Item) → Contains es x → x.depth ≡ j → x.at ≤ entry.at

-- one of each depth below n, the innermost first
abbrev pub AreOpen : Bool → List Item → List Item → List Open → ℕ → Type 0
AreOpen ada ds es [] zero = Unit {0}
AreOpen ada ds es [] (suc j) = ⊥
AreOpen ada ds es (o ∷ os) zero = ⊥
AreOpen ada ds es (o ∷ os) (suc j) = IsOpen ada ds es j o × AreOpen ada ds es os j

module _ (ada : Bool) (ds : List Item) where
  -- they stay open behind a deeper entry
  pub open_behind : (es : List Item) (d : Item) (os : List Open) (n : ℕ) → n ≤ d.depth → AreOpen ada ds es os n → AreOpen ada ds (es ++ d ∷ []) os n
  open_behind es d [] zero le h = tt
  open_behind es d [] (suc j) le h = h
  open_behind es d (o ∷ os) zero le h = h
  open_behind es d (o ∷ os) (suc j) le h = (
    record {
      entry = h.0.entry;
      member = Contains-append_left es (d ∷ []) h.0.entry h.0.member;
      depth = h.0.depth;
      at = h.0.at;
      parent = h.0.parent;
      last = λ x c same. ⊎_elim (λ (l : Contains es x). h.0.last x l same) (λ (is : d ≡ x). absurd (omega (arith, le, same, ap (λ (y : Item). y.depth) is))) (Contains-push_cases es d x c);
    },
    open_behind es d os j (omega (arith, le)) h.1,
  )

  module _ (n : ℕ) (es : List Item) (d : Item) (rest : List Item) (whole : es ++ d ∷ rest ≡ ds) (rise : Rise n ds) where
    rising : Rise n (es ++ d ∷ rest)
    rising = subst (Rise n) (sym whole) rise

    -- an entry is open behind itself
    pub opens : (o : Open) (os : List Open) (k : ℕ) → k ≡ d.depth → o.at ≡ d.at → o.parent ≡ role_of d.depth d.tag (is_visited ada ds d) → AreOpen ada ds es os k → AreOpen ada ds (es ++ d ∷ []) (o ∷ os) (suc k)
    opens o os k deep at parent h = (
      record {
        entry = d;
        member = Contains-push es d;
        depth = sym deep;
        at = at;
        parent = parent;
        last = λ x c same. ⊎_elim (λ (l : Contains es x). let up = before_in n es d rest rising x l in omega (arith, up)) (λ (is : d ≡ x). omega (arith, ap (λ (y : Item). y.at) is)) (Contains-push_cases es d x c);
      },
      open_behind es d os k (omega (arith, deep)) h,
    )

    -- what stands before the entry is one of the earlier ones
    is_earlier : (x : Item) → Contains ds x → x.at < d.at → Contains es x
    is_earlier x c lt = ⊎_elim
        (λ (l : Contains es x). l)
        (λ (r : Contains (d ∷ rest) x). absurd (let up = after_in n es d rest rising x r in omega (arith, up, lt)))
        (Contains-append_cases es (d ∷ rest) x (subst (λ (xs : List Item). Contains xs x) (sym whole) c))

    -- the innermost entry is the parent
    parent_is : (j : ℕ) (o : Open) (is : IsOpen ada ds es j o) → suc j ≡ d.depth → (h : HasParent ds d) → h.parent ≡ is.entry
    parent_is j o is deep h =
        let early : Contains es h.parent = is_earlier h.parent h.member h.earlier in
        let up : h.parent.depth ≡ j = omega (arith, h.one_up, deep) in
        let a : h.parent.at ≤ is.entry.at = is.last h.parent early up in
        let here : Contains ds is.entry = subst (λ (xs : List Item). Contains xs is.entry) whole (Contains-append_left es (d ∷ rest) is.entry is.member) in
        let b : is.entry.at ≤ h.parent.at = h.last is.entry here (before_in n es d rest rising is.entry is.member) (omega (arith, is.depth, deep)) in
        same_item n ds h.parent is.entry rise h.member here (omega (arith, a, b))

    -- what the open entries say of an entry behind them
    pub record IsParentOf (os : List Open) : Type 0 where
      pub place : option_map (λ o. o.at) (innermost os) ≡ option_map (λ e. e.at) (parent_of ds d)
      pub visited : is_visited_in (innermost os) ada ≡ is_visited ada ds d

    at_root : d.depth ≡ 0 → parent_of ds d ≡ None → IsParentOf []
    at_root top none = record {
      place = ap (option_map (λ (e : Item). e.at)) (sym none);
      visited = sym ((visited_by_parent ada ds d).root top);
    }

    below_root : (j : ℕ) (o : Open) (os : List Open) → IsOpen ada ds es j o → suc j ≡ d.depth → HasParent ds d → IsParentOf (o ∷ os)
    below_root j o os is deep h =
        let same : h.parent ≡ is.entry = parent_is j o is deep h in
        let found : parent_of ds d ≡ Some is.entry = h.is ∙ ap {B = Option Item} (λ (x : Item). Some x) same in
        let rule = (visited_by_parent ada ds d).other (omega (arith, deep)) in
        record {
          place = ap {B = Option ℕ} (λ (x : ℕ). Some x) is.at ∙ ap (option_map (λ (e : Item). e.at)) (sym found);
          visited = ap (λ (p : Parent). is_visited_under p ada) is.parent ∙ sym (rule ∙ ap (λ (o : Option Item). is_visited_under (parent_as o (is_visited ada ds)) ada) found);
        }

    pub is_parent : (os : List Open) (k : ℕ) → k ≡ d.depth → AreOpen ada ds es os k → (d.depth ≡ 0 → parent_of ds d ≡ None) → (0 < d.depth → HasParent ds d) → IsParentOf os
    is_parent [] zero deep h root parents = at_root (sym deep) (root (sym deep))
    is_parent [] (suc j) deep h root parents = absurd h
    is_parent (o ∷ os) zero deep h root parents = absurd h
    is_parent (o ∷ os) (suc j) deep h root parents = below_root j o os h.0 deep (parents (omega (arith, deep)))

-- behind a null the others are open
pub open_closed : (ada : Bool) (ds es : List Item) (o : Open) (os : List Open) (n : ℕ) → AreOpen ada ds es (o ∷ os) n → AreOpen ada ds es os (n - 1)
open_closed ada ds es o os zero h = absurd h
open_closed ada ds es o os (suc j) h = let one : j ≡ suc j - 1 = omega arith in subst (AreOpen ada ds es os) one h.1
