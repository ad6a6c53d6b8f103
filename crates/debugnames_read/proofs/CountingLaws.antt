-- Attributes that neither count nor have bytes change no values.
use Rattle.std.proofs.Common.{◌≡◌, ◌<◌, ◌≤◌, ◌+◌, length, drop, get_or, subst, ℕ, Bool, true, false, ◌&&◌, ◌||◌, cond, eqb, List, [], ◌∷◌, ◌++◌, map, Option, Some, None, refl, ap, sym, append_assoc, ◌∙◌}
use Rattle.std.specs.Option.{is_none, option_or}
use Rattle.std.proofs.lemmas.List.{append-nil, map-append, drop_all, drop_more}
use Rattle.ix_base.specs.Reading.{Input, ◌>>=◌}
use Rattle.index_model.proofs.Meanings.{bind_some}
use Rattle.index_model.specs.NameAbbreviations.{Attribute, Spec, values}
use Rattle.debugnames_read.specs.declared.abbreviation.IndexSpec.{IndexSpec as ReadSpec}
use Rattle.debugnames_read.specs.Specs.{spec_seen}
use Rattle.debugnames_read.specs.Counting.{is_wanted, kept_behind, none_kept}
use Rattle.debugnames_read.specs.Values.{Kept, first_values, kept_of, value_by, with_value}
use Rattle.debugnames_read.proofs.ValueLaws.{kept_more, no_value, no_values, one_value}

-- ---- one attribute after the other

pub behind_none : (wide : Bool) (k : Kept) (i : Input) → kept_behind wide k [] i ≡ Some (k, i)
unfolding kept_behind
behind_none wide k i = refl

module _ (wide : Bool) (k : Kept) (s : Spec) (ss : List Spec) (i : Input) where
  abbrev on_value : Option (Option ℕ × Input) → Option (Kept × Input)
  on_value r = r >>= λ v. kept_behind wide (with_value k s.attribute v.0) ss v.1

  behind_step : kept_behind wide k (s ∷ ss) i ≡ on_value (value_by wide s.form i)
  unfolding kept_behind
  behind_step = refl

  pub behind_cut : value_by wide s.form i ≡ None → kept_behind wide k (s ∷ ss) i ≡ None
  behind_cut e = behind_step ∙ ap on_value e

  pub behind_one : (v : Option ℕ) (j : Input) → value_by wide s.form i ≡ Some (v, j) → kept_behind wide k (s ∷ ss) i ≡ kept_behind wide (with_value k s.attribute v) ss j
  behind_one v j e = behind_step ∙ ap on_value e

-- ---- the first values of all

abbrev kept_from : List Attribute → Option (List Attribute × Input) → Option (Kept × Input)
kept_from vs r = r >>= λ ws. Some (kept_of (vs ++ ws.0), ws.1)

from_first : (vs : List Attribute) (a : ℕ) (v : Option ℕ) (r : Option (List Attribute × Input)) → kept_from vs (r >>= λ others. Some ((a, v) ∷ others.0, others.1)) ≡ kept_from (vs ++ (a, v) ∷ []) r
from_first vs a v None = refl
from_first vs a v (Some x) = ap (λ (ws : List Attribute). let r : Option (Kept × Input) = Some (kept_of ws, x.1) in r) (sym (append_assoc vs ((a, v) ∷ []) x.0))

all_kept : (wide : Bool) (ss : List Spec) (vs : List Attribute) (i : Input) → kept_from vs (values wide ss i) ≡ kept_behind wide (kept_of vs) ss i
all_kept wide [] vs i = ap (kept_from vs) (no_values wide i) ∙ ap (λ (ws : List Attribute). let r : Option (Kept × Input) = Some (kept_of ws, i) in r) (append-nil vs) ∙ sym (behind_none wide (kept_of vs) i)
all_kept wide (s ∷ ss) vs i = by (all_kept wide ss) (value_by wide s.form i) refl
  where
    by : ((vs : List Attribute) (i : Input) → kept_from vs (values wide ss i) ≡ kept_behind wide (kept_of vs) ss i) → (r : Option (Option ℕ × Input)) → value_by wide s.form i ≡ r → kept_from vs (values wide (s ∷ ss) i) ≡ kept_behind wide (kept_of vs) (s ∷ ss) i
    by later None e = ap (kept_from vs) (no_value wide s ss i e) ∙ sym (behind_cut wide (kept_of vs) s ss i e)
    by later (Some v) e =
        ap (kept_from vs) (one_value wide s ss i v.0 v.1 e)
        ∙ from_first vs s.attribute v.0 (values wide ss v.1)
        ∙ later (vs ++ (s.attribute, v.0) ∷ []) v.1
        ∙ ap (λ (k : Kept). kept_behind wide k ss v.1) (kept_more vs s.attribute v.0)
        ∙ sym (behind_one wide (kept_of vs) s ss i v.0 v.1 e)

pub first_behind : (wide : Bool) (ss : List Spec) (i : Input) → first_values wide ss i ≡ kept_behind wide none_kept ss i
first_behind wide ss i = all_kept wide ss [] i

-- ---- attributes behind others

abbrev then : Bool → List Spec → Option (Kept × Input) → Option (Kept × Input)
then wide ys r = r >>= λ x. kept_behind wide x.0 ys x.1

behind_both : (wide : Bool) (xs ys : List Spec) (k : Kept) (i : Input) → kept_behind wide k (xs ++ ys) i ≡ then wide ys (kept_behind wide k xs i)
behind_both wide [] ys k i = sym (ap (then wide ys) (behind_none wide k i))
behind_both wide (s ∷ xs) ys k i = by (behind_both wide xs ys) (value_by wide s.form i) refl
  where
    by : ((k : Kept) (i : Input) → kept_behind wide k (xs ++ ys) i ≡ then wide ys (kept_behind wide k xs i)) → (r : Option (Option ℕ × Input)) → value_by wide s.form i ≡ r → kept_behind wide k (s ∷ (xs ++ ys)) i ≡ then wide ys (kept_behind wide k (s ∷ xs) i)
    by later None e = behind_cut wide k s (xs ++ ys) i e ∙ sym (ap (then wide ys) (behind_cut wide k s xs i e))
    by later (Some v) e = behind_one wide k s (xs ++ ys) i v.0 v.1 e ∙ later (with_value k s.attribute v.0) v.1 ∙ sym (ap (then wide ys) (behind_one wide k s xs i v.0 v.1 e))

-- ---- an attribute that isn't wanted

one_stays : {A : Type 0} (b : Bool) (v : A) (old : Option A) → (b && is_none old) ≡ false → option_or old (cond b (Some v) None) ≡ old
one_stays b v (Some x) e = refl
one_stays true v None e = absurd cc
one_stays false v None e = refl

neither : (x y : Bool) → (x || y) ≡ false → (x ≡ false) × (y ≡ false)
neither false false e = (refl, refl)
neither false true e = absurd cc
neither true y e = absurd cc

unwanted : (k : Kept) (a : ℕ) (v : Option ℕ) → is_wanted k a ≡ false → with_value k a v ≡ k
unwanted k a v e =
    let p = neither (eqb a 1 && is_none k.compile_unit) (eqb a 2 && is_none k.type_unit || eqb a 3 && is_none k.die_offset) e in
    let q = neither (eqb a 2 && is_none k.type_unit) (eqb a 3 && is_none k.die_offset) p.1 in
    rw (one_stays (eqb a 1) v k.compile_unit p.0, one_stays (eqb a 2) v k.type_unit q.0, one_stays (eqb a 3) v k.die_offset q.1) refl

-- ---- which attributes have values, whatever these are

pub record SameShape (k l : Kept) : Type 0 where
  pub compile_unit : is_none k.compile_unit ≡ is_none l.compile_unit
  pub type_unit : is_none k.type_unit ≡ is_none l.type_unit
  pub die_offset : is_none k.die_offset ≡ is_none l.die_offset

wanted_alike : (k l : Kept) (a : ℕ) → SameShape k l → is_wanted k a ≡ is_wanted l a
wanted_alike k l a h = rw (h.compile_unit, h.type_unit, h.die_offset) refl

one_alike : {A : Type 0} (b : Bool) (v w : A) (old new : Option A) → is_none old ≡ is_none new → is_none (option_or old (cond b (Some v) None)) ≡ is_none (option_or new (cond b (Some w) None))
one_alike b v w (Some x) (Some y) e = refl
one_alike b v w (Some x) None e = absurd cc
one_alike b v w None (Some y) e = absurd cc
one_alike true v w None None e = refl
one_alike false v w None None e = refl

pub shape_more : (k l : Kept) (a : ℕ) (v w : Option ℕ) → SameShape k l → SameShape (with_value k a v) (with_value l a w)
shape_more k l a v w h = record {
  compile_unit = one_alike (eqb a 1) v w k.compile_unit l.compile_unit h.compile_unit;
  type_unit = one_alike (eqb a 2) v w k.type_unit l.type_unit h.type_unit;
  die_offset = one_alike (eqb a 3) v w k.die_offset l.die_offset h.die_offset;
}

-- ---- the attributes that are listed, and those that are left

-- what is found stands for what reading the listed ones gives
abbrev pub StandsFor : Kept → List Spec → Type 0
StandsFor found listed = (wide : Bool) (i : Input) (k : Kept) (j : Input) → kept_behind wide none_kept listed i ≡ Some (k, j) → SameShape found k

-- the listed ones and those that are left have the first values of all
abbrev pub SameValues : List Spec → List Spec → Type 0
SameValues some all = (wide : Bool) (i : Input) → kept_behind wide none_kept some i ≡ kept_behind wide none_kept all i

flag_value : (wide : Bool) (i : Input) → value_by wide 25 i ≡ Some (None, i)
flag_value wide i = refl

-- one without bytes that isn't wanted may be left out
pub left_out : (found : Kept) (listed : List Spec) (s : Spec) (rest all : List Spec) → StandsFor found listed → s.form ≡ 25 → is_wanted found s.attribute ≡ false → SameValues (listed ++ s ∷ rest) all → SameValues (listed ++ rest) all
left_out found listed s rest all stands flag not same wide i = behind_both wide listed rest none_kept i ∙ by (kept_behind wide none_kept listed i) refl ∙ sym (behind_both wide listed (s ∷ rest) none_kept i) ∙ same wide i
  where
    by : (r : Option (Kept × Input)) → kept_behind wide none_kept listed i ≡ r → then wide rest (kept_behind wide none_kept listed i) ≡ then wide (s ∷ rest) (kept_behind wide none_kept listed i)
    by None e = ap (then wide rest) e ∙ sym (ap (then wide (s ∷ rest)) e)
    by (Some x) e =
        let shape = stands wide i x.0 x.1 e in
        let value : value_by wide s.form x.1 ≡ Some (None, x.1) = ap (λ (f : ℕ). value_by wide f x.1) flag ∙ flag_value wide x.1 in
        let stays : with_value x.0 s.attribute None ≡ x.0 = unwanted x.0 s.attribute None (sym (wanted_alike found x.0 s.attribute shape) ∙ not) in
        ap (then wide rest) e
        ∙ sym (ap (λ (k : Kept). kept_behind wide k rest x.1) stays)
        ∙ sym (behind_one wide x.0 s rest x.1 None x.1 value)
        ∙ sym (ap (then wide (s ∷ rest)) e)

first_same : (x y : Kept × Input) → Some x ≡ Some y → x.0 ≡ y.0
first_same x y e = let same : x ≡ y = cc in ap (λ (p : Kept × Input). p.0) same

pub stands_first : (found : Kept) → found ≡ none_kept → StandsFor found []
stands_first found e wide i k j is =
    let same : none_kept ≡ k = first_same (none_kept, i) (k, j) (sym (behind_none wide none_kept i) ∙ is) in
    subst (λ (l : Kept). SameShape found l) (e ∙ same) (record { compile_unit = refl; type_unit = refl; die_offset = refl })

-- one more that is listed
pub stands_more : (found : Kept) (listed : List Spec) (s : Spec) (v : Option ℕ) → StandsFor found listed → StandsFor (with_value found s.attribute v) (listed ++ s ∷ [])
stands_more found listed s v stands wide i k j e =
    let b = bind_some (kept_behind wide none_kept listed i) (λ x. kept_behind wide x.0 (s ∷ []) x.1) (k, j) (sym (behind_both wide listed (s ∷ []) none_kept i) ∙ e) in
    one b.0.0 b.0.1 (stands wide i b.0.0 b.0.1 b.1) b.2
  where
    one : (l : Kept) (m : Input) → SameShape found l → kept_behind wide l (s ∷ []) m ≡ Some (k, j) → SameShape (with_value found s.attribute v) k
    one l m shape is =
        let w = bind_some (value_by wide s.form m) (λ v. kept_behind wide (with_value l s.attribute v.0) [] v.1) (k, j) (sym (behind_step wide l s [] m) ∙ is) in
        last l shape w.0.0 w.0.1 w.2
      where
        last : (l : Kept) → SameShape found l → (u : Option ℕ) (n : Input) → kept_behind wide (with_value l s.attribute u) [] n ≡ Some (k, j) → SameShape (with_value found s.attribute v) k
        last l shape u n is =
            let same : with_value l s.attribute u ≡ k = first_same (with_value l s.attribute u, n) (k, j) (sym (behind_none wide (with_value l s.attribute u) n) ∙ is) in
            subst (λ (x : Kept). SameShape (with_value found s.attribute v) x) same (shape_more found l s.attribute v u shape)

pub same_more : (xs : List ReadSpec) (s : ReadSpec) (rest all : List Spec) → SameValues (map spec_seen xs ++ spec_seen s ∷ rest) all → SameValues (map spec_seen (xs ++ s ∷ []) ++ rest) all
same_more xs s rest all same wide i =
    let split : map spec_seen (xs ++ s ∷ []) ≡ map spec_seen xs ++ spec_seen s ∷ [] = map-append spec_seen xs (s ∷ []) in
    ap (λ (ys : List Spec). kept_behind wide none_kept (ys ++ rest) i) split ∙ ap (λ (ys : List Spec). kept_behind wide none_kept ys i) (append_assoc (map spec_seen xs) (spec_seen s ∷ []) rest) ∙ same wide i

-- where none is left the listed ones have the first values of all
pub counted : (listed rest all : List Spec) → rest ≡ [] → SameValues (listed ++ rest) all → (wide : Bool) (i : Input) → first_values wide listed i ≡ first_values wide all i
counted listed rest all none same wide i =
    first_behind wide listed i
    ∙ ap (λ (ys : List Spec). kept_behind wide none_kept ys i) (sym (append-nil listed) ∙ ap (λ (ys : List Spec). listed ++ ys) (sym none))
    ∙ same wide i
    ∙ sym (first_behind wide all i)

pub stands_seen : (found : Kept) (xs : List ReadSpec) (s : ReadSpec) (v : Option ℕ) → StandsFor found (map spec_seen xs) → StandsFor (with_value found s.attribute v) (map spec_seen (xs ++ s ∷ []))
stands_seen found xs s v stands =
    let split : map spec_seen (xs ++ s ∷ []) ≡ map spec_seen xs ++ spec_seen s ∷ [] = map-append spec_seen xs (s ∷ []) in
    subst (λ (ys : List Spec). StandsFor (with_value found s.attribute v) ys) (sym split) (stands_more found (map spec_seen xs) (spec_seen s) v stands)

-- the next of some that are left
pub next_left : (xs : List ReadSpec) (i : ℕ) (d : ReadSpec) → i < length xs → map spec_seen (drop i xs) ≡ spec_seen (get_or xs i d) ∷ map spec_seen (drop (i + 1) xs)
next_left xs i d lt = ap (map spec_seen) (drop_more xs i d lt)

pub none_left : (xs : List ReadSpec) (i : ℕ) → length xs ≤ i → map spec_seen (drop i xs) ≡ []
none_left xs i le = ap (map spec_seen) (drop_all i xs le)
