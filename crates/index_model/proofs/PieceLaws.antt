-- The pieces that are computed are the maximal ranges in which one unit is the unit at the address.
use Rattle.std.proofs.Common.{◌≡◌, ℕ, suc, ◌<◌, ◌≤◌, Bool, true, false, ◌&&◌, ◌||◌, cond, eqb, ltb, leb, List, [], ◌∷◌, find, Option, Some, None, refl, arith, ap, sym, subst, ◌∙◌}
use Rattle.std.specs.Prelude.{option_map}
use Rattle.std.specs.List.{list_any}
use Rattle.std.proofs.lemmas.Bool.{cases_lt, eqb-true, ltb-true}
use Rattle.std.proofs.Common.{inl, inr}
use Rattle.std.proofs.lemmas.Bool.Decides.{nat_tests}
use Rattle.common_laws.proofs.Booleans.{both_on}
use Rattle.index_model.specs.declared.range.UnitRange.{UnitRange}
use Rattle.index_model.specs.Ranges.{contains, unit_at}
use Rattle.index_model.specs.Ordered.{ascending, with_item}
use Rattle.index_model.specs.Pieces.{AreApart, IsPieces, before, with_piece, between, edges_of, pieces}

-- ---- a list of pieces

abbrev pub First : ℕ → List UnitRange → Type 0
First from [] = Unit {0}
First from (p ∷ ps) = from ≤ p.range.low

pub not_here : (low end a : ℕ) → a < low → (leb low a && ltb a end) ≡ false
not_here low end a lt = grind (arith, nat_tests)

pub behind_first : (p : UnitRange) (ps : List UnitRange) → AreApart (p ∷ ps) → (p.range.low < p.range.end) × First p.range.end ps × AreApart ps
behind_first p [] apart = (apart, tt, tt)
behind_first p (q ∷ ps) apart = (apart.0, apart.1, apart.3)

pub none_below : (ps : List UnitRange) (from a : ℕ) → AreApart ps → First from ps → a < from → unit_at ps a ≡ None
unfolding unit_at
none_below [] from a apart first lt = refl
none_below (p ∷ ps) from a apart first lt =
    let b = behind_first p ps apart in
    rw (not_here p.range.low p.range.end a (omega (arith, first, lt))) (none_below ps p.range.end a b.2 b.1 (omega (arith, first, lt, b.0)))

-- in a piece, or else where the others say
abbrev here_or : UnitRange → List UnitRange → ℕ → Option ℕ
here_or p ps a = cond (contains a p.range) (Some p.unit) (unit_at ps a)

merged_test : (low mid end a : ℕ) → low < mid → mid < end → (leb low a && ltb a end) ≡ ((leb low a && ltb a mid) || (leb mid a && ltb a end))
merged_test low mid end a lt more = grind (arith, nat_tests)

split_test : (b c : Bool) (x : Option ℕ) (u v : ℕ) → u ≡ v → cond (b || c) (Some u) x ≡ cond b (Some u) (cond c (Some v) x)
split_test true c x u v e = refl
split_test false true x u v e = ap (λ (n : ℕ). Some n) e
split_test false false x u v e = refl

pub as_find : (b : Bool) (p : UnitRange) (ps : List UnitRange) (a : ℕ) → option_map (λ r. r.unit) (cond b (Some p) (find (λ u. contains a u.range) ps)) ≡ cond b (Some p.unit) (option_map (λ r. r.unit) (find (λ u. contains a u.range) ps))
as_find true p ps a = refl
as_find false p ps a = refl

record Good (from : ℕ) (p : UnitRange) (ps result : List UnitRange) : Type 0 where
  apart : AreApart result
  first : First from result
  same : (a : ℕ) → unit_at result a ≡ here_or p ps a

joined_apart : (p q : UnitRange) (qs : List UnitRange) → p.range.low < q.range.end → p.unit ≡ q.unit → AreApart (q ∷ qs) → AreApart (record p { range = record { low = p.range.low; end = q.range.end } } ∷ qs)
joined_apart p q [] lt same apart = lt
joined_apart p q (s ∷ ss) lt same apart = (lt, apart.1, λ e u. apart.2 e (sym same ∙ u), apart.3)

before_good : (from : ℕ) (p : UnitRange) (ps : List UnitRange) → from ≤ p.range.low → p.range.low < p.range.end → First p.range.end ps → AreApart ps → Good from p ps (before p ps)
unfolding before unit_at
before_good from p [] low lt first apart = record { apart = lt; first = low; same = λ a. as_find (contains a p.range) p [] a }
before_good from p (q ∷ qs) low lt first apart =
    let both : UnitRange = record p { range = record { low = p.range.low; end = q.range.end } } in
    let b = behind_first q qs apart in
    elim (eqb p.range.end q.range.low && eqb p.unit q.unit) as (λ t. (eqb p.range.end q.range.low && eqb p.unit q.unit) ≡ t → Good from p (q ∷ qs) (cond t (both ∷ qs) (p ∷ q ∷ qs))) [
      | true ↦ λ is.
          let t = both_on _ _ is in
          let touch : p.range.end ≡ q.range.low = eqb-true _ _ t.0 in
          let one : p.unit ≡ q.unit = eqb-true _ _ t.1 in
          record {
            apart = joined_apart p q qs (omega (arith, lt, b.0, touch)) one apart;
            first = low;
            same = λ a. as_find (contains a both.range) both qs a ∙ ap (λ (t : Bool). cond t (Some p.unit) (unit_at qs a)) (merged_test p.range.low p.range.end q.range.end a lt (omega (arith, touch, b.0)) ∙ ap (λ (mid : ℕ). (leb p.range.low a && ltb a p.range.end) || (leb mid a && ltb a q.range.end)) touch) ∙ split_test (contains a p.range) (contains a q.range) (unit_at qs a) p.unit q.unit one ∙ ap (λ (x : Option ℕ). cond (contains a p.range) (Some p.unit) x) (sym (as_find (contains a q.range) q qs a));
          }
      | false ↦ λ is. record { apart = (lt, first, λ touch one. differs p.range.end q.range.low p.unit q.unit touch one is, apart); first = low; same = λ a. as_find (contains a p.range) p (q ∷ qs) a }
    ] refl
  where
    differs : (x y u v : ℕ) → x ≡ y → u ≡ v → (eqb x y && eqb u v) ≡ false → ⊥
    differs x y u v e f is = grind (arith, nat_tests)

-- ---- edges

-- strictly ascending, from a number on
abbrev Asc : ℕ → List ℕ → Type 0
Asc from [] = Unit {0}
Asc from (e ∷ es) = (from ≤ e) × Asc (suc e) es

-- an edge above x is among the edges
abbrev At : ℕ → List ℕ → ℕ → Type 0
At x es v = x < v → list_any (eqb v) es ≡ true

abbrev Cover : ℕ → List ℕ → List UnitRange → Type 0
Cover x es [] = Unit {0}
Cover x es (r ∷ rs) = At x es r.range.low × At x es r.range.end × Cover x es rs

in_asc : (from v : ℕ) (es : List ℕ) → Asc from es → list_any (eqb v) es ≡ true → from ≤ v
in_asc from v [] asc is = absurd cc
in_asc from v (e ∷ es) asc is = elim (eqb v e) as (λ b. eqb v e ≡ b → (b || list_any (eqb v) es) ≡ true → from ≤ v) [
  | true ↦ λ same _. omega (arith, eqb-true _ _ same, asc.0)
  | false ↦ λ _ more. omega (arith, in_asc (suc e) v es asc.1 more, asc.0)
] refl is

-- an edge above x is the next or behind it
next_at : (x e v : ℕ) (es : List ℕ) → Asc (suc x) (e ∷ es) → At x (e ∷ es) v → At e es v
next_at x e v es asc at lt = either (eqb v e) refl (at (omega (arith, asc.0, lt)))
  where
    either : (b : Bool) → eqb v e ≡ b → (b || list_any (eqb v) es) ≡ true → list_any (eqb v) es ≡ true
    either true same is = absurd (omega (arith, eqb-true _ _ same, lt))
    either false same is = is

next_cover : (x e : ℕ) (es : List ℕ) (rs : List UnitRange) → Asc (suc x) (e ∷ es) → Cover x (e ∷ es) rs → Cover e es rs
next_cover x e es [] asc c = tt
next_cover x e es (r ∷ rs) asc c = (next_at x e r.range.low es asc c.0, next_at x e r.range.end es asc c.1, next_cover x e es rs asc c.2)

same_test : (low end x a : ℕ) → x ≤ a → (x < low → a < low) → (x < end → a < end) → (leb low a && ltb a end) ≡ (leb low x && ltb x end)
same_test low end x a le f g = grind (arith, nat_tests)

-- from one edge up to the next the unit is the same
steady : (x e a : ℕ) (es : List ℕ) (rs : List UnitRange) → Asc (suc x) (e ∷ es) → Cover x (e ∷ es) rs → x ≤ a → a < e → unit_at rs a ≡ unit_at rs x
unfolding unit_at
steady x e a es [] asc c le lt = refl
steady x e a es (r ∷ rs) asc c le lt =
    let above : (v : ℕ) → At x (e ∷ es) v → x < v → a < v = λ v at more. omega (arith, in_asc e v (e ∷ es) (omega arith, asc.1) (at more), lt) in
    let test = same_test r.range.low r.range.end x a le (above r.range.low c.0) (above r.range.end c.1) in
    as_find (contains a r.range) r rs a ∙ ap (λ (t : Bool). cond t (Some r.unit) (unit_at rs a)) test ∙ ap (λ (u : Option ℕ). cond (contains x r.range) (Some r.unit) u) (steady x e a es rs asc c.2 le lt) ∙ sym (as_find (contains x r.range) r rs x)

past_test : (low end x a : ℕ) → x ≤ a → (x < end → ⊥) → (leb low a && ltb a end) ≡ false
past_test low end x a le f = grind (arith, nat_tests)

none_past : (x a : ℕ) (rs : List UnitRange) → Cover x [] rs → x ≤ a → unit_at rs a ≡ None
unfolding unit_at
none_past x a [] c le = refl
none_past x a (r ∷ rs) c le = rw (past_test r.range.low r.range.end x a le (λ lt. let e : false ≡ true = c.1 lt in absurd cc)) (none_past x a rs c.2 le)

-- ---- between edges

record Between (ranges : List UnitRange) (x : ℕ) (result : List UnitRange) : Type 0 where
  apart : AreApart result
  first : First x result
  same : (a : ℕ) → x ≤ a → unit_at result a ≡ unit_at ranges a

first_lower : (x e : ℕ) (ps : List UnitRange) → x ≤ e → First e ps → First x ps
first_lower x e [] le first = tt
first_lower x e (p ∷ ps) le first = omega (arith, le, first)

in_test : (x e a : ℕ) → x ≤ a → a < e → (leb x a && ltb a e) ≡ true
in_test x e a le lt = grind (arith, nat_tests)

out_test : (x e a : ℕ) → e ≤ a → (leb x a && ltb a e) ≡ false
out_test x e a le = grind (arith, nat_tests)

one_between : (ranges : List UnitRange) (x e : ℕ) (es : List ℕ) (u : Option ℕ) (rest : List UnitRange) → Asc (suc x) (e ∷ es) → Cover x (e ∷ es) ranges → unit_at ranges x ≡ u → Between ranges e rest → Between ranges x (with_piece x e u rest)
one_between ranges x e es None rest asc c is b = record {
  apart = b.apart;
  first = first_lower x e rest (omega (arith, asc.0)) b.first;
  same = λ a le. elim (cases_lt a e) as (λ _. unit_at rest a ≡ unit_at ranges a) [
    | inl lt ↦ none_below rest e a b.apart b.first lt ∙ sym (steady x e a es ranges asc c le lt ∙ is)
    | inr ge ↦ b.same a ge
  ];
}
one_between ranges x e es (Some u) rest asc c is b =
    let p : UnitRange = record { unit = u; range = record { low = x; end = e } } in
    let g = before_good x p rest (omega arith) (omega (arith, asc.0)) b.first b.apart in
    record {
      apart = g.apart;
      first = g.first;
      same = λ a le. g.same a ∙ elim (cases_lt a e) as (λ _. here_or p rest a ≡ unit_at ranges a) [
        | inl lt ↦ ap (λ (t : Bool). cond t (Some u) (unit_at rest a)) (in_test x e a le lt) ∙ sym (steady x e a es ranges asc c le lt ∙ is)
        | inr ge ↦ ap (λ (t : Bool). cond t (Some u) (unit_at rest a)) (out_test x e a ge) ∙ b.same a ge
      ];
    }

pub nothing : (a : ℕ) → unit_at [] a ≡ None
unfolding unit_at
nothing a = refl

all_between : (ranges : List UnitRange) (x : ℕ) (es : List ℕ) → Asc (suc x) es → Cover x es ranges → Between ranges x (between ranges (x ∷ es))
unfolding between
all_between ranges x [] asc c = record { apart = tt; first = tt; same = λ a le. nothing a ∙ sym (none_past x a ranges c le) }
all_between ranges x (e ∷ es) asc c = one_between ranges x e es (unit_at ranges x) (between ranges (e ∷ es)) asc c refl (all_between ranges e es asc.1 (next_cover x e es ranges asc c))

-- ---- ascending edges

asc_item : (x from : ℕ) (es : List ℕ) → Asc from es → from ≤ x → Asc from (with_item ltb x es)
unfolding with_item
asc_item x from [] asc le = (le, tt)
asc_item x from (y ∷ ys) asc le = elim (ltb x y) as (λ b. ltb x y ≡ b → Asc from (cond b (x ∷ y ∷ ys) (cond (ltb y x) (y ∷ with_item ltb x ys) (y ∷ ys)))) [
  | true ↦ λ is. (le, (ltb-true _ _ is, asc.1))
  | false ↦ λ _. elim (ltb y x) as (λ b. ltb y x ≡ b → Asc from (cond b (y ∷ with_item ltb x ys) (y ∷ ys))) [
    | true ↦ λ is. (asc.0, asc_item x (suc y) ys asc.1 (ltb-true _ _ is))
    | false ↦ λ _. asc
  ] refl
] refl

eqb_self : (n : ℕ) → eqb n n ≡ true
eqb_self n = grind (arith, nat_tests)

neither : (x y : ℕ) → ltb x y ≡ false → ltb y x ≡ false → eqb x y ≡ true
neither x y f g = grind (arith, nat_tests)

or_true : (b c : Bool) → c ≡ true → (b || c) ≡ true
or_true true c e = refl
or_true false c e = e

in_item : (x : ℕ) (es : List ℕ) → list_any (eqb x) (with_item ltb x es) ≡ true
unfolding with_item
in_item x [] = rw (eqb_self x) refl
in_item x (y ∷ ys) = elim (ltb x y) as (λ b. ltb x y ≡ b → list_any (eqb x) (cond b (x ∷ y ∷ ys) (cond (ltb y x) (y ∷ with_item ltb x ys) (y ∷ ys))) ≡ true) [
  | true ↦ λ _. rw (eqb_self x) refl
  | false ↦ λ f. elim (ltb y x) as (λ b. ltb y x ≡ b → list_any (eqb x) (cond b (y ∷ with_item ltb x ys) (y ∷ ys)) ≡ true) [
    | true ↦ λ _. or_true (eqb x y) _ (in_item x ys)
    | false ↦ λ g. rw (neither x y f g) refl
  ] refl
] refl

or_more : (b c d : Bool) → (c ≡ true → d ≡ true) → (b || c) ≡ true → (b || d) ≡ true
or_more true c d f e = refl
or_more false c d f e = f e

in_more : (v x : ℕ) (es : List ℕ) → list_any (eqb v) es ≡ true → list_any (eqb v) (with_item ltb x es) ≡ true
unfolding with_item
in_more v x [] is = absurd cc
in_more v x (y ∷ ys) is = elim (ltb x y) as (λ b. list_any (eqb v) (cond b (x ∷ y ∷ ys) (cond (ltb y x) (y ∷ with_item ltb x ys) (y ∷ ys))) ≡ true) [
  | true ↦ or_true (eqb v x) _ is
  | false ↦ elim (ltb y x) as (λ b. list_any (eqb v) (cond b (y ∷ with_item ltb x ys) (y ∷ ys)) ≡ true) [
    | true ↦ or_more (eqb v y) _ _ (in_more v x ys) is
    | false ↦ is
  ]
]

all_asc : (xs : List ℕ) → Asc 0 (ascending ltb xs)
unfolding ascending
all_asc [] = tt
all_asc (x ∷ xs) = asc_item x 0 (ascending ltb xs) (all_asc xs) (omega arith)

all_in : (v : ℕ) (xs : List ℕ) → list_any (eqb v) xs ≡ true → list_any (eqb v) (ascending ltb xs) ≡ true
unfolding ascending
all_in v [] is = absurd cc
all_in v (x ∷ xs) is = elim (eqb v x) as (λ b. eqb v x ≡ b → (b || list_any (eqb v) xs) ≡ true → list_any (eqb v) (with_item ltb x (ascending ltb xs)) ≡ true) [
  | true ↦ λ same _. let e : x ≡ v = sym (eqb-true _ _ same) in subst (λ (v : ℕ). list_any (eqb v) (with_item ltb x (ascending ltb xs)) ≡ true) e (in_item x (ascending ltb xs))
  | false ↦ λ _ more. in_more v x (ascending ltb xs) (all_in v xs more)
] refl is

-- ---- all of it

abbrev Inside : List ℕ → List UnitRange → Type 0
Inside es [] = Unit {0}
Inside es (r ∷ rs) = (list_any (eqb r.range.low) es ≡ true) × (list_any (eqb r.range.end) es ≡ true) × Inside es rs

inside_all : (es : List ℕ) (rs : List UnitRange) → ((v : ℕ) → list_any (eqb v) (edges_of rs) ≡ true → list_any (eqb v) es ≡ true) → Inside es rs
inside_all es [] all = tt
inside_all es (r ∷ rs) all = (all r.range.low (rw (eqb_self r.range.low) refl), all r.range.end (or_true (eqb r.range.end r.range.low) _ (rw (eqb_self r.range.end) refl)), inside_all es rs (λ v is. all v (or_true (eqb v r.range.low) _ (or_true (eqb v r.range.end) _ is))))

at_start : (x v : ℕ) (es : List ℕ) → list_any (eqb v) (x ∷ es) ≡ true → At x es v
at_start x v es is lt = either (eqb v x) refl is
  where
    either : (b : Bool) → eqb v x ≡ b → (b || list_any (eqb v) es) ≡ true → list_any (eqb v) es ≡ true
    either true same is = absurd (omega (arith, eqb-true _ _ same, lt))
    either false same is = is

cover_start : (x : ℕ) (es : List ℕ) (rs : List UnitRange) → Inside (x ∷ es) rs → Cover x es rs
cover_start x es [] i = tt
cover_start x es (r ∷ rs) i = (at_start x r.range.low es i.0, at_start x r.range.end es i.1, cover_start x es rs i.2)

none_before : (x a : ℕ) (es : List ℕ) (rs : List UnitRange) → Asc 0 (x ∷ es) → Inside (x ∷ es) rs → a < x → unit_at rs a ≡ None
unfolding unit_at
none_before x a es [] asc i lt = refl
none_before x a es (r ∷ rs) asc i lt = rw (not_here r.range.low r.range.end a (omega (arith, in_asc x r.range.low (x ∷ es) (omega arith, asc.1) i.0, lt))) (none_before x a es rs asc i.2 lt)

from_edges : (ranges : List UnitRange) (es : List ℕ) → Asc 0 es → Inside es ranges → IsPieces ranges (between ranges es)
unfolding between unit_at
from_edges [] [] asc i = record { apart = tt; same = λ a. refl }
from_edges (r ∷ rs) [] asc i = let e : false ≡ true = i.0 in absurd cc
from_edges ranges (x ∷ es) asc i =
    let b = all_between ranges x es asc.1 (cover_start x es ranges i) in
    record {
      apart = b.apart;
      same = λ a. elim (cases_lt a x) as (λ _. unit_at (between ranges (x ∷ es)) a ≡ unit_at ranges a) [
        | inl lt ↦ none_below (between ranges (x ∷ es)) x a b.apart b.first lt ∙ sym (none_before x a es ranges asc i lt)
        | inr ge ↦ b.same a ge
      ];
    }

-- what is computed are the maximal ranges
pub pieces_are : (ranges : List UnitRange) → IsPieces ranges (pieces ranges)
unfolding pieces
pieces_are ranges = from_edges ranges (ascending ltb (edges_of ranges)) (all_asc (edges_of ranges)) (inside_all (ascending ltb (edges_of ranges)) ranges (λ v is. all_in v (edges_of ranges) is))

-- ---- there are no others

at_low : (p : UnitRange) (ps : List UnitRange) → p.range.low < p.range.end → unit_at (p ∷ ps) p.range.low ≡ Some p.unit
unfolding unit_at
at_low p ps lt = rw (in_test p.range.low p.range.end p.range.low (omega arith) lt) refl

pub within : (p : UnitRange) (ps : List UnitRange) (a : ℕ) → p.range.low ≤ a → a < p.range.end → unit_at (p ∷ ps) a ≡ Some p.unit
unfolding unit_at
within p ps a le lt = rw (in_test p.range.low p.range.end a le lt) refl

pub behind_end : (p : UnitRange) (ps : List UnitRange) (a : ℕ) → p.range.end ≤ a → unit_at (p ∷ ps) a ≡ unit_at ps a
unfolding unit_at
behind_end p ps a le = rw (out_test p.range.low p.range.end a le) refl

-- a list of pieces begins no earlier than one with the same units
no_earlier : (p : UnitRange) (ps qs : List UnitRange) (from : ℕ) → AreApart (p ∷ ps) → AreApart qs → First from qs → ((a : ℕ) → unit_at (p ∷ ps) a ≡ unit_at qs a) → p.range.low < from → ⊥
no_earlier p ps qs from apart others first same lt =
    let b = behind_first p ps apart in
    let e : Some p.unit ≡ None = sym (at_low p ps b.0) ∙ same p.range.low ∙ none_below qs from p.range.low others first lt in cc

-- a first piece ends no earlier than one with the same low end and unit
no_shorter : (p q : UnitRange) (ps qs : List UnitRange) → AreApart (p ∷ ps) → ((a : ℕ) → unit_at (p ∷ ps) a ≡ unit_at (q ∷ qs) a) → q.range.low ≤ p.range.end → p.unit ≡ q.unit → p.range.end < q.range.end → ⊥
no_shorter p q [] qs apart same le unit lt =
    let e : None ≡ Some q.unit = sym (behind_end p [] p.range.end (omega arith) ∙ nothing p.range.end) ∙ same p.range.end ∙ within q qs p.range.end le lt in cc
no_shorter p q (s ∷ ss) qs apart same le unit lt =
    let there : unit_at (s ∷ ss) p.range.end ≡ Some q.unit = sym (behind_end p (s ∷ ss) p.range.end (omega arith)) ∙ same p.range.end ∙ within q qs p.range.end le lt in
    let b = behind_first s ss apart.3 in
    elim (cases_lt p.range.end s.range.low) as (λ _. ⊥) [
      | inl gap ↦ (let e : None ≡ Some q.unit = sym (none_below (s ∷ ss) s.range.low p.range.end apart.3 (omega arith) gap) ∙ there in cc)
      | inr touch ↦ (let here : Some s.unit ≡ Some q.unit = sym (within s ss p.range.end touch (omega (arith, apart.1, b.0))) ∙ there in
          let units : p.unit ≡ s.unit = cc in apart.2 (omega (arith, apart.1)) units)
    ]

pub equal_from : (a b c : ℕ) → (a < b → ⊥) → (b < a → ⊥) → a ≡ b
equal_from a b c f g = omega arith

abbrev piece_of : ℕ → ℕ → ℕ → UnitRange
piece_of unit low end = record { unit = unit; range = record { low = low; end = end } }

pub same_piece : (p q : UnitRange) → p.unit ≡ q.unit → p.range.low ≡ q.range.low → p.range.end ≡ q.range.end → p ≡ q
same_piece p q u l e = ap (λ (x : ℕ). piece_of x p.range.low p.range.end) u ∙ ap (λ (x : ℕ). piece_of q.unit x p.range.end) l ∙ ap (λ (x : ℕ). piece_of q.unit q.range.low x) e

-- pieces with the same unit at each address are the same pieces
pub pieces_unique : (ps qs : List UnitRange) → AreApart ps → AreApart qs → ((a : ℕ) → unit_at ps a ≡ unit_at qs a) → ps ≡ qs
pieces_unique [] [] f g same = refl
pieces_unique [] (q ∷ qs) f g same = let e : None ≡ Some q.unit = sym (nothing q.range.low) ∙ same q.range.low ∙ at_low q qs (behind_first q qs g).0 in absurd cc
pieces_unique (p ∷ ps) [] f g same = let e : Some p.unit ≡ None = sym (at_low p ps (behind_first p ps f).0) ∙ same p.range.low ∙ nothing p.range.low in absurd cc
pieces_unique (p ∷ ps) (q ∷ qs) f g same =
    let b = behind_first p ps f in
    let c = behind_first q qs g in
    let low : p.range.low ≡ q.range.low = equal_from p.range.low q.range.low 0 (no_earlier p ps (q ∷ qs) q.range.low f g (omega arith) same) (no_earlier q qs (p ∷ ps) p.range.low g f (omega arith) (λ a. sym (same a))) in
    let units : Some p.unit ≡ Some q.unit = sym (at_low p ps b.0) ∙ same p.range.low ∙ within q qs p.range.low (omega (arith, low)) (omega (arith, low, c.0)) in
    let unit : p.unit ≡ q.unit = cc in
    let end : p.range.end ≡ q.range.end = equal_from p.range.end q.range.end 0 (no_shorter p q ps qs f same (omega (arith, low, b.0)) unit) (no_shorter q p qs ps g (λ a. sym (same a)) (omega (arith, low, c.0)) (sym unit)) in
    let head : p ≡ q = same_piece p q unit low end in
    let tail : ps ≡ qs = pieces_unique ps qs b.2 c.2 (λ a. elim (cases_lt a p.range.end) as (λ _. unit_at ps a ≡ unit_at qs a) [
      | inl lt ↦ none_below ps p.range.end a b.2 b.1 lt ∙ sym (none_below qs q.range.end a c.2 c.1 (omega (arith, lt, end)))
      | inr ge ↦ sym (behind_end p ps a ge) ∙ same a ∙ behind_end q qs a (omega (arith, ge, end))
    ]) in
    cc
