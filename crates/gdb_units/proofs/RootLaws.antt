-- The roots of the partial units of a file: where they stand, and that they rise.
use Rattle.std.proofs.Common.{◌≡◌, ℕ, ◌+◌, ◌<◌, Bool, true, false, cond, eqb, ◌&&◌, List, [], ◌∷◌, map, get_or, Option, Some, None, refl, sym, ap, subst, ◌∙◌, arith, ⊎_elim}
use Rattle.std.specs.Prelude.{Contains, AllPairs, find, filter_map}
use Rattle.std.specs.Option.{option_map}
use Rattle.std.specs.List.{enumerate_from, cons_option}
use Rattle.std.specs.List.Sorted.{IsNonDecreasingBy}
use Rattle.std.proofs.lemmas.Bool.{cases_order}
use mathlib.Core.Logic.{◌⊎◌}
use Rattle.common_laws.proofs.Members.{contains_here, contains_later, contains_cases, of_find}
use Rattle.index_model.specs.Sections.{Section}
use Rattle.index_model.specs.Tags.{partial_unit}
use Rattle.index_model.specs.Walk.{Item}
use Rattle.index_model.specs.Program.{Walked, items_of, root_of}
use Rattle.index_model.proofs.Pairs.{Pairs, all_pairs}
use Rattle.index_model.proofs.OrderLaws.{walks_in_order}
use Rattle.index_model.proofs.UnitsApart.{AreApart}
use Rattle.index_model.proofs.ShardRoots.{Numbered}
use Rattle.gdb_entries.specs.Owners.{is_partial_root}
use Rattle.gdb_units.specs.declared.units.UnitRoot.{UnitRoot}
use Rattle.gdb_units.specs.declared.partial_roots.PartialRoot.{PartialRoot}
use Rattle.gdb_units.specs.Given.{root_facts}
use Rattle.gdb_units.specs.Imported.{partial_root, unit_at}

abbrev pub roots_from : ℕ → List UnitRoot → List PartialRoot
roots_from n units = filter_map partial_root (enumerate_from n units)

-- the root that is kept of a unit with this number and this root
abbrev pub kept : ℕ → Option Item → Option PartialRoot
kept n None = None
kept n (Some r) = cond (eqb r.tag partial_unit) (Some (record { offset = r.at; unit = n })) None

abbrev with_number : ℕ → ℕ → PartialRoot
with_number n o = record { offset = o; unit = n }

pub kept_is : (n : ℕ) (w : Walked) → partial_root (n, root_facts w) ≡ kept n (root_of w)
unfolding root_facts
kept_is n w = by (root_of w)
  where
    by : (o : Option Item) → cond (is_partial_root o) (option_map (with_number n) (option_map (λ d. d.at) o)) None ≡ kept n o
    by None = refl
    by (Some r) = refl

-- ---- where they stand

-- it is the root of a partial unit, and stands at the offset
abbrev pub is_root_at : ℕ → Option Item → Bool
is_root_at o None = false
is_root_at o (Some r) = eqb r.tag partial_unit && eqb r.at o

-- the unit that is found at an offset is the first whose root stands there
pub found_is : (o n : ℕ) (ws : List Walked) → Numbered n ws → unit_at (roots_from n (map root_facts ws)) o ≡ option_map (λ w. w.number) (find (λ w. is_root_at o (root_of w)) ws)
found_is o n [] h = refl
found_is o n (w ∷ ws) h =
    ap (λ (x : Option PartialRoot). unit_at (cons_option x (roots_from (n + 1) (map root_facts ws))) o) (kept_is n w) ∙
    by (found_is o (n + 1) ws h.1) (root_of w)
  where
    rest : List PartialRoot
    rest = roots_from (n + 1) (map root_facts ws)

    later : Option Walked
    later = find (λ v. is_root_at o (root_of v)) ws

    number : n ≡ w.number
    number = sym h.0

    by_root : unit_at rest o ≡ option_map (λ (v : Walked). v.number) later → (r : Item) (here : Bool) → option_map (λ (x : PartialRoot). x.unit) (cond here (Some (with_number n r.at)) (find (λ x. eqb x.offset o) rest)) ≡ option_map (λ (v : Walked). v.number) (cond here (Some w) later)
    by_root behind r true = ap (λ (k : ℕ). Some k) number
    by_root behind r false = behind

    by_tag : unit_at rest o ≡ option_map (λ (v : Walked). v.number) later → (r : Item) (p : Bool) → unit_at (cons_option (cond p (Some (with_number n r.at)) None) rest) o ≡ option_map (λ (v : Walked). v.number) (cond (p && eqb r.at o) (Some w) later)
    by_tag behind r true = by_root behind r (eqb r.at o)
    by_tag behind r false = behind

    by : unit_at rest o ≡ option_map (λ (v : Walked). v.number) later → (x : Option Item) → unit_at (cons_option (kept n x) rest) o ≡ option_map (λ (v : Walked). v.number) (cond (is_root_at o x) (Some w) later)
    by behind None = behind
    by behind (Some r) = by_tag behind r (eqb r.tag partial_unit)

-- ---- that they rise

-- the second unit's root stands behind the first one's
abbrev pub RootsUp : Walked → Walked → Type 0
RootsUp w v = (r s : Item) → root_of w ≡ Some r → root_of v ≡ Some s → r.at < s.at

pub roots_up : (ss : List Section) (ws : List Walked) → AreApart ss ws → Pairs RootsUp ws
roots_up ss [] h = tt
roots_up ss (w ∷ ws) h = (
  λ v c r s wr vs.
      let own = h.walks w (contains_here w ws) in
      let other = h.walks v (contains_later w ws v c) in
      let first = (walks_in_order ss own.0 w own.1).inside r (of_find (λ d. eqb d.depth 0) (items_of w) r wr).0 in
      let second = (walks_in_order ss other.0 v other.1).inside s (of_find (λ d. eqb d.depth 0) (items_of v) s vs).0 in
      let far = (h.apart.0 v c).1 in
      omega (arith, first.some, first.ends, second.begins, far),
  roots_up ss ws (record { apart = h.apart.1; walks = λ v c. h.walks v (contains_later w ws v c) }),
)

abbrev Before : PartialRoot → PartialRoot → Type 0
Before a b = a.offset < b.offset

-- each is the root of one of the units
of_kept : (n : ℕ) (ws : List Walked) (b : PartialRoot) → Contains (roots_from n (map root_facts ws)) b → (w : Walked) × (r : Item) × Contains ws w × (root_of w ≡ Some r) × (b.offset ≡ r.at)
of_kept n [] b c = absurd (omega (arith, c.1))
of_kept n (w ∷ ws) b c = by (λ m. let f = of_kept (n + 1) ws b m in (f.0, f.1, contains_later w ws f.0 f.2, f.3, f.4)) (root_of w) refl (subst (λ (x : Option PartialRoot). Contains (cons_option x (roots_from (n + 1) (map root_facts ws))) b) (kept_is n w) c)
  where
    rest : List PartialRoot
    rest = roots_from (n + 1) (map root_facts ws)

    Found : Type 0
    Found = (v : Walked) × (r : Item) × Contains (w ∷ ws) v × (root_of v ≡ Some r) × (b.offset ≡ r.at)

    by_tag : (Contains rest b → Found) → (r : Item) → root_of w ≡ Some r → (p : Bool) → Contains (cons_option (cond p (Some (with_number n r.at)) None) rest) b → Found
    by_tag further r e false m = further m
    by_tag further r e true m = ⊎_elim
        (λ (same : with_number n r.at ≡ b). (w, r, contains_here w ws, e, ap (λ (x : PartialRoot). x.offset) (sym same)))
        (λ (l : Contains rest b). further l)
        (contains_cases (with_number n r.at) rest b m)

    by : (Contains rest b → Found) → (x : Option Item) → root_of w ≡ x → Contains (cons_option (kept n x) rest) b → Found
    by further None e m = further m
    by further (Some r) e m = by_tag further r e (eqb r.tag partial_unit) m

kept_before : (n : ℕ) (ws : List Walked) → Pairs RootsUp ws → Pairs Before (roots_from n (map root_facts ws))
kept_before n [] h = tt
kept_before n (w ∷ ws) h = subst (λ (x : Option PartialRoot). Pairs Before (cons_option x rest)) (sym (kept_is n w)) (by (kept_before (n + 1) ws h.1) (root_of w) refl)
  where
    rest : List PartialRoot
    rest = roots_from (n + 1) (map root_facts ws)

    by_tag : Pairs Before rest → (r : Item) → root_of w ≡ Some r → (p : Bool) → Pairs Before (cons_option (cond p (Some (with_number n r.at)) None) rest)
    by_tag behind r e false = behind
    by_tag behind r e true = (λ b c. let f = of_kept (n + 1) ws b c in let lt = h.0 f.0 f.2 r f.1 e f.3 in omega (arith, lt, f.4), behind)

    by : Pairs Before rest → (x : Option Item) → root_of w ≡ x → Pairs Before (cons_option (kept n x) rest)
    by behind None e = behind
    by behind (Some r) e = by_tag behind r e (eqb r.tag partial_unit)

rising : (rs : List PartialRoot) → AllPairs Before rs → IsNonDecreasingBy (λ r. r.offset) rs
rising rs h i j d le lt = ⊎_elim
    (λ (same : i ≡ j). let e : (get_or rs i d).offset ≡ (get_or rs j d).offset = ap (λ (k : ℕ). (get_or rs k d).offset) same in omega (arith, e))
    (λ (ne : (i < j) ⊎ (j < i)). ⊎_elim (λ (less : i < j). let up = h i j d less lt in omega (arith, up)) (λ (more : j < i). absurd (omega (arith, more, le))) ne)
    (cases_order i j)

pub kept_rise : (ss : List Section) (ws : List Walked) → AreApart ss ws → IsNonDecreasingBy (λ r. r.offset) (roots_from 0 (map root_facts ws))
kept_rise ss ws h = let rs = roots_from 0 (map root_facts ws) in rising rs (all_pairs Before rs (kept_before 0 ws (roots_up ss ws h)))
