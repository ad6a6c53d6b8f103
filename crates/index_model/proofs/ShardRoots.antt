-- What shards say of the roots of units, and of their imports.
use Rattle.std.proofs.Common.{◌≡◌, ℕ, suc, ◌+◌, ◌-◌, ◌<◌, ◌≤◌, Bool, true, false, cond, leb, eqb, ◌&&◌, ◌||◌, List, [], ◌∷◌, ◌++◌, length, map, flat_map, Option, Some, None, Ok, refl, sym, ap, ◌∙◌, arith, ⊎_elim}
use Rattle.std.specs.Prelude.{Contains, find, slice_get, is_some, option_and_then}
use Rattle.std.specs.Option.{option_map, option_or}
use Rattle.std.specs.List.{AllZip, list_any}
use Rattle.std.proofs.lemmas.Bool.{le-leb, lt-leb, eq-eqb, ne_eqb, cases_order}
use Rattle.std.proofs.lemmas.List.Folds.{find-append}
use mathlib.Core.Logic.{◌⊎◌}
use Rattle.common_laws.proofs.Members.{contains_here, contains_later, contains_cases}
use Rattle.index_model.specs.declared.unit.Unit.{Unit as UnitHeader}
use Rattle.index_model.specs.declared.shard.Root.{Root}
use Rattle.index_model.specs.declared.shard.Import.{Import}
use Rattle.index_model.specs.declared.shard.Shard.{Shard}
use Rattle.index_model.specs.Sections.{Section}
use Rattle.index_model.specs.Program.{Walked, Program}
use Rattle.index_model.specs.Faults.{program_of}
use Rattle.index_model.specs.Languages.{own_language, imports_of}
use Rattle.index_model.specs.ShardParts.{root_facts, imports_in}
use Rattle.index_model.specs.Shards.{StandsFor}
use Rattle.index_model.specs.ShardLanguages.{first_some, root_in, imported_from, importing_in}
use Rattle.index_model.proofs.FirstSome.{first_map}
use Rattle.index_model.proofs.Scans.{AreScans, scanned_walked, program_parts}
use Rattle.index_model.proofs.UnitsApart.{walk_parts}

-- ---- numbers

-- the walks have the numbers from n on
abbrev pub Numbered : ℕ → List Walked → Type 0
Numbered n [] = Unit {0}
Numbered n (w ∷ ws) = (w.number ≡ n) × Numbered (n + 1) ws

scans_numbered : (ss : List Section) (n : ℕ) (us : List UnitHeader) (ws : List Walked) → AreScans ss n us ws → Numbered n ws
scans_numbered ss n [] [] s = tt
scans_numbered ss n [] (w ∷ ws) s = absurd s
scans_numbered ss n (u ∷ us) [] s = absurd s
scans_numbered ss n (u ∷ us) (w ∷ ws) s = ((walk_parts ss (n, u) w (scanned_walked ss (n, u) w s.0).0).0, scans_numbered ss (n + 1) us ws s.1)

pub program_numbered : (f : List ℕ) (p : Program) → program_of f ≡ Ok p → Numbered 0 p.walks
program_numbered f p is = let a = program_parts f p is in scans_numbered p.sections 0 a.0 p.walks a.3

pub numbered_front : (n : ℕ) (xs ys : List Walked) → Numbered n (xs ++ ys) → Numbered n xs
numbered_front n [] ys h = tt
numbered_front n (x ∷ xs) ys h = (h.0, numbered_front (n + 1) xs ys h.1)

pub numbered_back : (n : ℕ) (xs ys : List Walked) → Numbered n (xs ++ ys) → (m : ℕ) × Numbered m ys
numbered_back n [] ys h = (n, h)
numbered_back n (x ∷ xs) ys h = numbered_back (n + 1) xs ys h.1

pub numbered_low : (n : ℕ) (ws : List Walked) (w : Walked) → Numbered n ws → Contains ws w → n ≤ w.number
numbered_low n [] w h c = absurd (omega (arith, c.1))
numbered_low n (v ∷ vs) w h c = ⊎_elim
    (λ (same : v ≡ w). omega (arith, h.0, ap (λ (x : Walked). x.number) same))
    (λ (l : Contains vs w). omega (arith, numbered_low (n + 1) vs w h.1 l))
    (contains_cases v vs w c)

-- a number is that of one walk
pub find_number : (n : ℕ) (ws : List Walked) (w : Walked) → Numbered n ws → Contains ws w → find (λ v. eqb v.number w.number) ws ≡ Some w
find_number n [] w h c = absurd (omega (arith, c.1))
find_number n (v ∷ vs) w h c = ⊎_elim
    (λ (same : v ≡ w). ap (λ (b : Bool). cond b (Some v) (find (λ x. eqb x.number w.number) vs)) (eq-eqb v.number w.number (ap (λ (x : Walked). x.number) same)) ∙ ap {B = Option Walked} (λ (x : Walked). Some x) same)
    (λ (l : Contains vs w).
    let low = numbered_low (n + 1) vs w h.1 l in
    ap (λ (b : Bool). cond b (Some v) (find (λ x. eqb x.number w.number) vs)) (ne_eqb v.number w.number (λ e. omega (arith, low, h.0, e))) ∙ find_number (n + 1) vs w h.1 l)
    (contains_cases v vs w c)

-- ---- roots

no_root : (b : Bool) → cond {A = Option Root} b None None ≡ None
no_root true = refl
no_root false = refl

roots_at : (unit n : ℕ) (run : List Walked) → Numbered n run → cond (leb n unit) (slice_get (map root_facts run) (unit - n)) None ≡ option_map root_facts (find (λ w. eqb w.number unit) run)
roots_at unit n [] h = no_root (leb n unit)
roots_at unit n (w ∷ ws) h = ⊎_elim
    (λ (same : n ≡ unit).
    let zero_ : unit - n ≡ 0 = omega (arith, same) in
    let left : cond (leb n unit) (slice_get (map root_facts (w ∷ ws)) (unit - n)) None ≡ Some (root_facts w) = rw (le-leb n unit (omega (arith, same)), zero_) refl in
    let right : find (λ x. eqb x.number unit) (w ∷ ws) ≡ Some w = ap (λ (b : Bool). cond b (Some w) (find (λ x. eqb x.number unit) ws)) (eq-eqb w.number unit (h.0 ∙ same)) in
    left ∙ ap (option_map root_facts) (sym right))
    (λ (other : (n < unit) ⊎ (unit < n)).
    let skip : (w.number ≡ unit → ⊥) → find (λ x. eqb x.number unit) ws ≡ find (λ x. eqb x.number unit) (w ∷ ws) = λ off. ap (λ (b : Bool). cond b (Some w) (find (λ x. eqb x.number unit) ws)) (sym (ne_eqb w.number unit off)) in
    ⊎_elim
    (λ (lt : n < unit).
    let more : unit - n ≡ suc (unit - (n + 1)) = omega (arith, lt) in
    let left : cond (leb n unit) (slice_get (map root_facts (w ∷ ws)) (unit - n)) None ≡ slice_get (map root_facts ws) (unit - (n + 1)) = rw (le-leb n unit (omega (arith, lt)), more) refl in
    let next : cond (leb (n + 1) unit) (slice_get (map root_facts ws) (unit - (n + 1))) None ≡ slice_get (map root_facts ws) (unit - (n + 1)) = ap (λ (b : Bool). cond b (slice_get (map root_facts ws) (unit - (n + 1))) None) (le-leb (n + 1) unit (omega (arith, lt))) in
    left ∙ sym next ∙ roots_at unit (n + 1) ws h.1 ∙ ap (option_map root_facts) (skip (λ e. omega (arith, e, lt, h.0))))
    (λ (gt : unit < n).
    let left : cond (leb n unit) (slice_get (map root_facts (w ∷ ws)) (unit - n)) None ≡ None = ap (λ (b : Bool). cond b (slice_get (map root_facts (w ∷ ws)) (unit - n)) None) (lt-leb n unit gt) in
    let next : cond (leb (n + 1) unit) (slice_get (map root_facts ws) (unit - (n + 1))) None ≡ None = ap (λ (b : Bool). cond b (slice_get (map root_facts ws) (unit - (n + 1))) None) (lt-leb (n + 1) unit (omega (arith, gt))) in
    left ∙ sym next ∙ roots_at unit (n + 1) ws h.1 ∙ ap (option_map root_facts) (skip (λ e. omega (arith, e, gt, h.0))))
    other)
    (cases_order n unit)

-- a shard says of a unit the facts of its root, if the unit is one of its run
pub root_is : (ss : List Section) (s : Shard) (run : List Walked) (unit n : ℕ) → StandsFor ss s run → Numbered n run → root_in unit s ≡ option_map root_facts (find (λ w. eqb w.number unit) run)
root_is ss s [] unit n stands h = ap (λ (roots : List Root). cond (leb s.first unit) (slice_get roots (unit - s.first)) None) stands.roots ∙ roots_at unit s.first [] tt
root_is ss s (w ∷ ws) unit n stands h =
    let first : s.first ≡ n = stands.first ∙ h.0 in
    ap (λ (roots : List Root). cond (leb s.first unit) (slice_get roots (unit - s.first)) None) stands.roots ∙
    ap (λ (k : ℕ). cond (leb k unit) (slice_get (map root_facts (w ∷ ws)) (unit - k)) None) first ∙
    roots_at unit n (w ∷ ws) h

pub map_or : {A B : Type 0} (f : A → B) (x y : Option A) → option_or (option_map f x) (option_map f y) ≡ option_map f (option_or x y)
map_or f (Some x) y = refl
map_or f None y = refl

-- the walks of all runs
abbrev pub joined : List (List Walked) → List Walked
joined = flat_map (λ run. run)

pub roots_are : (ss : List Section) (shards : List Shard) (runs : List (List Walked)) (unit n : ℕ) → AllZip (StandsFor ss) shards runs → Numbered n (joined runs) → first_some (root_in unit) shards ≡ option_map root_facts (find (λ w. eqb w.number unit) (joined runs))
roots_are ss [] [] unit n z h = refl
roots_are ss [] (run ∷ runs) unit n z h = absurd z
roots_are ss (s ∷ shards) [] unit n z h = absurd z
roots_are ss (s ∷ shards) (run ∷ runs) unit n z h =
    let own = root_is ss s run unit n z.0 (numbered_front n run (joined runs) h) in
    let back = numbered_back n run (joined runs) h in
    let others = roots_are ss shards runs unit back.0 z.1 back.1 in
    ap (λ (o : Option Root). option_or o (first_some (root_in unit) shards)) own ∙
    ap (option_or (option_map root_facts (find (λ w. eqb w.number unit) run))) others ∙
    map_or root_facts (find (λ w. eqb w.number unit) run) (find (λ w. eqb w.number unit) (joined runs)) ∙
    ap (option_map root_facts) (sym (find-append (λ w. eqb w.number unit) run (joined runs)))

-- ---- the first value of some

or_or : {A : Type 0} (x y z : Option A) → option_or (option_or x y) z ≡ option_or x (option_or y z)
or_or (Some x) y z = refl
or_or None y z = refl

first_append : {A B : Type 0} (f : A → Option B) (xs ys : List A) → first_some f (xs ++ ys) ≡ option_or (first_some f xs) (first_some f ys)
first_append f [] ys = refl
first_append f (x ∷ xs) ys = ap (option_or (f x)) (first_append f xs ys) ∙ sym (or_or (f x) (first_some f xs) (first_some f ys))

first_flat : {A B C : Type 0} (f : B → Option C) (h : A → List B) (xs : List A) → first_some f (flat_map h xs) ≡ first_some (λ x. first_some f (h x)) xs
first_flat f h [] = refl
first_flat f h (x ∷ xs) = first_append f (h x) (flat_map h xs) ∙ ap (option_or (first_some f (h x))) (first_flat f h xs)

first_same : {A B : Type 0} (f g : A → Option B) (xs : List A) → ((x : A) → Contains xs x → f x ≡ g x) → first_some f xs ≡ first_some g xs
first_same f g [] same = refl
first_same f g (x ∷ xs) same =
    ap (λ (o : Option _). option_or o (first_some f xs)) (same x (contains_here x xs)) ∙
    ap (option_or (g x)) (first_same f g xs (λ y c. same y (contains_later x xs y c)))

-- ---- imports

-- a value, if one of these is o
one_of : {A : Type 0} (o : ℕ) (x : Option A) (ts : List ℕ) → first_some (λ t. cond (eqb t o) x None) ts ≡ cond (list_any (λ t. eqb t o) ts) x None
one_of o x [] = refl
one_of {A = A} o x (t ∷ ts) =
    elim (eqb t o) as (λ b. option_or (cond b x None) (first_some (λ t. cond (eqb t o) x None) ts) ≡ cond (b || list_any (λ t. eqb t o) ts) x None) [
      | true ↦ ap (option_or x) (one_of o x ts) ∙ twice (list_any (λ t. eqb t o) ts) x
      | false ↦ one_of o x ts
    ]
  where
    twice : (b : Bool) (x : Option A) → option_or x (cond b x None) ≡ x
    twice true None = refl
    twice false None = refl
    twice b (Some x) = refl

module _ (ss : List Section) (o : ℕ) where
  -- the unit's own language, if it imports the entry at the offset
  abbrev pub own_if_importing : Walked → Option ℕ
  own_if_importing w = cond (list_any (λ t. eqb t o) (imports_of ss w)) (own_language w) None

  facts_language : (w : Walked) → (root_facts w).language ≡ own_language w
  unfolding root_facts
  facts_language w = refl

  module _ (s : Shard) (run : List Walked) (n : ℕ) (stands : StandsFor ss s run) (h : Numbered n run) where
    unit_language : (w : Walked) → Contains run w → option_and_then (λ r. r.language) (root_in w.number s) ≡ own_language w
    unit_language w c = ap (option_and_then (λ r. r.language)) (root_is ss s run w.number n stands h ∙ ap (option_map root_facts) (find_number n run w h c)) ∙ facts_language w

    of_unit : (w : Walked) → Contains run w → first_some (imported_from s o) (imports_in ss w) ≡ own_if_importing w
    of_unit w c =
        first_map (imported_from s o) (λ t. let i : Import = record { unit = w.number; target = t } in i) (imports_of ss w) ∙
        ap (λ (x : Option ℕ). first_some (λ t. cond (eqb t o) x None) (imports_of ss w)) (unit_language w c) ∙
        one_of o (own_language w) (imports_of ss w)

    importing_is : importing_in o s ≡ first_some own_if_importing run
    importing_is =
        ap (first_some (imported_from s o)) stands.imports ∙
        first_flat (imported_from s o) (imports_in ss) run ∙
        first_same (λ w. first_some (imported_from s o) (imports_in ss w)) own_if_importing run of_unit

  all_importing : (shards : List Shard) (runs : List (List Walked)) (n : ℕ) → AllZip (StandsFor ss) shards runs → Numbered n (joined runs) → first_some (importing_in o) shards ≡ first_some own_if_importing (joined runs)
  all_importing [] [] n z h = refl
  all_importing [] (run ∷ runs) n z h = absurd z
  all_importing (s ∷ shards) [] n z h = absurd z
  all_importing (s ∷ shards) (run ∷ runs) n z h =
      let back = numbered_back n run (joined runs) h in
      ap (λ (x : Option ℕ). option_or x (first_some (importing_in o) shards)) (importing_is s run n z.0 (numbered_front n run (joined runs) h)) ∙
      ap (option_or (first_some own_if_importing run)) (all_importing shards runs back.0 z.1 back.1) ∙
      sym (first_append own_if_importing run (joined runs))

  abbrev pub imports_it : Walked → Bool
  imports_it w = is_some (own_language w) && list_any (λ t. eqb t o) (imports_of ss w)

  first_importing : (ws : List Walked) → first_some own_if_importing ws ≡ option_and_then own_language (find imports_it ws)
  first_importing [] = refl
  first_importing (w ∷ ws) = by (own_language w) refl (list_any (λ t. eqb t o) (imports_of ss w)) (first_importing ws)
    where
      by : (own : Option ℕ) → own_language w ≡ own → (b : Bool) → first_some own_if_importing ws ≡ option_and_then own_language (find imports_it ws) →
          option_or (cond b (own_language w) None) (first_some own_if_importing ws) ≡ option_and_then own_language (cond (is_some (own_language w) && b) (Some w) (find imports_it ws))
      by None e true rest = rw e rest
      by None e false rest = rw e rest
      by (Some l) e true rest = rw e (sym e)
      by (Some l) e false rest = rw e rest

  -- the shards give the language of the first unit that imports the entry
  pub importing_are : (shards : List Shard) (runs : List (List Walked)) (n : ℕ) → AllZip (StandsFor ss) shards runs → Numbered n (joined runs) → first_some (importing_in o) shards ≡ option_and_then own_language (find imports_it (joined runs))
  importing_are shards runs n z h = all_importing shards runs n z h ∙ first_importing (joined runs)

-- the number of a unit is below their count
pub numbered_high : (n : ℕ) (ws : List Walked) (w : Walked) → Numbered n ws → Contains ws w → w.number < n + length ws
numbered_high n [] w h c = absurd (omega (arith, c.1))
numbered_high n (v ∷ vs) w h c = ⊎_elim
    (λ (same : v ≡ w). omega (arith, h.0, ap (λ (x : Walked). x.number) same))
    (λ (later : Contains vs w). omega (arith, numbered_high (n + 1) vs w h.1 later))
    (contains_cases v vs w c)
