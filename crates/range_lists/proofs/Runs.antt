-- The run of a shard, and the units of a file by their numbers.
use Rattle.std.proofs.Common.{◌≡◌, ℕ, zero, suc, ◌+◌, ◌-◌, ◌<◌, ◌≤◌, Bool, true, false, cond, ltb, eqb, List, [], ◌∷◌, ◌++◌, append_assoc, length, get_or, Option, Some, None, refl, sym, ap, subst, ◌∙◌, arith, ⊎_elim}
use Rattle.std.specs.Prelude.{Contains, find, position, slice_get, is_some}
use Rattle.std.specs.Option.{option_map, option_or}
use Rattle.std.specs.List.{AllZip, position_or_len}
use Rattle.std.proofs.lemmas.Bool.{true≢false, eqb-true, ltb-false}
use Rattle.std.proofs.lemmas.List.Sums.{fails_before_first}
use Rattle.std.proofs.lemmas.List.Elements.{Contains-append_left, Contains-append_right}
use Rattle.std.proofs.lemmas.Option.{same_Some}
use Rattle.common_laws.proofs.Members.{contains_here, contains_later, contains_cases}
use Rattle.index_model.specs.declared.unit.Unit.{Unit as UnitHeader}
use Rattle.index_model.specs.declared.shard.Shard.{Shard}
use Rattle.index_model.specs.declared.shard.Linked.{Linked}
use Rattle.index_model.specs.Sections.{Section}
use Rattle.index_model.specs.Program.{Walked, Program}
use Rattle.index_model.specs.ShardParts.{root_facts}
use Rattle.index_model.specs.Shards.{StandsFor}
use Rattle.index_model.specs.ShardLanguages.{first_some, root_in}
use Rattle.index_model.proofs.Scans.{AreScans, scanned_walked}
use Rattle.index_model.proofs.UnitsApart.{walk_parts}
use Rattle.index_model.proofs.ShardRoots.{Numbered, numbered_front, numbered_back, find_number, root_is, joined}
use Rattle.range_lists.specs.Units.{IsLinkedRun}

-- ---- lists

find_some : {A : Type 0} (q : A → Bool) (xs : List A) (v : A) → find q xs ≡ Some v → Contains xs v × (q v ≡ true)
find_some q [] v is = absurd cc
find_some {A = A} q (x ∷ xs) v is = by (find_some q xs v) (q x) refl is
  where
    by : (find q xs ≡ Some v → Contains xs v × (q v ≡ true)) → (b : Bool) → q x ≡ b → cond b (Some x) (find q xs) ≡ Some v → Contains (x ∷ xs) v × (q v ≡ true)
    by later true e h = let same : x ≡ v = same_Some x v h in (subst (Contains (x ∷ xs)) same (contains_here x xs), subst (λ (y : A). q y ≡ true) same e)
    by later false e h = let r = later h in (contains_later x xs v r.0, r.1)

some_of : {A B : Type 0} (f : A → B) (o : Option A) → is_some (option_map f o) ≡ true → (v : A) × (o ≡ Some v)
some_of f (Some v) on = (v, refl)
some_of f None on = absurd (true≢false (sym on))

pub zip_length : {A B : Type 0} (R : A → B → Type 0) (xs : List A) (ys : List B) → AllZip R xs ys → length xs ≡ length ys
zip_length R [] [] z = refl
zip_length R [] (y ∷ ys) z = absurd z
zip_length R (x ∷ xs) [] z = absurd z
zip_length R (x ∷ xs) (y ∷ ys) z = omega (arith, zip_length R xs ys z.1)

-- nothing passes where there is no first that passes
pub none_passes : {A : Type 0} (q : A → Bool) (xs : List A) → position q xs ≡ None → (k : ℕ) (d : A) → k < length xs → q (get_or xs k d) ≡ false
none_passes q xs is k d lt = by (ltb (position_or_len q xs) (length xs)) refl is
  where
    by : (b : Bool) → ltb (position_or_len q xs) (length xs) ≡ b → cond b (Some (position_or_len q xs)) None ≡ None → q (get_or xs k d) ≡ false
    by true e h = absurd cc
    by false e h = let ge = ltb-false (position_or_len q xs) (length xs) e in fails_before_first q xs k d (omega (arith, ge, lt))

pub none_first : {A B : Type 0} (f : A → Option B) (xs : List A) → ((k : ℕ) (d : A) → k < length xs → is_some (f (get_or xs k d)) ≡ false) → first_some f xs ≡ None
none_first f [] none = refl
none_first {B = B} f (x ∷ xs) none =
    ap (λ (o : Option B). option_or o (first_some f xs)) (empty (f x) (none 0 x (omega arith))) ∙
    none_first f xs (λ k d lt. none (suc k) d (omega (arith, lt)))
  where
    empty : (o : Option B) → is_some o ≡ false → o ≡ None
    empty (Some y) e = absurd (true≢false e)
    empty None e = refl

-- ---- the run of a shard

-- the run for which a shard stands, and whose links these are
pub record Chosen (p : Program) (ws : List Walked) (s : Shard) (l : Linked) : Type 0 where
  pub run : List Walked
  pub before : List Walked
  pub after : List Walked
  pub is : ws ≡ before ++ (run ++ after)
  pub stands : StandsFor p.sections s run
  pub own : IsLinkedRun p l run
  pub first : ℕ
  pub numbered : Numbered first run

module _ (p : Program) where
  pub chosen_at : (shards : List Shard) (linked : List Linked) (runs : List (List Walked)) (n : ℕ) → AllZip (StandsFor p.sections) shards runs → AllZip (IsLinkedRun p) linked runs → Numbered n (joined runs) → (k : ℕ) (s : Shard) (l : Linked) → slice_get shards k ≡ Some s → slice_get linked k ≡ Some l → Chosen p (joined runs) s l
  chosen_at [] linked runs n z y h k s l is its = absurd cc
  chosen_at (t ∷ shards) linked [] n z y h k s l is its = absurd z
  chosen_at (t ∷ shards) [] (run ∷ runs) n z y h k s l is its = absurd y
  chosen_at (t ∷ shards) (m ∷ linked) (run ∷ runs) n z y h zero s l is its = record {
    run = run;
    before = [];
    after = joined runs;
    is = refl;
    stands = subst (λ (x : Shard). StandsFor p.sections x run) (same_Some t s is) z.0;
    own = subst (λ (x : Linked). IsLinkedRun p x run) (same_Some m l its) y.0;
    first = n;
    numbered = numbered_front n run (joined runs) h;
  }
  chosen_at (t ∷ shards) (m ∷ linked) (run ∷ runs) n z y h (suc k) s l is its =
      let back = numbered_back n run (joined runs) h in
      let c = chosen_at shards linked runs back.0 z.1 y.1 back.1 k s l is its in
      record {
        run = c.run;
        before = run ++ c.before;
        after = c.after;
        is = ap (λ (ws : List Walked). run ++ ws) c.is ∙ sym (append_assoc run c.before (c.run ++ c.after));
        stands = c.stands;
        own = c.own;
        first = c.first;
        numbered = c.numbered;
      }

  -- a unit whose root the shard has is one of its run
  pub member_of : (ws : List Walked) (n : ℕ) → Numbered n ws → (w : Walked) → Contains ws w → (s : Shard) (l : Linked) (c : Chosen p ws s l) → is_some (root_in w.number s) ≡ true → Contains c.run w × (root_in w.number s ≡ Some (root_facts w))
  member_of ws n h w wc s l c on =
      let r = root_is p.sections s c.run w.number c.first c.stands c.numbered in
      let f = some_of root_facts (find (λ v. eqb v.number w.number) c.run) (ap is_some (sym r) ∙ on) in
      let g = find_some (λ (v : Walked). eqb v.number w.number) c.run f.0 f.1 in
      let vc : Contains ws f.0 = subst (λ (xs : List Walked). Contains xs f.0) (sym c.is) (Contains-append_right c.before (c.run ++ c.after) f.0 (Contains-append_left c.run c.after f.0 g.0)) in
      let number = eqb-true f.0.number w.number g.1 in
      let same : f.0 ≡ w = same_Some f.0 w (sym (find_number n ws f.0 h vc) ∙ ap (λ (k : ℕ). find (λ (x : Walked). eqb x.number k) ws) number ∙ find_number n ws w h wc) in
      (subst (Contains c.run) same g.0, r ∙ ap (option_map root_facts) f.1 ∙ ap (λ (x : Walked). Some (root_facts x)) same)

-- ---- headers

-- the header of a walk is that at its number
pub scan_unit : (ss : List Section) (n : ℕ) (us : List UnitHeader) (ws : List Walked) → AreScans ss n us ws → (w : Walked) → Contains ws w → (n ≤ w.number) × (slice_get us (w.number - n) ≡ Some w.unit)
scan_unit ss n [] [] h w c = absurd (omega (arith, c.1))
scan_unit ss n [] (v ∷ ws) h w c = absurd h
scan_unit ss n (u ∷ us) [] h w c = absurd h
scan_unit ss n (u ∷ us) (v ∷ ws) h w c =
    let parts = walk_parts ss (n, u) v (scanned_walked ss (n, u) v h.0).0 in
    ⊎_elim
    (λ (same : v ≡ w).
    let number : w.number ≡ n = ap (λ (x : Walked). x.number) (sym same) ∙ parts.0 in
    let zero_ : w.number - n ≡ 0 = omega (arith, number) in
    let unit : u ≡ w.unit = sym parts.1 ∙ ap (λ (x : Walked). x.unit) same in
    (omega (arith, number), ap (slice_get (u ∷ us)) zero_ ∙ ap {B = Option UnitHeader} (λ (x : UnitHeader). Some x) unit))
    (λ (l : Contains ws w).
    let r = scan_unit ss (n + 1) us ws h.1 w l in
    let more : w.number - n ≡ suc (w.number - (n + 1)) = omega (arith, r.0) in
    (omega (arith, r.0), ap (slice_get (u ∷ us)) more ∙ r.1))
    (contains_cases v ws w c)
