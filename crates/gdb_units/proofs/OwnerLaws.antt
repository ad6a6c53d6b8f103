-- The owners that were found are those of the program.
use Rattle.std.proofs.Common.{◌≡◌, ℕ, zero, suc, ◌<◌, ◌≤◌, Bool, true, false, not, cond, eqb, ◌&&◌, ◌||◌, List, [], ◌∷◌, length, map, Option, Some, None, Ok, refl, sym, ap, subst, ◌∙◌, arith, inl, inr, ⊎_elim}
use Rattle.std.specs.Prelude.{Contains, find, slice_get}
use Rattle.std.specs.Option.{option_map}
use Rattle.std.specs.List.{list_any}
use Rattle.std.proofs.lemmas.Bool.{true≢false, eq-eqb, eqb-true, and_parts, and_from, or_cases, not-true}
use Rattle.std.proofs.lemmas.Option.{same_Some, slice_get-map, slice_get_within}
use Rattle.index_model.specs.declared.shard.Import.{Import}
use Rattle.index_model.specs.Program.{Walked, Program}
use Rattle.index_model.specs.Faults.{program_of}
use Rattle.index_model.proofs.UnitsApart.{program_apart}
use Rattle.index_model.proofs.ShardRoots.{program_numbered}
use Rattle.gdb_entries.specs.Owners.{is_partial, imported_by, imports_through, owner_of}
use Rattle.gdb_units.specs.declared.units.UnitRoot.{UnitRoot}
use Rattle.gdb_units.specs.Given.{root_facts, AreOwnersFor}
use Rattle.gdb_units.specs.Imported.{RootsRise, targets_of}
use Rattle.gdb_units.specs.Spread.{owner_at, partial_of, is_partial_at, Leads, OwnedBelow}
use Rattle.gdb_units.proofs.AnyLaws.{any_on, any_of, find_first, find_none, place_of, member_at, item_within, map_by_place}
use Rattle.gdb_units.proofs.RootLaws.{kept_rise}
use Rattle.gdb_units.proofs.EdgeLaws.{number_at, of_imported, to_target, of_target}
use Rattle.gdb_units.proofs.ClaimLaws.{no_both}

through_none : (p : Program) (w v : Walked) → imports_through 0 p w v ≡ false
unfolding imports_through
through_none p w v = refl

through_more : (n : ℕ) (p : Program) (w v : Walked) → imports_through (suc n) p w v ≡ list_any (λ u. eqb u.number v.number || imports_through n p u v) (imported_by p w)
unfolding imports_through
through_more n p w v = refl

-- of the units this one comes to another, and isn't partial
abbrev Owns : Program → Walked → Walked → Bool
Owns p v w = not (is_partial w) && imports_through (length p.walks) p w v

owner_is : (p : Program) (v : Walked) → owner_of p v ≡ cond (is_partial v) (find (Owns p v) p.walks) (Some v)
unfolding owner_of
owner_is p v = refl

partial_is : (ws : List Walked) (k : ℕ) (w : Walked) → slice_get ws k ≡ Some w → is_partial_at (map root_facts ws) k ≡ is_partial w
unfolding root_facts
partial_is ws k w is = ap partial_of (slice_get-map root_facts ws k ∙ ap (option_map root_facts) is)

told_long : (ws : List Walked) → length (map root_facts ws) ≡ length ws
told_long [] = refl
told_long (w ∷ ws) = omega (arith, told_long ws)

from_not : (b : Bool) → b ≡ false → not b ≡ true
from_not true e = absurd (true≢false e)
from_not false e = refl

on_right : (a b : Bool) → b ≡ true → (a || b) ≡ true
on_right true b e = refl
on_right false b e = e

on_left : (a b : Bool) → a ≡ true → (a || b) ≡ true
on_left true b e = refl
on_left false b e = absurd (true≢false (sym e))

module _ (f : List ℕ) (p : Program) (file : program_of f ≡ Ok p) (units : List UnitRoot) (imports : List Import) (told : units ≡ map root_facts p.walks) (targets : ℕ → List ℕ)
    (edges : (x : Walked) → Contains p.walks x → (u : Walked) → Contains (imported_by p x) u → Contains (targets x.number) u.number)
    (only : (x : Walked) → Contains p.walks x → (t : ℕ) → Contains (targets x.number) t → (u : Walked) × Contains (imported_by p x) u × (u.number ≡ t)) where
  -- ---- ways

  ways_to : (m : ℕ) (x v : Walked) → Contains p.walks x → imports_through m p x v ≡ true → Leads targets m x.number v.number
  ways_to zero x v xc on = absurd (true≢false (sym on ∙ through_none p x v))
  ways_to (suc m) x v xc on =
      let u = any_of (λ (w : Walked). eqb w.number v.number || imports_through m p w v) (imported_by p x) (sym (through_more m p x v) ∙ on) in
      let there = (of_imported f p file x u.0 u.1).0 in (
        u.0.number,
        edges x xc u.0 u.1,
        ⊎_elim
            (λ (same : eqb u.0.number v.number ≡ true). inl (eqb-true u.0.number v.number same))
            (λ (far : imports_through m p u.0 v ≡ true). inr (ways_to m u.0 v there far))
            (or_cases (eqb u.0.number v.number) (imports_through m p u.0 v) u.2),
      )

  ways_of : (m : ℕ) (x v : Walked) → Contains p.walks x → Leads targets m x.number v.number → imports_through m p x v ≡ true
  ways_of zero x v xc l = absurd l
  ways_of (suc m) x v xc l =
      let u = only x xc l.0 l.1 in
      let there = (of_imported f p file x u.0 u.1).0 in
      through_more m p x v ∙ any_on (λ (w : Walked). eqb w.number v.number || imports_through m p w v) (imported_by p x) u.0 u.1 (⊎_elim
      (λ (same : l.0 ≡ v.number). on_left (eqb u.0.number v.number) (imports_through m p u.0 v) (eq-eqb u.0.number v.number (u.2 ∙ same)))
      (λ (far : Leads targets m l.0 v.number). on_right (eqb u.0.number v.number) (imports_through m p u.0 v) (ways_of m u.0 v there (subst (λ (n : ℕ). Leads targets m n v.number) (sym u.2) far)))
      l.2)

  -- ---- places

  number : (k : ℕ) (w : Walked) → slice_get p.walks k ≡ Some w → w.number ≡ k
  number k w is = omega (arith, number_at 0 k p.walks w (program_numbered f p file) is)

  long : length units ≡ length p.walks
  long = ap (λ (us : List UnitRoot). length us) told ∙ told_long p.walks

  partial_at : (k : ℕ) (w : Walked) → slice_get p.walks k ≡ Some w → is_partial_at units k ≡ is_partial w
  partial_at k w is = ap (λ (us : List UnitRoot). is_partial_at us k) told ∙ partial_is p.walks k w is

  targets_partial : (u t : ℕ) → u < length units → Contains (targets u) t → is_partial_at units t ≡ true
  targets_partial u t lt c =
      let x = item_within p.walks u (omega (arith, lt, long)) in
      let xc = member_at p.walks u x.0 x.1 in
      let v = only x.0 xc t (subst (λ (n : ℕ). Contains (targets n) t) (sym (number u x.0 x.1)) c) in
      let m = of_imported f p file x.0 v.0 v.1 in
      let k = place_of p.walks v.0 m.0 in
      let same : k.0 ≡ t = sym (number k.0 v.0 k.1) ∙ v.2 in
      ap (is_partial_at units) (sym same) ∙ partial_at k.0 v.0 k.1 ∙ m.1

  -- ---- the owner at a place

  module _ (owners : List (Option ℕ)) (b : OwnedBelow (length units) units targets owners) (k : ℕ) (w : Walked) (is : slice_get p.walks k ≡ Some w) where
    within : k < length units
    within = omega (arith, slice_get_within p.walks k w is, long)

    -- who passes owns it, or one before
    passed : (j : ℕ) (y : Walked) → slice_get p.walks j ≡ Some y → Owns p w y ≡ true → (o : ℕ) × (o ≤ j) × (owner_at owners k ≡ Some o)
    passed j y at on =
        let both = and_parts (not (is_partial y)) (imports_through (length p.walks) p y w) on in
        let whole = partial_at j y at ∙ not-true (is_partial y) both.0 in
        let l = ways_to (length p.walks) y w (member_at p.walks j y at) both.1 in
        let way : Leads targets (length p.walks) j k = subst (λ (n : ℕ). Leads targets (length p.walks) n k) (number j y at) (subst (λ (n : ℕ). Leads targets (length p.walks) y.number n) (number k w is) l) in
        b.first targets_partial (length p.walks) k j (omega (arith, slice_get_within p.walks j y at, long)) whole way

    owner_found : is_partial w ≡ true → (o : ℕ) → owner_at owners k ≡ Some o → option_map (λ x. x.number) (find (Owns p w) p.walks) ≡ Some o
    owner_found partial o e =
        let l = b.leads k o (partial_at k w is ∙ partial) e in
        let x = item_within p.walks o (omega (arith, l.0, long)) in
        let whole : is_partial x.0 ≡ false = sym (partial_at o x.0 x.1) ∙ l.1 in
        let numbers = number o x.0 x.1 in
        let way : Leads targets (length p.walks) x.0.number w.number = subst (λ (n : ℕ). Leads targets (length p.walks) n w.number) (sym numbers) (subst (λ (n : ℕ). Leads targets (length p.walks) o n) (sym (number k w is)) (subst (λ (n : ℕ). Leads targets n o k) long l.2)) in
        let passes : Owns p w x.0 ≡ true = and_from (not (is_partial x.0)) (imports_through (length p.walks) p x.0 w) (from_not (is_partial x.0) whole) (ways_of (length p.walks) x.0 w (member_at p.walks o x.0 x.1) way) in
        let first = find_first (Owns p w) p.walks o x.0 x.1 passes (λ j y lt at. none_before j y lt at (Owns p w y) refl) in
        ap (option_map (λ (v : Walked). v.number)) first ∙ ap (λ (n : ℕ). Some n) numbers
      where
        none_before : (j : ℕ) (y : Walked) → j < o → slice_get p.walks j ≡ Some y → (c : Bool) → Owns p w y ≡ c → Owns p w y ≡ false
        none_before j y lt at false off = off
        none_before j y lt at true on =
            let r = passed j y at on in
            let same : o ≡ r.0 = same_Some o r.0 (sym e ∙ r.2) in
            absurd (omega (arith, lt, same, r.1))

    owner_missed : owner_at owners k ≡ None → find (Owns p w) p.walks ≡ None
    owner_missed e = find_none (Owns p w) p.walks (λ j y at. none j y at (Owns p w y) refl)
      where
        none : (j : ℕ) (y : Walked) → slice_get p.walks j ≡ Some y → (c : Bool) → Owns p w y ≡ c → Owns p w y ≡ false
        none j y at false off = off
        none j y at true on = let r = passed j y at on in absurd (no_both (owner_at owners k) r.0 e r.2)

    owner_right : owner_at owners k ≡ option_map (λ o. o.number) (owner_of p w)
    owner_right = by (is_partial w) refl
      where
        answer : Bool → Option ℕ
        answer c = option_map (λ (o : Walked). o.number) (cond c (find (Owns p w) p.walks) (Some w))

        by_owner : is_partial w ≡ true → (o : Option ℕ) → owner_at owners k ≡ o → o ≡ option_map (λ x. x.number) (find (Owns p w) p.walks)
        by_owner partial None e = sym (ap (option_map (λ (v : Walked). v.number)) (owner_missed e))
        by_owner partial (Some o) e = sym (owner_found partial o e)

        by : (c : Bool) → is_partial w ≡ c → owner_at owners k ≡ option_map (λ o. o.number) (owner_of p w)
        by true e = by_owner e (owner_at owners k) refl ∙ sym (ap answer e) ∙ sym (ap (option_map (λ (v : Walked). v.number)) (owner_is p w))
        by false e = b.alone k within (partial_at k w is ∙ e) ∙ ap (λ (n : ℕ). Some n) (sym (number k w is)) ∙ sym (ap answer e) ∙ sym (ap (option_map (λ (v : Walked). v.number)) (owner_is p w))

-- owners by what each unit imports are those of any program of which these units and imports are told
pub owners_right : (units : List UnitRoot) (imports : List Import) (targets : ℕ → List ℕ) (owners : List (Option ℕ)) → (RootsRise units → (u : ℕ) → u < length units → targets u ≡ targets_of units u imports) → OwnedBelow (length units) units targets owners → AreOwnersFor units imports owners
owners_right units imports targets owners are b f p file told given =
    let rise : RootsRise units = subst RootsRise (sym told) (kept_rise p.sections p.walks (program_apart f p file)) in
    let same : (x : Walked) → Contains p.walks x → targets x.number ≡ targets_of units x.number imports = λ x xc.
    let k = place_of p.walks x xc in
    let n = number_at 0 k.0 p.walks x (program_numbered f p file) k.1 in
    are rise x.number (omega (arith, n, slice_get_within p.walks k.0 x k.1, ap (λ (us : List UnitRoot). length us) told ∙ told_long p.walks)) in
    let alike : (x : Walked) → targets_of units x.number imports ≡ targets_of (map root_facts p.walks) x.number imports = λ x. ap (λ (us : List UnitRoot). targets_of us x.number imports) told in
    let all : (x : Walked) → Contains p.walks x → targets x.number ≡ targets_of (map root_facts p.walks) x.number _ = λ x xc. same x xc ∙ alike x ∙ ap (targets_of (map root_facts p.walks) x.number) given in
    map_by_place (λ w. option_map (λ (o : Walked). o.number) (owner_of p w)) p.walks owners
    (b.long ∙ ap (λ (us : List UnitRoot). length us) told ∙ told_long p.walks)
    (λ k w is. owner_right f p file units imports told targets
    (λ x xc u uc. subst (λ (ts : List ℕ). Contains ts u.number) (sym (all x xc)) (to_target f p file x u xc uc))
    (λ x xc t c. of_target f p file x t xc (subst (λ (ts : List ℕ). Contains ts t) (all x xc) c))
    owners b k w is)
