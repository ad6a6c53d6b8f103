-- The entries of a program rise, so an offset is that of one entry at most.
use Rattle.std.proofs.Common.{◌≡◌, ℕ, Bool, true, false, cond, eqb, List, [], ◌∷◌, ◌++◌, Option, Some, None, Ok, refl, sym, ap, subst, ◌∙◌, arith, ⊎_elim}
use Rattle.std.specs.Prelude.{Contains, find, flat_map}
use Rattle.std.proofs.lemmas.Bool.{true≢false, eqb-true, eq-eqb}
use Rattle.std.proofs.lemmas.List.Elements.{Contains-append_left, Contains-append_right}
use Rattle.std.proofs.lemmas.Option.{same_Some}
use mathlib.Core.Logic.{◌⊎◌}
use Rattle.common_laws.proofs.Members.{contains_here, contains_later, contains_cases, to_map, of_flat_map, to_flat_map, of_find}
use Rattle.index_model.specs.Faults.{program_of}
use Rattle.index_model.specs.Program.{Walked, Program, Located, items_of, located, item_with_offset}
use Rattle.index_model.specs.Shards.{IsRunOf}
use Rattle.index_model.specs.Walk.{Item}
use Rattle.index_model.proofs.UnitsApart.{pairs_cases, program_apart}
use Rattle.index_model.proofs.Located.{Before, of_located, located_before, at_home}

-- ---- what is found in a list

-- where nothing is found no member passes
pub find_none : {A : Type 0} (p : A → Bool) (xs : List A) → find p xs ≡ None → (y : A) → Contains xs y → p y ≡ true → ⊥
find_none p [] is y c t = omega (arith, c.1)
find_none {A = A} p (x ∷ xs) is y c t =
    elim (p x) as (λ b. p x ≡ b → cond b (Some x) (find p xs) ≡ None → ⊥) [
      | true ↦ λ on e. absurd cc
      | false ↦ λ off e. ⊎_elim
          (λ (same : x ≡ y). true≢false (sym t ∙ ap p (sym same) ∙ off))
          (λ (later : Contains xs y). find_none p xs e y later t)
          (contains_cases x xs y c)
    ] refl is

-- the only member that passes is found
pub find_only : {A : Type 0} (p : A → Bool) (xs : List A) (y : A) → Contains xs y → p y ≡ true → ((x : A) → Contains xs x → p x ≡ true → x ≡ y) → find p xs ≡ Some y
find_only p [] y c t only = absurd (omega (arith, c.1))
find_only {A = A} p (x ∷ xs) y c t only =
    elim (p x) as (λ b. p x ≡ b → cond b (Some x) (find p xs) ≡ Some y) [
      | true ↦ λ on. ap {B = Option A} (λ (z : A). Some z) (only x (contains_here x xs) on)
      | false ↦ λ off. ⊎_elim
          (λ (same : x ≡ y). absurd (true≢false (sym t ∙ ap p (sym same) ∙ off)))
          (λ (later : Contains xs y). find_only p xs y later t (λ z zc zt. only z (contains_later x xs z zc) zt))
          (contains_cases x xs y c)
    ] refl

-- ---- the entry at an offset

module _ (f : List ℕ) (p : Program) (is : program_of f ≡ Ok p) where
  abbrev pub all : List Located
  all = flat_map located p.walks

  abbrev pub at : ℕ → Located → Bool
  at o d = eqb d.item.at o

  -- an entry is the one at its offset
  pub is_at : (o : ℕ) (d : Located) → Contains all d → d.item.at ≡ o → item_with_offset p o ≡ Some d
  unfolding item_with_offset
  is_at o d c place = find_only (at o) all d c (eq-eqb d.item.at o place) (λ x xc xt.
      let here = eqb-true x.item.at o xt in
      ⊎_elim
      (λ (same : x ≡ d). same)
      (λ (apart : Before x d ⊎ Before d x). absurd (⊎_elim (λ (lt : Before x d). omega (arith, lt, here, place)) (λ (gt : Before d x). omega (arith, gt, here, place)) apart))
      (pairs_cases Before all (located_before p.sections p.walks (program_apart f p is)) x d xc c))

  -- the one at an offset is an entry
  pub stands_at : (o : ℕ) (d : Located) → item_with_offset p o ≡ Some d → Contains all d × (d.item.at ≡ o)
  unfolding item_with_offset
  stands_at o d found = let m = of_find (at o) all d found in (m.0, eqb-true d.item.at o m.1)

  -- it stands in one of the units
  pub home_of : (o : ℕ) (d : Located) → item_with_offset p o ≡ Some d → Contains p.walks d.home × Contains (items_of d.home) d.item × (d.item.at ≡ o)
  home_of o d found =
      let s = stands_at o d found in
      let v = of_flat_map located p.walks d s.0 in
      let m = of_located v.0 d v.2 in
      (subst (Contains p.walks) (sym m.0) v.1, subst (λ (w : Walked). Contains (items_of w) d.item) (sym m.0) m.1, s.1)

  -- an entry of a unit is the one at its offset
  pub item_is_at : (w : Walked) → Contains p.walks w → (d : Item) → Contains (items_of w) d → (o : ℕ) → d.at ≡ o → item_with_offset p o ≡ Some (at_home w d)
  item_is_at w wc d dc o place = is_at o (at_home w d) (to_flat_map located p.walks w (at_home w d) wc (to_map (at_home w) (items_of w) d dc)) place

  -- two entries at one offset are one
  pub one_place : (v w : Walked) → Contains p.walks v → Contains p.walks w → (x y : Item) → Contains (items_of v) x → Contains (items_of w) y → x.at ≡ y.at → at_home v x ≡ at_home w y
  one_place v w vc wc x y xc yc same = same_Some (at_home v x) (at_home w y) (sym (item_is_at v vc x xc y.at same) ∙ item_is_at w wc y yc y.at refl)

-- the units of a run are units of the program
pub in_program : (p : Program) (run : List Walked) → IsRunOf p run → (w : Walked) → Contains run w → Contains p.walks w
in_program p run part w c = subst (λ (ws : List Walked). Contains ws w) (sym part.is) (Contains-append_right part.before (run ++ part.after) w (Contains-append_left run part.after w c))
