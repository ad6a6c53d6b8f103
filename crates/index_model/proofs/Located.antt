-- Entries beside their homes, and the order of their offsets.
use Rattle.std.proofs.Common.{◌≡◌, ℕ, suc, ◌<◌, List, [], ◌∷◌, flat_map, sym, ap, subst, arith, ⊎_elim}
use Rattle.std.specs.Prelude.{Contains}
use mathlib.Core.Logic.{◌⊎◌}
use Rattle.common_laws.proofs.Members.{contains_here, contains_later, of_map, of_flat_map}
use Rattle.index_model.specs.Sections.{Section}
use Rattle.index_model.specs.Walk.{Item}
use Rattle.index_model.specs.Program.{Walked, Located, items_of, located}
use Rattle.index_model.proofs.Pairs.{Pairs, pairs_append, pairs_map}
use Rattle.index_model.proofs.ParentLaws.{Rise, rise_below}
use Rattle.index_model.proofs.OrderLaws.{walk_rises, walks_in_order}
use Rattle.index_model.proofs.UnitsApart.{AreApart, IsWalk, pairs_cases}

abbrev pub at_home : Walked → Item → Located
at_home w d = record { home = w; item = d }

-- an entry of a unit has it as its home, and is one of its items
pub of_located : (w : Walked) (d : Located) → Contains (located w) d → (d.home ≡ w) × Contains (items_of w) d.item
of_located w d c =
    let m = of_map (at_home w) (items_of w) d c in
    (ap (λ (l : Located). l.home) (sym m.2), subst (Contains (items_of w)) (ap (λ (l : Located). l.item) m.2) m.1)

-- ---- offsets

abbrev pub Before : Located → Located → Type 0
Before a b = a.item.at < b.item.at

abbrev pub ItemsRise : Item → Item → Type 0
ItemsRise d e = d.at < e.at

pub items_rise : (n : ℕ) (ds : List Item) → Rise n ds → Pairs ItemsRise ds
items_rise n [] r = tt
items_rise n (d ∷ ds) r = (λ e c. rise_below (suc d.at) ds e r.1 c, items_rise (suc d.at) ds r.1)

module _ (ss : List Section) where
  own_pairs : (w : Walked) → IsWalk ss w → Pairs Before (located w)
  own_pairs w is = let r = walk_rises ss is.0 w is.1 in pairs_map Before (at_home w) (items_of w) (items_rise r.0 (items_of w) r.1)

  -- the offsets of all entries rise
  pub located_before : (ws : List Walked) → AreApart ss ws → Pairs Before (flat_map located ws)
  located_before [] h = tt
  located_before (w ∷ ws) h = pairs_append Before (located w) (flat_map located ws)
      (own_pairs w (h.walks w (contains_here w ws)))
      (located_before ws (record { apart = h.apart.1; walks = λ v c. h.walks v (contains_later w ws v c) }))
      (λ x y xc yc.
      let own = h.walks w (contains_here w ws) in
      let xl = of_located w x xc in
      let xi = (walks_in_order ss own.0 w own.1).inside x.item xl.1 in
      let m = of_flat_map located ws y yc in
      let other = h.walks m.0 (contains_later w ws m.0 m.1) in
      let yl = of_located m.0 y m.2 in
      let yi = (walks_in_order ss other.0 m.0 other.1).inside y.item yl.1 in
      let far = (h.apart.0 m.0 m.1).1 in
      omega (arith, xi.some, xi.ends, yi.begins, far))

-- entries at one offset are one
pub same_place : (ds : List Located) → Pairs Before ds → (a b : Located) → Contains ds a → Contains ds b → a.item.at ≡ b.item.at → a ≡ b
same_place ds h a b ac bc at = ⊎_elim
    (λ (same : a ≡ b). same)
    (λ (other : Before a b ⊎ Before b a). ⊎_elim (λ (lt : Before a b). absurd (omega (arith, at, lt))) (λ (gt : Before b a). absurd (omega (arith, at, gt))) other)
    (pairs_cases Before ds h a b ac bc)
