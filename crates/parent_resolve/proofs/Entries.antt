-- The entries of a program: an offset is that of one entry.
use Rattle.std.proofs.Common.{◌≡◌, ℕ, ◌<◌, Bool, true, false, cond, eqb, List, [], ◌∷◌, flat_map, Option, Some, None, Ok, option_map, refl, sym, ap, subst, ◌∙◌, arith, ⊎_elim}
use Rattle.std.specs.Prelude.{Contains, find}
use Rattle.std.proofs.lemmas.Bool.{eqb-true, eq-eqb, ne_eqb, cases_eq}
use Rattle.std.proofs.lemmas.Option.{same_Some}
use Rattle.common_laws.proofs.Members.{contains_here, contains_later, contains_cases, to_map, of_flat_map, to_flat_map}
use Rattle.index_model.specs.Faults.{program_of}
use Rattle.index_model.specs.Program.{Walked, Program, Located, items_of, located, scope_around, item_with_offset}
use Rattle.index_model.specs.Walk.{Item, parent_of}
use Rattle.index_model.specs.Sections.{Section}
use Rattle.index_model.specs.LawsOrder.{IsInOrder}
use Rattle.index_model.proofs.Pairs.{Pairs}
use Rattle.index_model.proofs.OrderLaws.{walks_in_order}
use Rattle.index_model.proofs.UnitsApart.{IsWalk, program_apart}
use Rattle.index_model.proofs.Located.{Before, at_home, of_located, located_before}
use Rattle.parent_resolve.specs.Followed.{all_entries}

module _ (ss : List Section) where
  pub order : (w : Walked) → IsWalk ss w → IsInOrder w
  order w walk = walks_in_order ss walk.0 w walk.1

-- ---- an entry by its offset

abbrev with_offset : ℕ → Located → Bool
with_offset o d = eqb d.item.at o

abbrev some_entry : Located → Option Located
some_entry d = Some d

-- of entries that rise each is found at its offset
pub found_at : (ds : List Located) → Pairs Before ds → (d : Located) → Contains ds d → find (with_offset d.item.at) ds ≡ Some d
found_at [] rise d c = absurd (omega (arith, c.1))
found_at (x ∷ xs) rise d c =
    let rest : Option Located = find (with_offset d.item.at) xs in
    ⊎_elim
    (λ (same : x ≡ d). ap (λ (b : Bool). cond b (Some x) rest) (eq-eqb x.item.at d.item.at (ap (λ (e : Located). e.item.at) same)) ∙ ap some_entry same)
    (λ (later : Contains xs d).
    let lt = rise.0 d later in
    ap (λ (b : Bool). cond b (Some x) rest) (ne_eqb x.item.at d.item.at (λ e. omega (arith, lt, e))) ∙ found_at xs rise.1 d later)
    (contains_cases x xs d c)

-- what is found has the offset
pub found_has : (o : ℕ) (ds : List Located) (d : Located) → find (with_offset o) ds ≡ Some d → Contains ds d × (d.item.at ≡ o)
found_has o [] d is = absurd cc
found_has o (x ∷ xs) d is =
    elim (eqb x.item.at o) as (λ b. eqb x.item.at o ≡ b → cond b (Some x) (find (with_offset o) xs) ≡ Some d → Contains (x ∷ xs) d × (d.item.at ≡ o)) [
      | true ↦ λ yes h.
          let same : x ≡ d = same_Some x d h in
          (subst (Contains (x ∷ xs)) same (contains_here x xs), subst (λ (e : Located). e.item.at ≡ o) same (eqb-true x.item.at o yes))
      | false ↦ λ no h. let r = found_has o xs d h in (contains_later x xs d r.0, r.1)
    ] refl is

-- the unit of an entry of these units
pub home_of : (ws : List Walked) (d : Located) → Contains (flat_map located ws) d → Contains ws d.home × Contains (items_of d.home) d.item
home_of ws d c =
    let m = of_flat_map located ws d c in
    let u = of_located m.0 d m.2 in
    (subst (Contains ws) (sym u.0) m.1, subst (λ (w : Walked). Contains (items_of w) d.item) (sym u.0) u.1)

-- the unit of an entry
pub home_in : (p : Program) (d : Located) → Contains (all_entries p) d → Contains p.walks d.home × Contains (items_of d.home) d.item
home_in p d c = home_of p.walks d c

-- an item of one of these units is an entry of them
pub entry_of : (ws : List Walked) (w : Walked) (d : Item) → Contains ws w → Contains (items_of w) d → Contains (flat_map located ws) (at_home w d)
entry_of ws w d wc dc = to_flat_map located ws w (at_home w d) wc (to_map (at_home w) (items_of w) d dc)

-- an item of a unit is an entry
pub entry_in : (p : Program) (w : Walked) (d : Item) → Contains p.walks w → Contains (items_of w) d → Contains (all_entries p) (at_home w d)
entry_in p w d wc dc = entry_of p.walks w d wc dc

-- what is found at an offset is an entry of the program and has that offset
pub found_entry : (p : Program) (o : ℕ) (d : Located) → item_with_offset p o ≡ Some d → Contains (all_entries p) d × (d.item.at ≡ o)
unfolding item_with_offset
found_entry p o d is = found_has o (all_entries p) d is

-- a parent in a unit whose entries are in order
pub record IsAbove (w : Walked) (d e : Item) : Type 0 where
  pub member : Contains (items_of w) e
  pub earlier : e.at < d.at
  pub below : 0 < d.depth

pub above : (w : Walked) → IsInOrder w → (d : Item) → Contains (items_of w) d → (e : Item) → parent_of (items_of w) d ≡ Some e → IsAbove w d e
above w o d c e is = ⊎_elim
    (λ (top : d.depth ≡ 0). let none : None ≡ Some e = sym (o.root d c top).1 ∙ is in absurd cc)
    (λ (below : d.depth ≡ 0 → ⊥).
    let deep : 0 < d.depth = omega (arith, below) in
    let m = o.parents d c deep in
    let same : m.parent ≡ e = same_Some m.parent e (sym m.is ∙ is) in
    record { member = subst (Contains (items_of w)) same m.member; earlier = subst (λ (x : Item). x.at < d.at) same m.earlier; below = deep })
    (cases_eq d.depth 0)

-- an entry without a parent is a root
pub top : (w : Walked) → IsInOrder w → (d : Item) → Contains (items_of w) d → parent_of (items_of w) d ≡ None → d.depth ≡ 0
top w o d c is = ⊎_elim
    (λ (zero_ : d.depth ≡ 0). zero_)
    (λ (below : d.depth ≡ 0 → ⊥). let m = o.parents d c (omega (arith, below)) in let never : Some m.parent ≡ None = sym m.is ∙ is in absurd cc)
    (cases_eq d.depth 0)

module _ (f : List ℕ) (p : Program) (file : program_of f ≡ Ok p) where
  pub entries_rise : Pairs Before (all_entries p)
  entries_rise = located_before p.sections p.walks (program_apart f p file)

  -- an entry of the program is found at its own offset
  pub entry_found : (d : Located) → Contains (all_entries p) d → item_with_offset p d.item.at ≡ Some d
  unfolding item_with_offset
  entry_found d c = found_at (all_entries p) entries_rise d c

  -- two entries with one offset are one
  pub entry_once : (d e : Located) → Contains (all_entries p) d → Contains (all_entries p) e → d.item.at ≡ e.item.at → d ≡ e
  entry_once d e dc ec same = same_Some d e (sym (entry_found d dc) ∙ ap (item_with_offset p) same ∙ entry_found e ec)

  pub unit_in_order : (w : Walked) → Contains p.walks w → IsInOrder w
  unit_in_order w c = order p.sections w ((program_apart f p file).walks w c)

  parent_in : (d : Located) → Contains (all_entries p) d → (e : Item) → parent_of (items_of d.home) d.item ≡ Some e → Contains (items_of d.home) e
  parent_in d c e is = let h = home_in p d c in (above d.home (unit_in_order d.home h.0) d.item h.1 e is).member

  -- the scope around an entry is an entry of the same unit
  pub scope_there : (d : Located) → Contains (all_entries p) d → (m : Located) → scope_around d ≡ Some m → Contains (all_entries p) m × (m.home ≡ d.home)
  scope_there d c m is = by (parent_of (items_of d.home) d.item) refl is
    where
      by : (o : Option Item) → parent_of (items_of d.home) d.item ≡ o → option_map (at_home d.home) o ≡ Some m → Contains (all_entries p) m × (m.home ≡ d.home)
      by None e h = absurd cc
      by (Some x) e h =
          let same : at_home d.home x ≡ m = same_Some (at_home d.home x) m h in
          (subst (Contains (all_entries p)) same (entry_in p d.home x (home_in p d c).0 (parent_in d c x e)), ap (λ (l : Located). l.home) (sym same))
