-- The units of a program lie apart, one behind the other.
use Rattle.std.proofs.Common.{◌≡◌, ℕ, ◌+◌, ◌<◌, ◌≤◌, List, [], ◌∷◌, ◌++◌, length, drop, Ok, sym, ap, subst, arith, length-drop, inl, inr, ⊎_elim}
use Rattle.std.specs.Prelude.{Contains, codes}
use Rattle.std.proofs.lemmas.List.Elements.{Contains-append_left, Contains-append_right}
use mathlib.Core.Logic.{◌⊎◌}
use Rattle.common_laws.proofs.Members.{contains_here, contains_later, contains_cases}
use Rattle.ix_base.specs.Reading.{Input, input}
use Rattle.index_model.specs.declared.unit.Part.{Part}
use Rattle.index_model.specs.declared.unit.Part.TheVariants.{Info, Types}
use Rattle.index_model.specs.declared.unit.Unit.{Unit as UnitHeader}
use Rattle.index_model.specs.Sections.{Section, section_bytes}
use Rattle.index_model.specs.Tiling.{Tiles}
use Rattle.index_model.specs.Units.{next_unit, units_of}
use Rattle.index_model.specs.Program.{Walked, Program, walked}
use Rattle.index_model.specs.Faults.{program_of}
use Rattle.index_model.specs.Shards.{IsRunOf}
use Rattle.index_model.proofs.Pairs.{Pairs, pairs_append}
use Rattle.index_model.proofs.UnitReads.{unit_takes}
use Rattle.index_model.proofs.UnitTilingLaws.{units_tile}
use Rattle.index_model.proofs.Scans.{walked_read, scanned_walked, AreScans, program_parts}

-- ---- parts of a list

module _ {A : Type 0} (R : A → A → Type 0) where
  pub pairs_front : (xs ys : List A) → Pairs R (xs ++ ys) → Pairs R xs
  pairs_front [] ys h = tt
  pairs_front (x ∷ xs) ys h = (λ y c. h.0 y (Contains-append_left xs ys y c), pairs_front xs ys h.1)

  pub pairs_back : (xs ys : List A) → Pairs R (xs ++ ys) → Pairs R ys
  pairs_back [] ys h = h
  pairs_back (x ∷ xs) ys h = pairs_back xs ys h.1

  -- two members are one, or one of them comes first
  pub pairs_cases : (xs : List A) → Pairs R xs → (x y : A) → Contains xs x → Contains xs y → (x ≡ y) ⊎ (R x y ⊎ R y x)
  pairs_cases [] h x y xc yc = absurd (omega (arith, xc.1))
  pairs_cases (z ∷ zs) h x y xc yc = ⊎_elim
      (λ (zx : z ≡ x). ⊎_elim
      (λ (zy : z ≡ y). inl (subst (λ (w : A). w ≡ y) zx zy))
      (λ (yl : Contains zs y). inr (inl (subst (λ (w : A). R w y) zx (h.0 y yl))))
      (contains_cases z zs y yc))
      (λ (xl : Contains zs x). ⊎_elim
      (λ (zy : z ≡ y). inr (inr (subst (λ (w : A). R w x) zy (h.0 x xl))))
      (λ (yl : Contains zs y). pairs_cases zs h.1 x y xl yl)
      (contains_cases z zs y yc))
      (contains_cases z zs x xc)

-- ---- units

-- the second unit begins where the first ends, or later
abbrev ApartUnits : UnitHeader → UnitHeader → Type 0
ApartUnits u v = u.start + u.length ≤ v.start

-- the unit lies in the bytes that are left
abbrev Lies : ℕ → Input → UnitHeader → Type 0
Lies base i u = (base + i.at ≤ u.start) × (u.start + u.length ≤ base + i.at + length i.rest)

tiles_apart : (section : Part) (base k : ℕ) (i : Input) (us : List UnitHeader) → Tiles (next_unit section base) k i us → Pairs ApartUnits us × ((u : UnitHeader) → Contains us u → Lies base i u)
tiles_apart section base k i [] t = (tt, λ u c. absurd (omega (arith, c.1)))
tiles_apart section base k i (u ∷ us) t =
    let h = unit_takes section base k i (u, t.1) t.2 in
    let r = tiles_apart section base (k + 1) t.1 us t.3 in
    let at : i.at + u.length ≡ t.1.at = ap (λ (x : Input). x.at) h.passes.on in
    let rest : length (drop u.length i.rest) ≡ length t.1.rest = ap (λ (x : Input). length x.rest) h.passes.on in
    let cut = length-drop u.length i.rest in
    let there : u.length ≤ length i.rest = h.passes.there in
    let start : u.start ≡ base + i.at = h.start in (
      (λ v c. let l = r.1 v c in omega (arith, l.0, at, start), r.0),
      λ v c. ⊎_elim
          (λ (same : u ≡ v). subst (Lies base i) same (omega (arith, start), omega (arith, start, there)))
          (λ (later : Contains us v). let l = r.1 v later in (omega (arith, l.0, at), omega (arith, l.1, at, rest, cut, there)))
          (contains_cases u us v c),
    )

units_apart : (ss : List Section) (us : List UnitHeader) → units_of ss ≡ Ok us → Pairs ApartUnits us
units_apart ss us is =
    let info = section_bytes ss (codes ".debug_info") in
    let types = section_bytes ss (codes ".debug_types") in
    let t = (units_tile ss us).0 is in
    let a = tiles_apart Info 0 0 (input info 0) t.infos t.in_info in
    let b = tiles_apart Types (length info) (length t.infos) (input types 0) t.others t.in_types in
    subst (Pairs ApartUnits) (sym t.all) (pairs_append ApartUnits t.infos t.others a.0 b.0 (λ u v uc vc. let x = (a.1 u uc).1 in let y = (b.1 v vc).0 in omega (arith, x, y)))

-- ---- walks

-- the second unit has a higher number, and begins where the first ends or later
abbrev pub Apart : Walked → Walked → Type 0
Apart v w = (v.number < w.number) × (v.unit.start + v.unit.length ≤ w.unit.start)

-- the walk is that of a unit
abbrev pub IsWalk : List Section → Walked → Type 0
IsWalk ss w = (u : ℕ × UnitHeader) × (walked ss u ≡ Ok w)

pub walk_parts : (ss : List Section) (u : ℕ × UnitHeader) (w : Walked) → walked ss u ≡ Ok w → (w.number ≡ u.0) × (w.unit ≡ u.1)
walk_parts ss u w is = let r = walked_read ss u w is in (ap (λ (x : Walked). x.number) (sym r.1), ap (λ (x : Walked). x.unit) (sym r.1))

-- a walk of these units, the first of which has the number n
record IsOne (ss : List Section) (n : ℕ) (us : List UnitHeader) (w : Walked) : Type 0 where
  walk : IsWalk ss w
  unit : Contains us w.unit
  number : n ≤ w.number

scans_apart : (ss : List Section) (n : ℕ) (us : List UnitHeader) (ws : List Walked) → AreScans ss n us ws → Pairs ApartUnits us → Pairs Apart ws × ((w : Walked) → Contains ws w → IsOne ss n us w)
scans_apart ss n [] [] s p = (tt, λ w c. absurd (omega (arith, c.1)))
scans_apart ss n [] (w ∷ ws) s p = absurd s
scans_apart ss n (u ∷ us) [] s p = absurd s
scans_apart ss n (u ∷ us) (w ∷ ws) s p =
    let own = (scanned_walked ss (n, u) w s.0).0 in
    let parts = walk_parts ss (n, u) w own in
    let number : w.number ≡ n = parts.0 in
    let unit : w.unit ≡ u = parts.1 in
    let r = scans_apart ss (n + 1) us ws s.1 p.1 in (
      (λ v c. let o = r.1 v c in (omega (arith, number, o.number), subst (λ (x : UnitHeader). x.start + x.length ≤ v.unit.start) (sym unit) (p.0 v.unit o.unit)), r.0),
      λ v c. ⊎_elim
          (λ (same : w ≡ v). subst (IsOne ss n (u ∷ us)) same (record { walk = ((n, u), own); unit = subst (Contains (u ∷ us)) (sym unit) (contains_here u us); number = omega (arith, number) }))
          (λ (later : Contains ws v). let o = r.1 v later in record { walk = o.walk; unit = contains_later u us v.unit o.unit; number = omega (arith, o.number) })
          (contains_cases w ws v c),
    )

-- what holds of the walks of consecutive units
pub record AreApart (ss : List Section) (run : List Walked) : Type 0 where
  pub apart : Pairs Apart run
  pub walks : (w : Walked) → Contains run w → IsWalk ss w

pub program_apart : (f : List ℕ) (p : Program) → program_of f ≡ Ok p → AreApart p.sections p.walks
program_apart f p is =
    let a = program_parts f p is in
    let r = scans_apart p.sections 0 a.0 p.walks a.3 (units_apart p.sections a.0 a.2) in
    record { apart = r.0; walks = λ w c. (r.1 w c).walk }

pub run_apart : (f : List ℕ) (p : Program) (run : List Walked) → program_of f ≡ Ok p → IsRunOf p run → AreApart p.sections run
run_apart f p run is r =
    let a = subst (AreApart p.sections) r.is (program_apart f p is) in
    record {
      apart = pairs_front Apart run r.after (pairs_back Apart r.before (run ++ r.after) a.apart);
      walks = λ w c. a.walks w (Contains-append_right r.before (run ++ r.after) w (Contains-append_left run r.after w c));
    }
