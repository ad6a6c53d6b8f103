-- What the walks of a file without a fault were made of.
use Rattle.std.proofs.Common.{◌≡◌, ℕ, ◌+◌, List, [], ◌∷◌, Option, Some, None, Result, Ok, refl, sym, ap, subst, ◌∙◌}
use Rattle.std.specs.Prelude.{codes}
use Rattle.std.specs.List.{enumerate_from}
use Rattle.ix_base.specs.declared.fault.Fault.{Fault}
use Rattle.ix_base.specs.declared.code.TheConstants.{BAD_ABBREVIATION}
use Rattle.index_model.specs.declared.unit.Unit.{Unit as UnitHeader}
use Rattle.index_model.specs.Meaning.{◌>>=◌, ◌>>◌, each, at_place, fault, some_or}
use Rattle.index_model.specs.Sections.{Section, section_bytes, sections_of}
use Rattle.index_model.specs.Abbreviations.{Abbrev, table}
use Rattle.index_model.specs.Walk.{walk_of}
use Rattle.index_model.specs.Units.{units_of}
use Rattle.index_model.specs.Program.{Walked, Program, walked, located, body}
use Rattle.index_model.specs.Strings.{Texts, texts_of}
use Rattle.index_model.specs.Faults.{none_or, scanned, scan_of, program_of}
use Rattle.index_model.proofs.Meanings.{bind_ok, then_ok, some_ok, same_ok}

-- the unit with its walk by these abbreviations
abbrev pub read : List Section → ℕ × UnitHeader → List Abbrev → Walked
read ss u a = record { number = u.0; unit = u.1; walk = walk_of u.1 a (body ss u.1) }

-- a walk is that by some abbreviations
pub walked_read : (ss : List Section) (u : ℕ × UnitHeader) (w : Walked) → walked ss u ≡ Ok w → (a : List Abbrev) × (read ss u a ≡ w)
unfolding walked
walked_read ss u w is = let p = some_ok (table (section_bytes ss (codes ".debug_abbrev")) u.1.«abbrev») (fault BAD_ABBREVIATION u.1.start) (λ a. Ok (read ss u a)) w is in (p.0, same_ok (read ss u p.0) w p.2)

none_ok : {B : Type 0} (o : Option Fault) (r : Result B Fault) (y : B) → (none_or o >> r) ≡ Ok y → (o ≡ None) × (r ≡ Ok y)
none_ok None r y is = (refl, is)
none_ok (Some f) r y is = absurd cc

abbrev texts : List Section → Walked → Result (List Texts) Fault
texts ss w = each (λ d. at_place d.item.at (texts_of ss d)) (located w)

abbrev tested : List Section → Walked → Result Walked Fault
tested ss w = none_or w.walk.end >> (texts ss w >> Ok w)

-- a unit that was scanned was walked, to its end
pub scanned_walked : (ss : List Section) (u : ℕ × UnitHeader) (w : Walked) → scanned ss u ≡ Ok w → (walked ss u ≡ Ok w) × (w.walk.end ≡ None)
unfolding scanned
scanned_walked ss u w is =
    let p = bind_ok (walked ss u) (tested ss) w is in
    let q = none_ok p.0.walk.end (texts ss p.0 >> Ok p.0) w p.2 in
    let e : p.0 ≡ w = same_ok p.0 w (then_ok (texts ss p.0) (Ok p.0) w q.1) in
    (subst (λ (v : Walked). walked ss u ≡ Ok v) e p.1, subst (λ (v : Walked). v.walk.end ≡ None) e q.0)

-- these walks are those of these units, the first of which has the number n
abbrev pub AreScans : List Section → ℕ → List UnitHeader → List Walked → Type 0
AreScans ss n [] [] = Unit {0}
AreScans ss n [] (w ∷ ws) = ⊥
AreScans ss n (u ∷ us) [] = ⊥
AreScans ss n (u ∷ us) (w ∷ ws) = (scanned ss (n, u) ≡ Ok w) × AreScans ss (n + 1) us ws

scans : (ss : List Section) (n : ℕ) (us : List UnitHeader) (ws : List Walked) → each (scanned ss) (enumerate_from n us) ≡ Ok ws → AreScans ss n us ws
scans ss n [] ws is = subst (AreScans ss n []) (same_ok [] ws is) tt
scans ss n (u ∷ us) ws is =
    let p = bind_ok (scanned ss (n, u)) _ ws is in
    let q = bind_ok (each (scanned ss) (enumerate_from (n + 1) us)) _ ws p.2 in
    subst (AreScans ss n (u ∷ us)) (same_ok (p.0 ∷ q.0) ws q.2) (p.1, scans ss (n + 1) us q.0 q.1)

-- a program is the sections, and the scans of the units
pub program_parts : (f : List ℕ) (p : Program) → program_of f ≡ Ok p → (us : List UnitHeader) × (sections_of f ≡ Ok p.sections) × (units_of p.sections ≡ Ok us) × AreScans p.sections 0 us p.walks
unfolding program_of scan_of
program_parts f p is =
    let a = bind_ok (sections_of f) _ p is in
    let b = bind_ok (units_of a.0) _ p a.2 in
    let c = bind_ok (scan_of a.0 b.0) _ p b.2 in
    let made : Program = record { sections = a.0; walks = c.0 } in
    subst (λ (x : Program). (us : List UnitHeader) × (sections_of f ≡ Ok x.sections) × (units_of x.sections ≡ Ok us) × AreScans x.sections 0 us x.walks) (same_ok made p c.2) (b.0, a.1, b.1, scans a.0 0 b.0 c.0 c.1)

-- a walk by the abbreviations of its unit
pub walked_by : (ss : List Section) (u : ℕ × UnitHeader) (a : List Abbrev) (w : Walked) → table (section_bytes ss (codes ".debug_abbrev")) u.1.«abbrev» ≡ Some a → walked ss u ≡ Ok w → read ss u a ≡ w
unfolding walked
walked_by ss u a w h is =
    let by : Option (List Abbrev) → Result Walked Fault = λ (o : Option (List Abbrev)). some_or o (fault BAD_ABBREVIATION u.1.start) >>= λ (b : List Abbrev). Ok (read ss u b) in
    same_ok (read ss u a) w (ap by (sym h) ∙ is)
