-- The first entry of a unit is its root, and it says where the unit's line table begins.
use Rattle.std.proofs.Common.{◌≡◌, ℕ, ◌+◌, ◌-◌, ◌≤◌, eqb, length, take, drop, List, [], ◌∷◌, Option, Some, None, Result, Ok, Err, refl, sym, ap, ◌∙◌, arith, length-take}
use Rattle.std.specs.Prelude.{codes, find, option_and_then}
use Rattle.std.proofs.lemmas.List.{drop-drop, drop-take}
use Rattle.ix_base.specs.declared.code.TheConstants.{BAD_ABBREVIATION}
use Rattle.ix_base.specs.declared.fault.Fault.{Fault}
use Rattle.index_model.specs.Gives.{Stop}
use Rattle.ix_base.specs.declared.or_memory.OrMemory.TheVariants as stops
use Rattle.ix_base.specs.Reading.{Input}
use Rattle.index_model.specs.declared.unit.Unit.{Unit as UnitHeader}
use Rattle.index_model.specs.Abbreviations.{Abbrev, table}
use Rattle.index_model.specs.Attributes.{read_as}
use Rattle.index_model.specs.Gives.{StopsAs}
use Rattle.index_model.specs.Meaning.{fault, some_or}
use Rattle.index_model.specs.Program.{Walked, body, items_of, joint, root_of, walked}
use Rattle.index_model.specs.Sections.{Section, section_bytes}
use Rattle.index_model.specs.Walk.{Item, items, walk_of}
use Rattle.index_model.proofs.FirstEntry.{first_is_root}
use Rattle.index_model.proofs.Scans.{read}
use Rattle.entry_scan.specs.Inside.{tree_of}
use Rattle.file_image.specs.Images.{unit_bytes}
use Rattle.reach_model.specs.LineTables.{as_line_place, line_place}
use Rattle.line_files.specs.Places.{first_item, place_by, place_of}

-- ---- the root

module _ (ss : List Section) (u : ℕ × UnitHeader) (w : Walked) (is : walked ss u ≡ Ok w) where
  root_is_first : root_of w ≡ first_item (items_of w)
  root_is_first = by (items_of w) refl
    where
      by : (ds : List Item) → items_of w ≡ ds → root_of w ≡ first_item ds
      by [] none = ap (λ (ds : List Item). find (λ d. eqb d.depth 0) ds) none
      by (r ∷ rest) all = first_is_root ss u w is r rest all

-- ---- the place

-- the entries of a unit in its own bytes
tree_is : (ss : List Section) (u : UnitHeader) (bytes : List ℕ) → bytes ≡ unit_bytes ss u → u.body ≤ length bytes → tree_of u bytes ≡ body ss u
tree_is ss u bytes is le =
    let from : List ℕ = drop u.start (joint ss) in
    let within : u.body ≤ u.length = omega (arith, le, ap (λ (xs : List ℕ). length xs) is, length-take u.length from) in
    let parts : u.length ≡ u.body + (u.length - u.body) = omega (arith, within) in
    let rest : drop u.body bytes ≡ (body ss u).rest = ap (drop u.body) is ∙ ap (λ (n : ℕ). drop u.body (take n from)) parts ∙ drop-take u.body (u.length - u.body) from ∙ ap (take (u.length - u.body)) (drop-drop u.body u.start (joint ss)) in
    ap (λ (xs : List ℕ). let i : Input = record { at = u.start + u.body; rest = xs } in i) rest

module _ (ss : List Section) (u : ℕ × UnitHeader) where
  walked_with : (a : List Abbrev) → table (section_bytes ss (codes ".debug_abbrev")) u.1.«abbrev» ≡ Some a → walked ss u ≡ Ok (read ss u a)
  unfolding walked
  walked_with a found = rw found refl

  -- the place that the first entry says is that of the root
  pub place_is : (a : List Abbrev) (bytes : List ℕ) → table (section_bytes ss (codes ".debug_abbrev")) u.1.«abbrev» ≡ Some a → bytes ≡ unit_bytes ss u.1 → u.1.body ≤ length bytes →
      place_of ss u ≡ Ok (place_by u.1 a bytes)
  place_is a bytes found own header =
      let is = walked_with a found in
      let w : Walked = read ss u a in
      let by : Option Item → Option ℕ = option_and_then (read_as (as_line_place u.1.version) 0x10) in
      let here : line_place w ≡ by (first_item (items (walk_of u.1 a (body ss u.1)))) = ap by (root_is_first ss u w is) in
      rw is (ap {B = Result (Option ℕ) Fault} (λ (o : Option ℕ). Ok o) (here ∙ ap (λ (i : Input). by (first_item (items (walk_of u.1 a i)))) (sym (tree_is ss u.1 bytes own header))))

  -- damaged abbreviations are the fault of their unit
  pub place_stops : (bytes : List ℕ) (s : Stop) → bytes ≡ section_bytes ss (codes ".debug_abbrev") → StopsAs s (some_or (table bytes u.1.«abbrev») (fault BAD_ABBREVIATION u.1.start)) → StopsAs s (place_of ss u)
  unfolding walked
  place_stops bytes stops.Memory is h = tt
  place_stops bytes (stops.Cause f) is h =
      let here : some_or (table (section_bytes ss (codes ".debug_abbrev")) u.1.«abbrev») (fault BAD_ABBREVIATION u.1.start) ≡ Err f = ap (λ (xs : List ℕ). some_or (table xs u.1.«abbrev») (fault BAD_ABBREVIATION u.1.start)) (sym is) ∙ h in
      rw here refl

-- the abbreviations that are there
abbrev pub some_abbrevs : List Abbrev → Option (List Abbrev)
some_abbrevs a = Some a

-- a value that isn't missing is there
pub some_value : (o : Option (List Abbrev)) (f : Fault) (a : List Abbrev) → some_or o f ≡ Ok a → o ≡ Some a
some_value (Some b) f a is = cc
some_value None f a is = absurd cc
