-- What hangs on the sections of the units alone is the same: the units, what their references name, and their languages.
use Rattle.std.proofs.Common.{◌≡◌, ℕ, cond, ◌&&◌, eqb, List, filter, find, Option, Some, None, Ok, refl, ap, ◌∙◌, unwrap_or}
use Rattle.std.specs.Prelude.{codes, filter_map, option_and_then, is_some}
use Rattle.std.specs.List.{list_any}
use Rattle.std.specs.Option.{option_or}
use Rattle.ix_base.specs.Reading.{Input}
use Rattle.ix_base.specs.declared.code.TheConstants.{BAD_ABBREVIATION}
use Rattle.index_model.specs.declared.unit.Unit.{Unit as UnitHeader}
use Rattle.index_model.specs.declared.rules.Class.{Class}
use Rattle.index_model.specs.Meaning.{fault}
use Rattle.index_model.specs.Sections.{Section, section_bytes}
use Rattle.index_model.specs.Abbreviations.{Abbrev, table}
use Rattle.index_model.specs.Attributes.{Reference, import_of}
use Rattle.index_model.specs.Tags.{imported_unit, partial_unit}
use Rattle.index_model.specs.Walk.{Item, walk_of}
use Rattle.index_model.specs.Units.{units_of}
use Rattle.index_model.specs.Program.{Walked, Program, body, walked, items_of, located, root_of}
use Rattle.index_model.specs.References.{target_of}
use Rattle.index_model.specs.Languages.{own_language, imports_of, importing_language, language_by_import, language_of, class_of, class_of_unit}
use Rattle.index_model.specs.Rules.{is_in_table, is_visited, is_ada}
use Rattle.index_model.specs.Links.{followed}
use Rattle.grown_alike.specs.Grown.{Grows}
use Rattle.grown_alike.proofs.Kept.{SomeStays, Keeps, keeps_then, read_stays}
use Rattle.grown_alike.proofs.Tables.{table_stays}

-- the program with these walks
abbrev pub with_walks : List Section → List Walked → Program
with_walks ss ws = record { sections = ss; walks = ws }

module _ (first second : List Section) (grows : Grows first second) where
  pub same_units : units_of second ≡ units_of first
  unfolding units_of
  same_units = rw (grows.info, grows.types) refl

  same_body : (u : UnitHeader) → body second u ≡ body first u
  same_body u = rw (grows.info, grows.types) refl

  -- the walk of a unit
  pub walked_keeps : (u : ℕ × UnitHeader) → Keeps (walked first u) (walked second u)
  unfolding walked
  walked_keeps u =
      let more = grows.others (codes ".debug_abbrev") in
      let place = u.1.«abbrev» in
      let here : Option (List Abbrev) = table (section_bytes first (codes ".debug_abbrev")) place in
      let there : SomeStays (λ (t : List Abbrev). t) here (table (section_bytes second (codes ".debug_abbrev")) place) = rw more.1 (table_stays more.0 (section_bytes first (codes ".debug_abbrev")) place) in
      keeps_then _ _ _ _ (read_stays (λ (t : List Abbrev). t) (fault BAD_ABBREVIATION u.1.start) here (table (section_bytes second (codes ".debug_abbrev")) place) there) (λ abbrevs _.
      record { on = λ w is. ap (λ (i : Input). Ok (record { number = u.0; unit = u.1; walk = walk_of u.1 abbrevs i })) (same_body u.1) ∙ is })

  -- what a reference names
  pub same_target : (w : Walked) (r : Reference) → target_of second w r ≡ target_of first w r
  unfolding target_of
  same_target w r = rw grows.info refl

  same_imports : (w : Walked) → imports_of second w ≡ imports_of first w
  unfolding imports_of
  same_imports w = λ i. filter_map (λ (d : Item). option_and_then (λ (r : Reference). same_target w r i) (import_of d)) (filter (λ d. eqb d.tag imported_unit) (items_of w))

  module _ (ws : List Walked) where
    abbrev before : Program
    before = with_walks first ws

    abbrev after : Program
    after = with_walks second ws

    same_importing : (o : ℕ) → importing_language after o ≡ importing_language before o
    unfolding importing_language
    same_importing o = λ i. option_and_then own_language (find (λ w. is_some (own_language w) && list_any (λ t. eqb t o) (same_imports w i)) ws)

    same_by_import : (root : Option Item) → language_by_import after root ≡ language_by_import before root
    unfolding language_by_import
    same_by_import None = refl
    same_by_import (Some root) = ap (λ (o : Option ℕ). cond (eqb root.tag partial_unit) o None) (same_importing root.at)

    pub same_language : (w : Walked) → language_of after w ≡ language_of before w
    unfolding language_of
    same_language w = ap (λ (o : Option ℕ). unwrap_or (option_or (own_language w) o) 0) (same_by_import (root_of w))

    pub same_class : (w : Walked) → class_of_unit after w ≡ class_of_unit before w
    same_class w = ap class_of (same_language w)

    -- the entries whose references are followed
    pub same_followed : (w : Walked) → followed after w ≡ followed before w
    unfolding followed
    same_followed w = ap (λ (c : Class). filter (λ d. is_in_table d.item.tag && is_visited (is_ada c) (items_of w) d.item) (located w)) (same_class w)
