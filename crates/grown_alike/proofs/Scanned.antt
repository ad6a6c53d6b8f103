-- The walks stay, and so do the names of their entries: both texts of each entry were tested.
use Rattle.std.proofs.Common.{◌≡◌, ℕ, List, flat_map, Option, Result, Ok, sym, ap, subst, ◌∙◌}
use Rattle.std.specs.Prelude.{Contains}
use Rattle.std.specs.List.{enumerate_from}
use Rattle.common_laws.proofs.Members.{of_flat_map}
use Rattle.ix_base.specs.declared.fault.Fault.{Fault}
use Rattle.index_model.specs.declared.unit.Unit.{Unit as UnitHeader}
use Rattle.index_model.specs.Meaning.{◌>>◌, each, at_place, value_of}
use Rattle.index_model.specs.Sections.{Section}
use Rattle.index_model.specs.Attributes.{name_value, linkage_value}
use Rattle.index_model.specs.Program.{Walked, Located, walked, located}
use Rattle.index_model.specs.Strings.{Texts, texts_of, text_in, some_text, own_name, own_linkage_name}
use Rattle.index_model.specs.Faults.{none_or, scanned, scan_of}
use Rattle.index_model.proofs.Meanings.{bind_ok, then_ok, same_ok, at_place_ok, first_ok}
use Rattle.grown_alike.specs.Grown.{Grows}
use Rattle.grown_alike.proofs.Kept.{Keeps, keeps_itself, keeps_then, keeps_next, keeps_each, keeps_place}
use Rattle.grown_alike.proofs.Gathered.{each_gave, each_given}
use Rattle.grown_alike.proofs.SameUnits.{walked_keeps}
use Rattle.grown_alike.proofs.Texts.{in_unit_keeps, texts_keep}

abbrev texts : List Section → Walked → Result (List Texts) Fault
texts ss w = each (λ d. at_place d.item.at (texts_of ss d)) (located w)

-- an entry of one of these walks
abbrev pub IsKnown : List Walked → Located → Type 0
IsKnown ws d = Contains (flat_map located ws) d

module _ (first second : List Section) (grows : Grows first second) where
  scanned_keeps : (u : ℕ × UnitHeader) → Keeps (scanned first u) (scanned second u)
  unfolding scanned
  scanned_keeps u =
      keeps_then (walked first u) (walked second u) _ _ (walked_keeps first second grows u) (λ w _.
      keeps_next (none_or w.walk.end) (none_or w.walk.end) _ _ (keeps_itself (none_or w.walk.end)) (
      keeps_next (texts first w) (texts second w) _ _
      (keeps_each _ _ (located w) (λ d _. keeps_place d.item.at (texts_of first d) (texts_of second d) (texts_keep first second grows d)))
      (keeps_itself (Ok w))))

  pub scan_keeps : (us : List UnitHeader) → Keeps (scan_of first us) (scan_of second us)
  unfolding scan_of
  scan_keeps us = keeps_each (scanned first) (scanned second) (enumerate_from 0 us) (λ u _. scanned_keeps u)

  module _ (us : List UnitHeader) (ws : List Walked) (scan : scan_of first us ≡ Ok ws) where
    -- the texts of an entry of a walk are without a fault
    texts_there : (d : Located) → IsKnown ws d → (t : Texts) × (texts_of first d ≡ Ok t)
    unfolding scan_of scanned
    texts_there d known =
        let m = of_flat_map located ws d known in
        let u = each_given (scanned first) (enumerate_from 0 us) ws scan m.0 m.1 in
        let w = bind_ok (walked first u.0) (λ (v : Walked). none_or v.walk.end >> (texts first v >> Ok v)) m.0 u.2 in
        let tested = then_ok (none_or w.0.walk.end) (texts first w.0 >> Ok w.0) m.0 w.2 in
        let ts = first_ok (texts first w.0) (Ok w.0) m.0 tested in
        let same : w.0 ≡ m.0 = same_ok w.0 m.0 (then_ok (texts first w.0) (Ok w.0) m.0 tested) in
        let t = each_gave (λ (e : Located). at_place e.item.at (texts_of first e)) (located w.0) ts.0 ts.1 d (subst (λ (v : Walked). Contains (located v) d) (sym same) m.2) in
        (t.0, at_place_ok d.item.at (texts_of first d) t.0 t.1)

    same_text : (v : Option (List ℕ)) (r s : Result (Option (List ℕ)) ℕ) → Keeps r s → r ≡ Ok v → some_text (value_of s) ≡ some_text (value_of r)
    same_text v r s h is = ap (λ (x : Result (Option (List ℕ)) ℕ). some_text (value_of x)) (h.on v is ∙ sym is)

    pub same_name : (d : Located) → IsKnown ws d → own_name second d ≡ own_name first d
    unfolding own_name texts_of
    same_name d known =
        let t = texts_there d known in
        let a = bind_ok (text_in first d.home (name_value d.item)) _ t.0 t.1 in
        same_text a.0 _ _ (in_unit_keeps first second grows d.home (name_value d.item)) a.1

    pub same_linkage_name : (d : Located) → IsKnown ws d → own_linkage_name second d ≡ own_linkage_name first d
    unfolding own_linkage_name texts_of
    same_linkage_name d known =
        let t = texts_there d known in
        let a = bind_ok (text_in first d.home (name_value d.item)) _ t.0 t.1 in
        let b = bind_ok (text_in first d.home (linkage_value d.item)) _ t.0 a.2 in
        same_text b.0 _ _ (in_unit_keeps first second grows d.home (linkage_value d.item)) b.1
