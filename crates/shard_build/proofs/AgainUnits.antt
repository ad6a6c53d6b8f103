-- The unit of an entry that is read again.
use Rattle.std.proofs.Common.{◌≡◌, ℕ, ◌+◌, ◌<◌, ◌≤◌, length, List, [], ◌∷◌, Option, Some, Result, Ok, refl, sym, ap, subst, ◌∙◌, arith, ⊎_elim}
use Rattle.std.specs.Prelude.{Contains, codes, slice_get, IsSome}
use Rattle.std.specs.List.{AllZip}
use Rattle.std.proofs.lemmas.Option.{get_or_from_slice_get}
use Rattle.common_laws.proofs.Members.{contains_cases}
use Rattle.ix_base.specs.declared.code.TheConstants.{BAD_ABBREVIATION}
use Rattle.ix_base.specs.declared.fault.Fault.{Fault}
use Rattle.index_model.specs.declared.shard.Node.{Node}
use Rattle.index_model.specs.declared.shard.Span.{Span}
use Rattle.index_model.specs.declared.unit.Unit.{Unit as UnitHeader}
use Rattle.index_model.specs.Abbreviations.{Abbrev, table}
use Rattle.index_model.specs.Attributes.{Reference}
use Rattle.index_model.specs.Faults.{scanned, program_of}
use Rattle.index_model.specs.Meaning.{fault}
use Rattle.index_model.specs.NodeSeen.{NodeSeen}
use Rattle.index_model.specs.Program.{Walked, Program, walked, located, item_with_offset}
use Rattle.index_model.specs.References.{target_of}
use Rattle.index_model.specs.Sections.{Section, section_bytes}
use Rattle.index_model.specs.ShardParts.{spans_of, as_next, IsSeenOf}
use Rattle.index_model.proofs.Meanings.{some_ok}
use Rattle.index_model.proofs.Scans.{AreScans, read, scanned_walked, program_parts}
use Rattle.index_model.proofs.UnitsApart.{walk_parts}
use Rattle.file_image.specs.Images.{Image, image_of, unit_bytes}
use Rattle.shard_build.specs.declared.home.UnitInFile.{UnitInFile}
use Rattle.shard_build.specs.Again.{walk_by, IsSound}
use Rattle.shard_build.specs.Entries.{IsNodeIn}
use Rattle.shard_build.specs.Found.{IsSpanOfParent, located_in_span}
use Rattle.shard_build.specs.Kept.{target_by}
use Rattle.shard_build.proofs.AgainLaws.{walk_is}
use Rattle.shard_build.proofs.UnitNumbers.{IsImageOf, image_is, has_number, unit_with_number}

-- ---- the scans of a program

scan_in : (ss : List Section) (n : ℕ) (us : List UnitHeader) (ws : List Walked) → AreScans ss n us ws → (w : Walked) → Contains ws w → scanned ss (w.number, w.unit) ≡ Ok w
scan_in ss n [] [] s w c = absurd (omega (arith, c.1))
scan_in ss n [] (v ∷ ws) s w c = absurd s
scan_in ss n (u ∷ us) [] s w c = absurd s
scan_in ss n (u ∷ us) (v ∷ ws) s w c = ⊎_elim
    (λ (same : v ≡ w).
    let parts = walk_parts ss (n, u) v (scanned_walked ss (n, u) v s.0).0 in
    subst (λ (x : Walked). scanned ss (x.number, x.unit) ≡ Ok x) same (ap (λ (k : ℕ). scanned ss (k, v.unit)) parts.0 ∙ ap (λ (x : UnitHeader). scanned ss (n, x)) parts.1 ∙ s.0))
    (λ (later : Contains ws w). scan_in ss (n + 1) us ws s.1 w later)
    (contains_cases v ws w c)

-- a walk of a program is the scan of its unit
scan_is : (f : List ℕ) (p : Program) → program_of f ≡ Ok p → (w : Walked) → Contains p.walks w → scanned p.sections (w.number, w.unit) ≡ Ok w
scan_is f p is w c = let a = program_parts f p is in scan_in p.sections 0 a.0 p.walks a.3 w c

has_table : (ss : List Section) (u : ℕ × UnitHeader) (w : Walked) → walked ss u ≡ Ok w → IsSome (table (section_bytes ss (codes ".debug_abbrev")) u.1.«abbrev»)
unfolding walked
has_table ss u w is =
    let made : List Abbrev → Result Walked Fault = λ (a : List Abbrev). Ok (read ss u a) in
    let t = some_ok (table (section_bytes ss (codes ".debug_abbrev")) u.1.«abbrev») (fault BAD_ABBREVIATION u.1.start) made w is in
    subst (λ (o : Option (List Abbrev)). IsSome o) (sym t.1) refl

-- ---- the unit with a number

module _ (im : Image) (image : image_of im.file ≡ Ok im) (p : Program) (is : program_of im.file ≡ Ok p) (w : Walked) (wc : Contains p.walks w) where
  abbrev parts : IsImageOf im p
  parts = image_is im.file im p image is

  pub number_within : w.number < length im.units
  number_within = has_number im.file p is im.units parts.units w wc

  module _ (h : UnitInFile) (sections : h.sections.now ≡ im.sections) (number : h.number ≡ w.number) (unit : slice_get im.units w.number ≡ Some h.unit) where
    unit_is : h.unit ≡ w.unit
    unit_is = sym (get_or_from_slice_get im.units w.number h.unit w.unit unit) ∙ unit_with_number im.file p is im.units parts.units w wc

    scan_here : scanned h.sections.now (h.number, h.unit) ≡ Ok w
    scan_here =
        ap (λ (ss : List Section). scanned ss (h.number, h.unit)) (sections ∙ parts.sections) ∙
        ap (λ (n : ℕ). scanned p.sections (n, h.unit)) number ∙
        ap (λ (u : UnitHeader). scanned p.sections (w.number, u)) unit_is ∙
        scan_is im.file p is w wc

    pub some_table : (bytes : List ℕ) → bytes ≡ section_bytes im.sections (codes ".debug_abbrev") → IsSome (table bytes h.unit.«abbrev»)
    some_table bytes same =
        let here : section_bytes h.sections.now (codes ".debug_abbrev") ≡ bytes = ap (λ (ss : List Section). section_bytes ss (codes ".debug_abbrev")) sections ∙ sym same in
        subst (λ (bs : List ℕ). IsSome (table bs h.unit.«abbrev»)) here (has_table h.sections.now (h.number, h.unit) w (scanned_walked h.sections.now (h.number, h.unit) w scan_here).0)

    -- what a reference names in its bytes it names in the file
    pub target_is : (r : Reference) → target_by h.sections.now (h.number, h.unit) (as_next r) ≡ target_of p.sections w r
    unfolding target_of
    target_is r =
        ap (λ (ss : List Section). target_by ss (h.number, h.unit) (as_next r)) (sections ∙ parts.sections) ∙
        ap (λ (u : UnitHeader). target_by p.sections (h.number, u) (as_next r)) unit_is

    module _ (own : h.bytes.now ≡ unit_bytes h.sections.now h.unit) (header : h.unit.body ≤ length h.bytes.now) (bytes : List ℕ) (same : bytes ≡ section_bytes im.sections (codes ".debug_abbrev")) (a : List Abbrev) (found : table bytes h.unit.«abbrev» ≡ Some a) where
      -- the walk by its own bytes is that of the file's unit
      pub walk_here : walk_by h a ≡ w
      walk_here =
          let here : section_bytes h.sections.now (codes ".debug_abbrev") ≡ bytes = ap (λ (ss : List Section). section_bytes ss (codes ".debug_abbrev")) sections ∙ sym same in
          walk_is h.sections.now (h.number, h.unit) a h.bytes.now w own header (ap (λ (bs : List ℕ). table bs h.unit.«abbrev») here ∙ found) (scanned_walked h.sections.now (h.number, h.unit) w scan_here).0

      pub sound : IsSound h a
      sound = scan_here ∙ ap {B = Result Walked Fault} (λ (v : Walked). Ok v) (sym walk_here)

      pub in_spans : (s : Span) → Contains (spans_of w) s → Contains (spans_of (walk_by h a)) s
      in_spans s c = subst (λ (v : Walked). Contains (spans_of v) s) (sym walk_here) c

      pub span_of_parent : (s : Span) (o : ℕ) → IsSpanOfParent w s o → IsSpanOfParent (walk_by h a) s o
      span_of_parent s o parent = subst (λ (v : Walked). IsSpanOfParent v s o) (sym walk_here) parent

      -- the node of the entry in the span is that of the file's entry
      pub node_there : (s : Span) (o : ℕ) → item_with_offset p o ≡ located_in_span w s o → (n : Option Node) → IsNodeIn h.sections.now n (located_in_span (walk_by h a) s o) → IsNodeIn p.sections n (item_with_offset p o)
      node_there s o there n node =
          let entry : located_in_span (walk_by h a) s o ≡ item_with_offset p o = ap (λ (v : Walked). located_in_span v s o) walk_here ∙ sym there in
          subst (λ (ss : List Section). IsNodeIn ss n (item_with_offset p o)) (sections ∙ parts.sections) (subst (IsNodeIn h.sections.now n) entry node)

      -- the nodes of all its entries are those of the file's unit
      pub nodes_there : (nodes : List NodeSeen) → AllZip (IsSeenOf h.sections.now) nodes (located (walk_by h a)) → AllZip (IsSeenOf p.sections) nodes (located w)
      nodes_there nodes are = subst (λ (ss : List Section). AllZip (IsSeenOf ss) nodes (located w)) (sections ∙ parts.sections) (subst (λ (v : Walked). AllZip (IsSeenOf h.sections.now) nodes (located v)) walk_here are)
