-- The name by a signature.
use Rattle.std.proofs.Common.{◌≡◌, ℕ, ◌+◌, Bool, true, false, cond, eqb, ◌&&◌, List, [], ◌∷◌, Option, Some, None, Result, Ok, Err, refl, sym, ap, subst, ◌∙◌}
use Rattle.std.specs.Prelude.{Contains, find, filter_map}
use Rattle.std.specs.List.{enumerate_from, cons_option}
use Rattle.common_laws.proofs.Members.{contains_here, contains_later}
use Rattle.ix_base.specs.declared.code.TheConstants.{BAD_REFERENCE}
use Rattle.index_model.specs.declared.unit.Unit.{Unit as UnitHeader}
use Rattle.index_model.specs.Attributes.{Reference, signature_of}
use Rattle.index_model.specs.Chains.{is_type_unit, name_signed, name_by_signature}
use Rattle.index_model.specs.Faults.{program_of}
use Rattle.index_model.specs.Meaning.{◌>>=◌, if_some, some_or}
use Rattle.index_model.specs.Program.{Walked, Program, Located}
use Rattle.index_model.specs.References.{entry_named}
use Rattle.index_model.specs.Sections.{Section}
use Rattle.index_model.specs.Units.{units_of}
use Rattle.index_model.specs.Strings.{own_name}
use Rattle.index_model.proofs.Meanings.{same_ok}
use Rattle.index_model.proofs.Scans.{AreScans, scanned_walked, program_parts}
use Rattle.index_model.proofs.UnitsApart.{walk_parts}
use Rattle.file_image.specs.Images.{Image, image_of}
use Rattle.file_image.proofs.Images.{parts_of}
use Rattle.shard_build.specs.Entries.{entry_meant}
use Rattle.parent_resolve.specs.declared.signatures.TypeUnit.{TypeUnit}
use Rattle.parent_resolve.specs.Signed.{as_type_unit, type_units, first_signed}

-- ---- the type unit with a signature

module _ (s : ℕ) where
  -- the walk is that of a type unit with the signature
  abbrev pub is_signed : Walked → Bool
  is_signed w = is_type_unit w.unit.sort && eqb w.unit.signature s

  -- the type unit that was found is that of the walk
  pub record IsUnitOf (ws : List Walked) (t : TypeUnit) (w : Walked) : Type 0 where
    pub found : find is_signed ws ≡ Some w
    pub member : Contains ws w
    pub number : w.number ≡ t.unit
    pub type_offset : w.unit.type_offset ≡ t.type_offset

  abbrev pub Same : List Walked → Option TypeUnit → Type 0
  Same ws None = find is_signed ws ≡ None
  Same ws (Some t) = (w : Walked) × IsUnitOf ws t w

  later : (w : Walked) (ws : List Walked) (o : Option TypeUnit) → is_signed w ≡ false → Same ws o → Same (w ∷ ws) o
  later w ws None off h = ap (λ (b : Bool). cond b (Some w) (find is_signed ws)) off ∙ h
  later w ws (Some t) off h = (
    h.0,
    record {
      found = ap (λ (b : Bool). cond b (Some w) (find is_signed ws)) off ∙ h.1.found;
      member = contains_later w ws h.0 h.1.member;
      number = h.1.number;
      type_offset = h.1.type_offset;
    },
  )

  same_units : (ss : List Section) (n : ℕ) (us : List UnitHeader) (ws : List Walked) → AreScans ss n us ws → Same ws (first_signed (filter_map as_type_unit (enumerate_from n us)) s)
  same_units ss n [] [] h = refl
  same_units ss n [] (w ∷ ws) h = absurd h
  same_units ss n (u ∷ us) [] h = absurd h
  same_units ss n (u ∷ us) (w ∷ ws) h = subst (Same (w ∷ ws)) (sym (computes (is_type_unit u.sort))) (by (is_type_unit u.sort) (eqb u.signature s) (ap (λ (x : UnitHeader). is_type_unit x.sort && eqb x.signature s) parts.1) (same_units ss (n + 1) us ws h.1))
    where
      parts : (w.number ≡ n) × (w.unit ≡ u)
      parts = walk_parts ss (n, u) w (scanned_walked ss (n, u) w h.0).0

      more : List TypeUnit
      more = filter_map as_type_unit (enumerate_from (n + 1) us)

      made : TypeUnit
      made = record { signature = u.signature; unit = n; type_offset = u.type_offset }

      computes : (t : Bool) → first_signed (cons_option (cond t (Some made) None) more) s ≡ cond t (cond (eqb u.signature s) (Some made) (first_signed more s)) (first_signed more s)
      computes true = refl
      computes false = refl

      by : (t g : Bool) → is_signed w ≡ (t && g) → Same ws (first_signed more s) → Same (w ∷ ws) (cond t (cond g (Some made) (first_signed more s)) (first_signed more s))
      by true true e others = (w, record { found = ap (λ (b : Bool). cond b (Some w) (find is_signed ws)) e; member = contains_here w ws; number = parts.0; type_offset = ap (λ (x : UnitHeader). x.type_offset) parts.1 })
      by true false e others = later w ws (first_signed more s) e others
      by false g e others = later w ws (first_signed more s) e others

-- the units of an image are those of the program
pub type_unit_of : (image : Image) (p : Program) (s : ℕ) → image_of image.file ≡ Ok image → program_of image.file ≡ Ok p → Same s p.walks (first_signed (type_units image.units) s)
type_unit_of image p s is file =
    let a = program_parts image.file p file in
    let b = parts_of image.file image is in
    let sections : image.sections ≡ p.sections = same_ok image.sections p.sections (sym b.sections ∙ a.1) in
    let units : a.0 ≡ image.units = same_ok a.0 image.units (sym a.2 ∙ ap units_of (sym sections) ∙ b.units) in
    subst (λ (us : List UnitHeader). Same s p.walks (first_signed (type_units us) s)) units (same_units s p.sections 0 a.0 p.walks a.3)

-- ---- the name

-- where the type of a type unit stands
abbrev pub type_place : Walked → Reference
type_place w = record { target = w.unit.type_offset; near = true }

module _ (p : Program) (d : Located) where
  abbrev of_unit : Option Walked → Result (Option (List ℕ)) ℕ
  of_unit w = if_some w (λ w. entry_named p w (type_place w) >>= λ e. Ok (own_name p.sections e))

  abbrev by_signature : Option ℕ → Result (Option (List ℕ)) ℕ
  by_signature o = if_some o (name_signed p)

  pub name_unsigned : signature_of d.item ≡ None → name_by_signature p d ≡ Ok None
  unfolding name_by_signature
  name_unsigned is = ap by_signature is

  module _ (s : ℕ) (is : signature_of d.item ≡ Some s) where
    of_signed : name_by_signature p d ≡ of_unit (find (is_signed s) p.walks)
    unfolding name_by_signature name_signed
    of_signed = ap by_signature is

    pub name_of_no_unit : find (is_signed s) p.walks ≡ None → name_by_signature p d ≡ Ok None
    name_of_no_unit none = of_signed ∙ ap of_unit none

    module _ (w : Walked) (found : find (is_signed s) p.walks ≡ Some w) where
      abbrev of_meant : Option Located → Result (Option (List ℕ)) ℕ
      of_meant o = some_or o BAD_REFERENCE >>= λ e. Ok (own_name p.sections e)

      of_found : name_by_signature p d ≡ of_meant (entry_meant p w (type_place w))
      unfolding entry_named
      of_found = of_signed ∙ ap of_unit found

      pub name_meant : (e : Located) → entry_meant p w (type_place w) ≡ Some e → name_by_signature p d ≡ Ok (own_name p.sections e)
      name_meant e m = of_found ∙ ap of_meant m

      pub name_fault : entry_meant p w (type_place w) ≡ None → name_by_signature p d ≡ Err BAD_REFERENCE
      name_fault m = of_found ∙ ap of_meant m
