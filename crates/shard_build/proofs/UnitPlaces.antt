-- The units of an image lie in its sections.
use Rattle.std.proofs.Common.{◌≡◌, ℕ, ◌+◌, ◌<◌, ◌≤◌, ◌^◌, List, [], ◌∷◌, length, drop, Some, Ok, ap, subst, arith, length-drop, length-take, length-append, ⊎_elim}
use Rattle.std.specs.Prelude.{Contains, codes, slice_get}
use Rattle.std.proofs.lemmas.List.Elements.{Contains-append_cases, Contains-get_or}
use Rattle.std.proofs.lemmas.Option.{get_or_from_slice_get, slice_get_within}
use Rattle.common_laws.proofs.Members.{contains_cases}
use Rattle.ix_base.specs.Reading.{Input, input}
use Rattle.index_model.specs.declared.unit.Part.{Part}
use Rattle.index_model.specs.declared.unit.Part.TheVariants.{Info, Types}
use Rattle.index_model.specs.declared.unit.Unit.{Unit as UnitHeader}
use Rattle.index_model.specs.Program.{joint}
use Rattle.index_model.specs.Sections.{Section, section_bytes}
use Rattle.index_model.specs.Tiling.{Tiles}
use Rattle.index_model.specs.Units.{next_unit, units_of}
use Rattle.index_model.proofs.UnitReads.{unit_takes}
use Rattle.index_model.proofs.UnitTilingLaws.{units_tile}
use Rattle.file_image.specs.Images.{Image, image_of, unit_bytes}
use Rattle.file_image.proofs.Images.{parts_of}

-- a unit that tiles bytes ends in them
ends_in : (section : Part) (base k : ℕ) (i : Input) (us : List UnitHeader) → Tiles (next_unit section base) k i us → (u : UnitHeader) → Contains us u → u.start + u.length ≤ base + i.at + length i.rest
ends_in section base k i [] t u c = absurd (omega (arith, c.1))
ends_in section base k i (v ∷ us) t u c =
    let h = unit_takes section base k i (v, t.1) t.2 in
    let at : i.at + v.length ≡ t.1.at = ap (λ (x : Input). x.at) h.passes.on in
    let rest : length (drop v.length i.rest) ≡ length t.1.rest = ap (λ (x : Input). length x.rest) h.passes.on in
    ⊎_elim
    (λ (same : v ≡ u). let P : UnitHeader → Type 0 = λ x. x.start + x.length ≤ base + i.at + length i.rest in subst P same (omega (arith, h.start, h.passes.there)))
    (λ (later : Contains us u). let l = ends_in section base (k + 1) t.1 us t.3 u later in omega (arith, l, at, rest, h.passes.there, length-drop v.length i.rest))
    (contains_cases v us u c)

-- a unit ends in the sections
pub unit_ends : (ss : List Section) (us : List UnitHeader) → units_of ss ≡ Ok us → (u : UnitHeader) → Contains us u → u.start + u.length ≤ length (joint ss)
unit_ends ss us is u c =
    let info = section_bytes ss (codes ".debug_info") in
    let types = section_bytes ss (codes ".debug_types") in
    let t = (units_tile ss us).0 is in
    let both = length-append info types in
    ⊎_elim
    (λ (l : Contains t.infos u). let e = ends_in Info 0 0 (input info 0) t.infos t.in_info u l in omega (arith, e, both))
    (λ (r : Contains t.others u). let e = ends_in Types (length info) (length t.infos) (input types 0) t.others t.in_types u r in omega (arith, e, both))
    (Contains-append_cases t.infos t.others u (subst (λ (vs : List UnitHeader). Contains vs u) t.all c))

-- so its bytes are as many as its length says
pub ends_small : (file : List ℕ) (im : Image) (k : ℕ) (u : UnitHeader) (bytes : List ℕ) → image_of file ≡ Ok im → slice_get im.units k ≡ Some u → bytes ≡ unit_bytes im.sections u → u.start + length bytes < 2 ^ 63 → u.start + u.length < 2 ^ 63
ends_small file im k u bytes is at own small =
    let units = (parts_of file im is).units in
    let within = slice_get_within im.units k u at in
    let member : Contains im.units u = subst (λ (v : UnitHeader). Contains im.units v) (get_or_from_slice_get im.units k u u at) (Contains-get_or im.units k u within) in
    let ends = unit_ends im.sections im.units units u member in
    let from : List ℕ = drop u.start (joint im.sections) in
    omega (arith, small, ends, ap (λ (xs : List ℕ). length xs) own, length-take u.length from, length-drop u.start (joint im.sections))
