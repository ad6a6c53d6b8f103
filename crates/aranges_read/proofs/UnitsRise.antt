-- The units of a program rise: each begins behind the one before it.
use Rattle.std.proofs.Common.{◌≡◌, ℕ, ◌+◌, ◌<◌, ◌≤◌, List, [], ◌∷◌, ◌++◌, length, drop, refl, sym, ap, subst, arith, length-drop, append-nil, Ok}
use Rattle.std.specs.Prelude.{codes}
use Rattle.ix_base.specs.Reading.{Input, input}
use Rattle.index_model.specs.declared.unit.Part.{Part}
use Rattle.index_model.specs.declared.unit.Part.TheVariants.{Info, Types}
use Rattle.index_model.specs.declared.unit.Unit.{Unit as UnitHeader}
use Rattle.index_model.specs.Sections.{Section, section_bytes}
use Rattle.index_model.specs.Tiling.{Tiles}
use Rattle.index_model.specs.Units.{next_unit, units_of}
use Rattle.index_model.proofs.UnitReads.{unit_takes}
use Rattle.index_model.proofs.UnitTilingLaws.{units_tile}
use Rattle.file_image.specs.Images.{Image, image_of}
use Rattle.file_image.proofs.Images.{parts_of}
use Rattle.aranges_read.specs.Sets.{Rise}

lower : (us : List UnitHeader) (from to : ℕ) → from ≤ to → Rise to us → Rise from us
lower [] from to le r = tt
lower (u ∷ us) from to le r = (omega (arith, le, r.0), r.1)

-- units that tile bytes, and units from the end of the bytes on
joined : (section : Part) (base k end : ℕ) (i : Input) (us vs : List UnitHeader) → Tiles (next_unit section base) k i us → base + i.at + length i.rest ≡ end → Rise end vs → Rise (base + i.at) (us ++ vs)
joined section base k end i [] vs t is r = lower vs (base + i.at) end (omega (arith, is)) r
joined section base k end i (u ∷ us) vs t is r =
    let h = unit_takes section base k i (u, t.1) t.2 in
    let at : i.at + u.length ≡ t.1.at = ap (λ (x : Input). x.at) h.passes.on in
    let rest : length (drop u.length i.rest) ≡ length t.1.rest = ap (λ (x : Input). length x.rest) h.passes.on in
    let cut = length-drop u.length i.rest in
    let there : u.length ≤ length i.rest = h.passes.there in
    let start : u.start ≡ base + i.at = h.start in
    let some : 0 < u.length = h.some in
    let others = joined section base (k + 1) end t.1 us vs t.3 (omega (arith, is, at, rest, cut, there)) r in
    (omega (arith, start), lower (us ++ vs) (u.start + 1) (base + t.1.at) (omega (arith, start, at, some)) others)

units_rise : (ss : List Section) (us : List UnitHeader) → units_of ss ≡ Ok us → Rise 0 us
units_rise ss us is =
    let info = section_bytes ss (codes ".debug_info") in
    let types = section_bytes ss (codes ".debug_types") in
    let t = (units_tile ss us).0 is in
    let behind : Rise (length info + 0) (t.others ++ []) = joined Types (length info) (length t.infos) (length info + 0 + length (drop 0 types)) (input types 0) t.others [] t.in_types refl tt in
    let others : Rise (length info + 0) t.others = subst (Rise (length info + 0)) (append-nil t.others) behind in
    let all : Rise (0 + 0) (t.infos ++ t.others) = joined Info 0 0 (length info + 0) (input info 0) t.infos t.others t.in_info (omega (arith, length-drop 0 info)) others in
    subst (Rise 0) (sym t.all) (lower (t.infos ++ t.others) 0 (0 + 0) (omega arith) all)

pub image_rises : (file : List ℕ) (image : Image) → image_of file ≡ Ok image → Rise 0 image.units
image_rises file image is = let p = parts_of file image is in units_rise image.sections image.units p.units
