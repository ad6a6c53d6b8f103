-- A file with an image, and one without.
use Rattle.std.proofs.Common.{◌≡◌, ℕ, List, Some, Result, Ok, Err, refl, sym, subst}
use Rattle.std.specs.Prelude.{IfOk}
use Rattle.std.specs.List.{enumerate_from}
use Rattle.ix_base.specs.declared.fault.Fault.{Fault}
use Rattle.index_model.specs.declared.unit.Unit.{Unit as UnitHeader}
use Rattle.index_model.specs.Faults.{first_fault}
use Rattle.index_model.specs.LawsCore.{early_fault}
use Rattle.index_model.specs.Meaning.{◌>>=◌}
use Rattle.index_model.specs.Sections.{Section, sections_of}
use Rattle.index_model.specs.Machine.{IsCut}
use Rattle.index_model.specs.Outputs.{Subject}
use Rattle.index_model.specs.Units.{units_of}
use Rattle.index_model.proofs.CoreRight.{early_is_first}
use Rattle.stage_core.specs.Cut.{HasUnits}
use Rattle.file_image.specs.Images.{Image, image_of}
use Rattle.file_image.proofs.Images.{parts_of}
use Rattle.index_board.specs.Boards.{IsCutOf}

module _ (file : List ℕ) (f : Fault) where
  abbrev made : List Section → List UnitHeader → Image
  made ss us = record { file = file; sections = ss; units = us }

  abbrev failing : Result Image Fault
  failing = Err f

  no_units : (ss : List Section) (r : Result (List UnitHeader) Fault) → units_of ss ≡ r → (r >>= λ us. Ok (made ss us)) ≡ failing → sections_of file ≡ Ok ss → early_fault file ≡ Some f
  no_units ss (Ok us) is e sections = absurd (cc e)
  no_units ss (Err g) is e sections = rw (sections, is) (cc e)

  no_image : (r : Result (List Section) Fault) → sections_of file ≡ r → (r >>= λ ss. units_of ss >>= λ us. Ok (made ss us)) ≡ failing → early_fault file ≡ Some f
  no_image (Ok ss) is e = no_units ss (units_of ss) refl e is
  no_image (Err g) is e = rw is (cc e)

  -- a file without an image has a fault of its sections or headers
  pub image_early : image_of file ≡ Err f → early_fault file ≡ Some f
  unfolding image_of
  image_early is = no_image (sections_of file) refl is

  -- it is the first of the file
  pub image_fault : image_of file ≡ Err f → first_fault file ≡ Some f
  image_fault is = early_is_first file f (image_early is)

-- an image has the units of its file
pub has_units : (file : List ℕ) (image : Image) → image_of file ≡ Ok image → HasUnits file image.units
has_units file image is = let p = parts_of file image is in record { sections = image.sections; sections_are = p.sections; units_are = p.units }

-- a board over a core of these units has the cut of the file's units
pub cut_by : {B E : Type 0} (made : Result B E) (subject : B → Subject) (s : Subject) (file : List ℕ) (image : Image) (units : List UnitHeader) (shards : ℕ) → image_of file ≡ Ok image → units ≡ image.units → IsCut (enumerate_from 0 units) shards s.runs → IfOk made (λ m. subject m ≡ s) → IfOk made (λ m. IsCutOf (image_of file) shards (subject m).runs)
cut_by (Ok m) subject s file image units shards is same cut by =
    let over : IsCut (enumerate_from 0 image.units) shards s.runs = subst (λ (us : List UnitHeader). IsCut (enumerate_from 0 us) shards s.runs) same cut in
    let kept : IsCut (enumerate_from 0 image.units) shards (subject m).runs = subst (λ (x : Subject). IsCut (enumerate_from 0 image.units) shards x.runs) (sym by) over in
    subst (λ (r : Result Image Fault). IsCutOf r shards (subject m).runs) (sym is) kept
cut_by (Err e) subject s file image units shards is same cut by = tt
