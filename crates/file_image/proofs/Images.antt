-- The file with its sections and units, step by step.
use Rattle.std.proofs.Common.{◌≡◌, List, ℕ, Result, Ok, subst, refl}
use Rattle.ix_base.specs.declared.fault.Fault.{Fault}
use Rattle.index_model.specs.Gives.{Stop}
use Rattle.ix_base.specs.declared.or_memory.OrMemory.TheVariants as stops
use Rattle.index_model.specs.declared.unit.Unit.{Unit as UnitHeader}
use Rattle.index_model.specs.Meaning.{◌>>=◌}
use Rattle.index_model.specs.Gives.{StopsAs}
use Rattle.index_model.specs.Sections.{Section, sections_of}
use Rattle.index_model.specs.Units.{units_of}
use Rattle.index_model.proofs.Meanings.{bind_ok}
use Rattle.file_image.specs.Images.{Image, image_of}

module _ (file : List ℕ) where
  pub at_sections : (s : Stop) → StopsAs s (sections_of file) → StopsAs s (image_of file)
  unfolding image_of
  at_sections stops.Memory h = tt
  at_sections (stops.Cause f) h = rw h refl

  module _ (ss : List Section) (all : sections_of file ≡ Ok ss) where
    pub at_units : (s : Stop) → StopsAs s (units_of ss) → StopsAs s (image_of file)
    unfolding image_of
    at_units stops.Memory h = tt
    at_units (stops.Cause f) h = rw (all, h) refl

    pub opened : (us : List UnitHeader) → units_of ss ≡ Ok us → image_of file ≡ Ok (record { file = file; sections = ss; units = us })
    unfolding image_of
    opened us h = rw (all, h) refl

abbrev given : Image → Result Image Fault
given i = Ok i

same_image : (i j : Image) → given i ≡ given j → i ≡ j
same_image i j is = cc

-- the parts of the image of a file
pub record Parts (bytes : List ℕ) (i : Image) : Type 0 where
  pub file : i.file ≡ bytes
  pub sections : sections_of bytes ≡ Ok i.sections
  pub units : units_of i.sections ≡ Ok i.units

-- what an image has, its file and its sections mean
pub parts_of : (file : List ℕ) (i : Image) → image_of file ≡ Ok i → Parts file i
unfolding image_of
parts_of file i is =
    let s = bind_ok (sections_of file) (λ ss. units_of ss >>= λ us. Ok (record { file = file; sections = ss; units = us })) i is in
    let u = bind_ok (units_of s.0) (λ us. Ok (record { file = file; sections = s.0; units = us })) i s.2 in
    let made : Image = record { file = file; sections = s.0; units = u.0 } in
    let e = same_image made i u.2 in
    let of_made : Parts file made = record { file = refl; sections = s.1; units = u.1 } in
    subst (Parts file) e of_made

-- an image is that of its own file
pub image_file : (file : List ℕ) (i : Image) → image_of file ≡ Ok i → i.file ≡ file
image_file file i is = (parts_of file i is).file
