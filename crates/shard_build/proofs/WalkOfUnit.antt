-- The unit with a number: the walk of the program that is its own, and that its own bytes give it.
use Rattle.std.proofs.Common.{◌≡◌, ℕ, zero, suc, ◌+◌, ◌<◌, ◌≤◌, List, [], ◌∷◌, ◌++◌, length, take, Some, Ok, sym, ap, subst, ◌∙◌, arith, refl}
use Rattle.std.specs.Prelude.{Contains, IsSome, codes, slice_get}
use Rattle.std.proofs.lemmas.List.{length-map}
use Rattle.common_laws.proofs.Members.{contains_here, contains_later}
use Rattle.index_model.specs.declared.unit.Unit.{Unit as UnitHeader}
use Rattle.index_model.specs.Abbreviations.{Abbrev, table}
use Rattle.index_model.specs.Faults.{program_of}
use Rattle.index_model.specs.Program.{Program, Walked}
use Rattle.index_model.specs.Sections.{Section, section_bytes}
use Rattle.index_model.proofs.ShardRoots.{Numbered, program_numbered}
use Rattle.file_image.specs.Images.{Image, image_of, unit_bytes}
use Rattle.shard_build.specs.declared.home.UnitInFile.{UnitInFile}
use Rattle.shard_build.specs.Again.{walk_by, IsSound}
use Rattle.shard_build.proofs.UnitNumbers.{image_is}
use Rattle.shard_build.proofs.AgainUnits.{some_table, sound, walk_here}

-- the walk at a place, which comes next behind those before it
pub record NextWalk (ws : List Walked) (first n : ℕ) : Type 0 where
  pub walk : Walked
  pub member : Contains ws walk
  pub number : walk.number ≡ first + n
  pub more : take (suc n) ws ≡ take n ws ++ walk ∷ []

next_walk : (ws : List Walked) (first n : ℕ) → Numbered first ws → n < length ws → NextWalk ws first n
next_walk [] first n h lt = absurd (omega (arith, lt))
next_walk (w ∷ ws) first zero h lt = record { walk = w; member = contains_here w ws; number = omega (arith, h.0); more = refl }
next_walk (w ∷ ws) first (suc n) h lt =
    let r = next_walk ws (first + 1) n h.1 (omega (arith, lt)) in
    record { walk = r.walk; member = contains_later w ws r.walk r.member; number = omega (arith, r.number); more = ap (λ (vs : List Walked). w ∷ vs) r.more }

module _ (im : Image) (image : image_of im.file ≡ Ok im) (p : Program) (is : program_of im.file ≡ Ok p) where
  -- the image has as many units as the program
  pub walks_count : length im.units ≡ length p.walks
  walks_count = ap (λ (us : List UnitHeader). length us) (sym (image_is im.file im p image is).units) ∙ length-map p.walks (λ (w : Walked). w.unit)

  -- each number of the image is that of a unit
  pub unit_with : (n : ℕ) → n < length im.units → NextWalk p.walks 0 n
  unit_with n lt = next_walk p.walks 0 n (program_numbered im.file p is) (omega (arith, lt, walks_count))

  module _ (n : ℕ) (h : UnitInFile) (sections : h.sections.now ≡ im.sections) (number : h.number ≡ n) (unit : slice_get im.units n ≡ Some h.unit) (bytes : List ℕ) (same : bytes ≡ section_bytes im.sections (codes ".debug_abbrev")) where
    unit_at : (w : Walked) → w.number ≡ n → slice_get im.units w.number ≡ Some h.unit
    unit_at w at = subst (λ (k : ℕ). slice_get im.units k ≡ Some h.unit) (sym at) unit

    -- the table of its abbreviations isn't damaged
    pub has_table : n < length im.units → IsSome (table bytes h.unit.«abbrev»)
    has_table lt =
        let w = unit_with n lt in
        let at : w.walk.number ≡ n = omega (arith, w.number) in
        some_table im image p is w.walk w.member h sections (number ∙ sym at) (unit_at w.walk at) bytes same

    -- its sections are those of the program
    pub its_sections : h.sections.now ≡ p.sections
    its_sections = sections ∙ (image_is im.file im p image is).sections

    module _ (own : h.bytes.now ≡ unit_bytes im.sections h.unit) (header : h.unit.body ≤ length h.bytes.now) (a : List Abbrev) (found : table bytes h.unit.«abbrev» ≡ Some a) where
      -- its bytes are its own
      pub its_own : h.bytes.now ≡ unit_bytes h.sections.now h.unit
      its_own = own ∙ ap (λ (ss : List Section). unit_bytes ss h.unit) (sym sections)

      -- it has no fault
      pub is_sound : n < length im.units → IsSound h a
      is_sound lt =
          let w = unit_with n lt in
          let at : w.walk.number ≡ n = omega (arith, w.number) in
          sound im image p is w.walk w.member h sections (number ∙ sym at) (unit_at w.walk at) its_own header bytes same a found

      -- its walk is that of the program's unit
      pub its_walk : (w : Walked) → Contains p.walks w → w.number ≡ n → walk_by h a ≡ w
      its_walk w c at = walk_here im image p is w c h sections (number ∙ sym at) (unit_at w at) its_own header bytes same a found
