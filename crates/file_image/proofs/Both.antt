-- The units of both sections.
use Rattle.std.proofs.Common.{◌≡◌, List, [], ℕ, length, Result, Ok, refl, sym, ap, ◌∙◌}
use Rattle.std.specs.Prelude.{codes}
use Rattle.ix_base.specs.declared.fault.Fault.{Fault}
use Rattle.index_model.specs.Gives.{Stop}
use Rattle.ix_base.specs.declared.or_memory.OrMemory.TheVariants as stops
use Rattle.ix_base.specs.Reading.{input}
use Rattle.index_model.specs.declared.unit.Part.TheVariants.{Info, Types}
use Rattle.index_model.specs.declared.unit.Unit.{Unit as UnitHeader}
use Rattle.index_model.specs.Meaning.{◌>>=◌}
use Rattle.index_model.specs.Gives.{StopsAs}
use Rattle.index_model.specs.Sections.{Section, section_bytes}
use Rattle.index_model.specs.Tiling.{tiles}
use Rattle.index_model.specs.Units.{next_unit, units_of}
use Rattle.file_image.specs.Front.{with_front}
use Rattle.file_image.proofs.Loops.{no_front}

module _ (ss : List Section) (info types : List ℕ) (is_info : info ≡ section_bytes ss (codes ".debug_info")) (is_types : types ≡ section_bytes ss (codes ".debug_types")) where
  -- what is read in `.debug_info`, with nothing in front
  abbrev pub first : Result (List UnitHeader) Fault
  first = with_front [] (tiles (next_unit Info 0) 0 (input info 0))

  -- what is read in `.debug_types`, behind the units of `.debug_info`
  abbrev pub second : List UnitHeader → Result (List UnitHeader) Fault
  second infos = with_front infos (tiles (next_unit Types (length info)) (length infos) (input types 0))

  both : (first >>= second) ≡ units_of ss
  unfolding units_of
  both = rw (no_front (tiles (next_unit Info 0) 0 (input info 0)), is_info, is_types) refl

  pub at_first : (s : Stop) → StopsAs s first → StopsAs s (units_of ss)
  at_first stops.Memory h = tt
  at_first (stops.Cause f) h = sym both ∙ ap (λ (r : Result (List UnitHeader) Fault). r >>= second) h

  module _ (infos : List UnitHeader) (all : first ≡ Ok infos) where
    pub at_second : (s : Stop) → StopsAs s (second infos) → StopsAs s (units_of ss)
    at_second stops.Memory h = tt
    at_second (stops.Cause f) h = sym both ∙ ap (λ (r : Result (List UnitHeader) Fault). r >>= second) all ∙ h

    pub at_end : (us : List UnitHeader) → second infos ≡ Ok us → units_of ss ≡ Ok us
    at_end us h = sym both ∙ ap (λ (r : Result (List UnitHeader) Fault). r >>= second) all ∙ h
