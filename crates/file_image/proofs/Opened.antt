-- The sections of a file, or its first fault, step by step.
use Rattle.std.proofs.Common.{◌≡◌, ◌-◌, ◌<◌, ℕ, true, false, List, length, Result, Ok, Err, ltb, refl, arith}
use Rattle.std.specs.Prelude.{codes}
use Rattle.std.proofs.lemmas.Bool.{lt-ltb, le-ltb}
use Rattle.ix_base.specs.declared.fault.Fault.{Fault}
use Rattle.index_model.specs.Gives.{Stop}
use Rattle.ix_base.specs.declared.or_memory.OrMemory.TheVariants as stops
use Rattle.ix_base.specs.declared.code.TheConstants.{NO_DEBUG_INFO}
use Rattle.index_model.specs.Meaning.{fault}
use Rattle.index_model.specs.Gives.{StopsAs}
use Rattle.index_model.specs.Sections.{Section, ident, table_fits, sections_from, headers_from, section_count, none_compressed, section_bytes, sections_of}

module _ (f : List ℕ) where
  -- what is read where the table lies in the file
  abbrev pub read : Result (List Section) Fault
  read = sections_from f 1 (headers_from f 1 (section_count f - 1))

  pub at_ident : (e : Fault) → ident f ≡ Err e → sections_of f ≡ Err e
  unfolding sections_of
  at_ident e is = rw is refl

  module _ (elf : ident f ≡ Ok (record {})) where
    pub at_table : (e : Fault) → table_fits f ≡ Err e → sections_of f ≡ Err e
    unfolding sections_of
    at_table e is = rw (elf, is) refl

    module _ (table : table_fits f ≡ Ok (record {})) where
      pub at_sections : (s : Stop) → StopsAs s read → StopsAs s (sections_of f)
      unfolding sections_of
      at_sections stops.Memory h = tt
      at_sections (stops.Cause e) is = rw (elf, table, is) refl

      module _ (ss : List Section) (all : read ≡ Ok ss) where
        pub at_compressed : (e : Fault) → none_compressed 1 ss ≡ Err e → sections_of f ≡ Err e
        unfolding sections_of
        at_compressed e is = rw (elf, table, all, is) refl

        module _ (plain : none_compressed 1 ss ≡ Ok (record {})) where
          pub at_info : length (section_bytes ss (codes ".debug_info")) ≡ 0 → sections_of f ≡ Err (fault NO_DEBUG_INFO 0)
          unfolding sections_of
          at_info none =
              let t : ltb 0 (length (section_bytes ss (codes ".debug_info"))) ≡ false = le-ltb _ _ (omega arith) in
              rw (elf, table, all, plain, t) refl

          pub opened : 0 < length (section_bytes ss (codes ".debug_info")) → sections_of f ≡ Ok ss
          unfolding sections_of
          opened some =
              let t : ltb 0 (length (section_bytes ss (codes ".debug_info"))) ≡ true = lt-ltb _ _ some in
              rw (elf, table, all, plain, t) refl
