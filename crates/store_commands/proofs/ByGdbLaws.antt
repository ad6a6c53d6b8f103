-- The index of the entries that gdb lists, of a build.
use Rattle.std.proofs.Common.{◌≡◌, ◌<◌, ◌≤◌, ◌^◌, ℕ, Bool, true, false, cond, leb, List, [], length, map, Option, Some, None, Result, Ok, Err, Vec, refl, sym, ap, subst, ◌∙◌, arith, inl}
use Rattle.std.specs.Prelude.{All, IfOk, IfSome, IsOkAnd, codes}
use Rattle.std.proofs.lemmas.Bool.{le-leb, lt-leb}
use Rattle.ix_base.specs.declared.limits.TheConstants.{MAX_UNITS}
use Rattle.file_image.specs.Images.{Image, image_of}
use Rattle.file_image.proofs.Images.{image_file}
use Rattle.index_model.specs.declared.answer.Main.{Main as MainOf}
use Rattle.index_model.specs.declared.job.Job.TheVariants.{Main}
use Rattle.index_model.specs.declared.range.UnitRange.{UnitRange}
use Rattle.index_model.specs.declared.unit.Unit.{Unit as UnitHeader}
use Rattle.index_model.specs.Cache.{GdbBytes, DoesNotFit}
use Rattle.index_model.specs.Faults.{built_of, program_of}
use Rattle.index_model.specs.MainProgram.{main_of}
use Rattle.index_model.specs.Outputs.{Summary, Makes, SummaryOf}
use Rattle.index_model.specs.Pieces.{IsPieces, pieces}
use Rattle.index_model.specs.Program.{Program}
use Rattle.index_model.specs.Sections.{section_bytes}
use Rattle.address_map.proofs.Halves.{are_the_pieces}
use Rattle.gdb_entries.specs.Files.{ForProgram, HasProgram}
use Rattle.gdb_index.specs.Indexes.{gdb_bytes, index_in, listed_bytes}
use Rattle.index_model.specs.WriteStops.{WriteStop, too_large}
use Rattle.ix_base.specs.declared.or_memory.OrMemory.TheVariants.{Cause, Memory}
use Rattle.gdbindex_write.specs.Writable.{HasUnit, IsWritable}
use Rattle.index_board.specs.Kept.{AreOf}
use Rattle.index_board.specs.Readers.{Reader}
use Rattle.index_forms.specs.declared.form.GdbVersion.{GdbVersion}
use Rattle.index_forms.specs.declared.form.IndexForm.TheVariants.{ByGdb}
use Rattle.index_pool.proofs.Lists.{and_ok, ok_and}
use Rattle.index_pool.proofs.WriteJob.{has_parts, of_program, scans_units, writable_of}
use Rattle.stage_core.specs.declared.output.Cache.{Cache as Kept}
use Rattle.stage_core.specs.Outputs.{cache_seen}
use Rattle.store_commands.specs.ByGdb.{IsKept, IsSummaryOf}

-- what a reader keeps of main and the addresses is that of its file
pub summary_of : (r : Reader) (image : Image) (m : Summary) → image_of r.board.subject.file ≡ Ok image → AreOf r.board.subject r.kept → r.kept.summary ≡ Some m → IsSummaryOf image m
summary_of r image m is right there =
    let s = r.board.subject in
    let makes : Makes s Main (SummaryOf m) = subst (λ (o : Option Summary). IfSome o (λ m. Makes s Main (SummaryOf m))) there right.summary in
    let b = ok_and (built_of s.file) (λ b. (m.main ≡ main_of b.program b.links) × IsPieces b.ranges m.map) makes in
    record {
      built = b.0;
      accepted = ap built_of (image_file s.file image is) ∙ b.1;
      main = b.2.0;
      map = b.2.1;
    }

module _ (image : Image) (m : Summary) (h : IsSummaryOf image m) where
  abbrev program : Program
  program = h.built.program

  program_is : program_of image.file ≡ Ok program
  program_is = (has_parts image.file h.built h.accepted).program

  pub has_program : HasProgram image.file
  has_program = (program, program_is)

  module _ (is : image_of image.file ≡ Ok image) where
    none_have : All (HasUnit image.units) []
    none_have i d lt = absurd (omega (arith, lt))

    pub writable : length image.units ≤ MAX_UNITS → length (section_bytes image.sections (codes ".debug_info")) ≤ 2 ^ 30 → length (section_bytes image.sections (codes ".debug_types")) ≤ 2 ^ 30 → IsWritable image.units m.map None [] 8
    writable few info types = writable_of image is few info types h.built h.accepted m.map h.map None [] 8 (inl refl) none_have tt

    abbrev written : GdbVersion → List ℕ
    written version = listed_bytes program image.units m.map m.main version

    written_is : (version : GdbVersion) → written version ≡ gdb_bytes h.built version
    unfolding gdb_bytes
    written_is version =
        let units : image.units ≡ map (λ w. w.unit) program.walks = scans_units program.sections 0 image.units program.walks (of_program image is program program_is).scans in
        ap (λ (us : List UnitHeader). listed_bytes program us m.map m.main version) units ∙
        ap (λ (ps : List UnitRange). listed_bytes program (map (λ w. w.unit) program.walks) ps m.main version) (are_the_pieces h.built.ranges m.map h.map) ∙
        ap (λ (o : Option MainOf). listed_bytes program (map (λ w. w.unit) program.walks) (pieces h.built.ranges) o version) h.main

    abbrev Brings : GdbVersion → Kept → Type 0
    Brings version c = IsOkAnd (built_of image.file) (λ b. cache_seen c ≡ index_in (ByGdb version) b)

    gives : (version : GdbVersion) (c : Kept) → cache_seen c ≡ index_in (ByGdb version) h.built → Brings version c
    gives version c same = and_ok (built_of image.file) h.built (λ b. cache_seen c ≡ index_in (ByGdb version) b) h.accepted same

    module _ (version : GdbVersion) where
      abbrev own : List ℕ
      own = gdb_bytes h.built version

      small_is : leb (length (written version)) 4294967295 ≡ true → GdbBytes (written version) ≡ index_in (ByGdb version) h.built
      small_is small =
          ap (λ (xs : List ℕ). GdbBytes xs) (written_is version) ∙
          ap (λ (b : Bool). cond b (GdbBytes own) DoesNotFit) (sym (ap (λ (xs : List ℕ). leb (length xs) 4294967295) (sym (written_is version)) ∙ small))

      large_is : leb (length (written version)) 4294967295 ≡ false → DoesNotFit ≡ index_in (ByGdb version) h.built
      large_is large = ap (λ (b : Bool). cond b (GdbBytes own) DoesNotFit) (sym (ap (λ (xs : List ℕ). leb (length xs) 4294967295) (sym (written_is version)) ∙ large))

      pub brings : {Z : Type 0} (r : Result (Vec ℕ Z) WriteStop) (c : Option Kept) → IsKept r c → ForProgram image.file (λ p. IfOk r (λ v. v.items ≡ listed_bytes p image.units m.map m.main version)) → IfOk r (λ v. length v.items ≤ 4294967295) → ForProgram image.file (λ p. r ≡ Err too_large → 4294967295 < length (listed_bytes p image.units m.map m.main version)) →
          IfSome c (Brings version)
      brings r None same bytes fits large = tt
      brings (Ok v) (Some c) same bytes fits large =
          let items : v.items ≡ written version = bytes program program_is in
          let small : leb (length (written version)) 4294967295 ≡ true = le-leb (length (written version)) 4294967295 (omega (arith, fits, ap length items)) in
          gives version c (same ∙ ap (λ (xs : List ℕ). GdbBytes xs) items ∙ small_is small)
      brings (Err (Cause t)) (Some c) same bytes fits large =
          let big : leb (length (written version)) 4294967295 ≡ false = lt-leb (length (written version)) 4294967295 (large program program_is refl) in
          gives version c (same ∙ large_is big)
      brings (Err Memory) (Some c) same bytes fits large = absurd same
