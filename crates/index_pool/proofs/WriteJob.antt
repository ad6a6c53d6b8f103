-- The output of the Write job.
use Rattle.std.proofs.Common.{◌≡◌, ◌⊎◌, ℕ, ◌+◌, ◌<◌, ◌≤◌, ◌^◌, Bool, true, false, cond, ◌&&◌, leb, List, [], ◌∷◌, length, map, Option, Some, None, Result, Ok, Err, Vec, refl, sym, ap, subst, ◌∙◌, arith, inl, inr}
use Rattle.std.specs.Prelude.{All, IfSome, IfOk, IfErr, OnOk, IsOkAnd, IsSomeAnd, codes}
use Rattle.std.proofs.lemmas.Bool.{le-leb, leb-true, lt-leb}
use Rattle.ix_base.specs.declared.limits.TheConstants.{MAX_UNITS}
use Rattle.file_image.specs.Images.{Image, image_of}
use Rattle.file_image.proofs.Images.{parts_of}
use Rattle.index_model.specs.declared.answer.Main.{Main as MainOf}
use Rattle.index_model.specs.declared.entry.Entry.{Entry}
use Rattle.index_model.specs.declared.job.CacheKind.{CacheKind}
use Rattle.index_model.specs.declared.job.CacheKind.TheVariants.{Names}
use Rattle.index_model.specs.declared.job.Job.TheVariants.{Main, Merge, Write}
use Rattle.index_model.specs.declared.range.UnitRange.{UnitRange}
use Rattle.index_model.specs.declared.unit.Unit.{Unit as UnitHeader}
use Rattle.index_model.specs.Answers.{entries_in}
use Rattle.index_model.specs.Cache.{Cache, GdbBytes, NameBytes, DoesNotFit, gdb_cache, name_cache, cache_of, cache_in, string_bytes_in}
use Rattle.index_model.specs.Faults.{Built, built_of, program_of, links_of, all_ranges}
use Rattle.index_model.specs.GdbIndex.{gdb_index_bytes}
use Rattle.index_model.specs.Links.{links_in}
use Rattle.index_model.specs.MainProgram.{main_of}
use Rattle.index_model.specs.NameIndex.{name_index_bytes, name_index_strings}
use Rattle.index_model.specs.Pieces.{IsPieces, pieces}
use Rattle.index_model.specs.Program.{Walked, Program}
use Rattle.index_model.specs.Sections.{Section, section_bytes}
use Rattle.index_model.specs.Units.{units_of}
use Rattle.index_model.specs.Machine.{Output, Memory, Faulty, Gave}
use Rattle.index_model.specs.Outputs.{Subject, Summary, Made, ShardOf, LinkedOf, SummaryOf, RunOf, TableOf, CacheOf, Makes, IsOutputOf}
use Rattle.index_model.specs.Parts.{Parts}
use Rattle.index_model.proofs.Meanings.{bind_ok, same_ok}
use Rattle.index_model.proofs.Scans.{AreScans, scanned_walked, program_parts}
use Rattle.index_model.proofs.UnitsApart.{walk_parts}
use Rattle.address_map.proofs.Halves.{are_the_pieces}
use Rattle.index_model.specs.WriteStops.{WriteStop, too_large}
use Rattle.ix_base.specs.declared.or_memory.OrMemory.TheVariants as stops
use Rattle.gdbindex_write.specs.Writable.{IsWritable, HasUnit, IsMainOf}
use Rattle.debugnames_write.specs.declared.writer.NameBytes.{NameBytes as Written}
use Rattle.debugnames_write.specs.Conditions.{AreIndexable, Fits, IsInside}
use Rattle.stage_core.specs.declared.output.Cache.{Cache as CacheMade}
use Rattle.stage_core.specs.Inputs.{PublishedOf}
use Rattle.stage_core.specs.Outputs.{cache_seen}
use Rattle.index_pool.specs.Drawn.{IsDrawn}
use Rattle.index_pool.specs.Outputs.{cache_output, gdb_output, names_output}
use Rattle.index_pool.specs.Written.{ArePublished, IsIndexOf, kind_of_version}
use Rattle.index_pool.proofs.FileEntries.{entries_in_units, entries_have_units, pieces_in_units, main_named}
use Rattle.index_pool.proofs.FileUnits.{gdb_units, name_units}
use Rattle.index_pool.proofs.Given.{IsOut, is_out}
use Rattle.index_pool.proofs.Lists.{ok_and, and_ok, at_ok}
use Rattle.index_pool.proofs.ScanJob.{same_image}

-- ---- a file without a fault

pub record HasParts (f : List ℕ) (b : Built) : Type 0 where
  pub program : program_of f ≡ Ok b.program
  pub links : links_of b.program ≡ Ok b.links
  pub ranges : all_ranges b.program b.links ≡ Ok b.ranges

pub has_parts : (f : List ℕ) (b : Built) → built_of f ≡ Ok b → HasParts f b
unfolding built_of
has_parts f b is =
    let p = bind_ok (program_of f) _ b is in
    let k = bind_ok (links_of p.0) _ b p.2 in
    let r = bind_ok (all_ranges p.0 k.0) _ b k.2 in
    let made : Built = record { program = p.0; links = k.0; ranges = r.0 } in
    subst (HasParts f) (same_ok made b r.2) (record { program = p.1; links = k.1; ranges = r.1 })

pub scans_units : (ss : List Section) (n : ℕ) (us : List UnitHeader) (ws : List Walked) → AreScans ss n us ws → us ≡ map (λ w. w.unit) ws
scans_units ss n [] [] s = refl
scans_units ss n [] (w ∷ ws) s = absurd s
scans_units ss n (u ∷ us) [] s = absurd s
scans_units ss n (u ∷ us) (w ∷ ws) s =
    let unit : w.unit ≡ u = (walk_parts ss (n, u) w (scanned_walked ss (n, u) w s.0).0).1 in
    ap (λ (v : UnitHeader). v ∷ us) (sym unit) ∙ ap (λ (vs : List UnitHeader). w.unit ∷ vs) (scans_units ss (n + 1) us ws s.1)

-- the sections and the units of an image are those of its file
pub record OfProgram (image : Image) (p : Program) : Type 0 where
  pub sections : image.sections ≡ p.sections
  pub units : units_of image.sections ≡ Ok image.units
  pub scans : AreScans p.sections 0 image.units p.walks

pub of_program : (image : Image) → image_of image.file ≡ Ok image → (p : Program) → program_of image.file ≡ Ok p → OfProgram image p
of_program image is p file =
    let own = parts_of image.file image is in
    let a = program_parts image.file p file in
    let sections : image.sections ≡ p.sections = same_ok image.sections p.sections (sym own.sections ∙ a.1) in
    let units : a.0 ≡ image.units = same_ok a.0 image.units (sym a.2 ∙ ap units_of (sym sections) ∙ own.units) in
    record { sections = sections; units = own.units; scans = subst (λ (us : List UnitHeader). AreScans p.sections 0 us p.walks) units a.3 }

-- ---- what can be written of a file without a fault

module _ (image : Image) (is : image_of image.file ≡ Ok image) (few : length image.units ≤ MAX_UNITS) (info : length (section_bytes image.sections (codes ".debug_info")) ≤ 2 ^ 30) (types : length (section_bytes image.sections (codes ".debug_types")) ≤ 2 ^ 30) where
  -- any entries that have units, with the pieces of the file's ranges
  pub writable_of : (b : Built) → built_of image.file ≡ Ok b → (map : List UnitRange) → IsPieces b.ranges map → (main : Option MainOf) (entries : List Entry) (version : ℕ) → (version ≡ 8) ⊎ (version ≡ 9) → All (HasUnit image.units) entries → IsMainOf entries main →
      IsWritable image.units map main entries version
  writable_of b accepted map are main entries version known have named =
      let parts = has_parts image.file b accepted in
      let own = of_program image is b.program parts.program in
      record {
        units_are = gdb_units image.sections image.units own.units few info types;
        pieces_are = pieces_in_units image.file b.program parts.program b.links parts.links image.units own.scans b.ranges parts.ranges map are;
        entries_are = have;
        main_is = named;
        version_is = known;
      }

-- ---- what is published, and the image's own

module _ (image : Image) (m : Summary) (entries : List Entry) (h : ArePublished image m entries) (is : image_of image.file ≡ Ok image) where
  parts : HasParts image.file h.built
  parts = has_parts image.file h.built h.accepted

  own : OfProgram image h.built.program
  own = of_program image is h.built.program parts.program

  links : links_in h.built.program h.built.program.walks ≡ Ok h.built.links
  unfolding links_of
  links = parts.links

  module _ (few : length image.units ≤ MAX_UNITS) (info : length (section_bytes image.sections (codes ".debug_info")) ≤ 2 ^ 30) (types : length (section_bytes image.sections (codes ".debug_types")) ≤ 2 ^ 30) where
    pub writable : (version : ℕ) → (version ≡ 8) ⊎ (version ≡ 9) → IsWritable image.units m.map m.main entries version
    writable version known =
        let own_entries = entries_have_units image.file h.built.program parts.program h.built.links links image.units own.scans in
        let main = main_named h.built.program h.built.links in
        writable_of image is few info types h.built h.accepted m.map h.map m.main entries version known
        (subst (λ (es : List Entry). All (HasUnit image.units) es) (sym h.entries_are) own_entries)
        (subst (λ (es : List Entry). IsMainOf es m.main) (sym h.entries_are) (subst (IsMainOf (entries_in h.built)) (sym h.main) main))

    pub indexable : AreIndexable image.units entries
    indexable =
        let own_entries = entries_in_units image.file h.built.program parts.program h.built.links links image.units own.scans in
        record {
          units_are = name_units image.sections image.units own.units few info types;
          inside = subst (λ (es : List Entry). All (IsInside image.units) es) (sym h.entries_are) own_entries;
        }

  -- ---- the index

  units_are : image.units ≡ map (λ w. w.unit) h.built.program.walks
  units_are = scans_units h.built.program.sections 0 image.units h.built.program.walks own.scans

  -- the index of a kind, by what is published
  cache_is : (kind : CacheKind) (old_strings : ℕ) → old_strings ≡ string_bytes_in image.sections → cache_of kind image.units m.map m.main old_strings entries ≡ cache_in kind h.built
  unfolding cache_in
  cache_is kind old_strings old =
      ap (λ (us : List UnitHeader). cache_of kind us m.map m.main old_strings entries) units_are ∙
      ap (λ (ps : List UnitRange). cache_of kind (map (λ w. w.unit) h.built.program.walks) ps m.main old_strings entries) (are_the_pieces h.built.ranges m.map h.map) ∙
      ap (λ (o : Option MainOf). cache_of kind (map (λ w. w.unit) h.built.program.walks) (pieces h.built.ranges) o old_strings entries) h.main ∙
      ap (λ (n : ℕ). cache_of kind (map (λ w. w.unit) h.built.program.walks) (pieces h.built.ranges) (main_of h.built.program h.built.links) n entries) (old ∙ ap string_bytes_in own.sections) ∙
      ap (cache_of kind (map (λ w. w.unit) h.built.program.walks) (pieces h.built.ranges) (main_of h.built.program h.built.links) (string_bytes_in h.built.program.sections)) h.entries_are

  gives : (kind : CacheKind) (old_strings : ℕ) → old_strings ≡ string_bytes_in image.sections → (c : Cache) → c ≡ cache_of kind image.units m.map m.main old_strings entries → IsOkAnd (built_of image.file) (λ b. c ≡ cache_in kind b)
  gives kind old_strings old c same = and_ok (built_of image.file) h.built (λ b. c ≡ cache_in kind b) h.accepted (same ∙ cache_is kind old_strings old)

  abbrev gdb_bytes : ℕ → List ℕ
  gdb_bytes version = gdb_index_bytes image.units m.map m.main entries version

  gdb_is : (version : ℕ) → (version ≡ 8) ⊎ (version ≡ 9) → gdb_cache (gdb_bytes version) ≡ cache_of (kind_of_version version) image.units m.map m.main (string_bytes_in image.sections) entries
  unfolding cache_of
  gdb_is version (inl is) = rw is refl
  gdb_is version (inr is) = rw is refl

  pub gdb_brings : {Z : Type 0} (version : ℕ) → (version ≡ 8) ⊎ (version ≡ 9) → (r : Result (Vec ℕ Z) WriteStop) → IfOk r (λ v. v.items ≡ gdb_bytes version) → IfOk r (λ v. length v.items ≤ 4294967295) → (r ≡ Err too_large → 4294967295 < length (gdb_bytes version)) →
      IsIndexOf image (kind_of_version version) (gdb_output r)
  gdb_brings version known (Ok v) bytes fits large =
      let small : leb (length (gdb_bytes version)) 4294967295 ≡ true = le-leb (length (gdb_bytes version)) 4294967295 (omega (arith, fits, ap length bytes)) in
      gives (kind_of_version version) (string_bytes_in image.sections) refl (GdbBytes v.items)
      (ap (λ (xs : List ℕ). GdbBytes xs) bytes ∙ ap (λ (b : Bool). cond b (GdbBytes (gdb_bytes version)) DoesNotFit) (sym small) ∙ gdb_is version known)
  gdb_brings version known (Err (stops.Cause t)) bytes fits large =
      let big : leb (length (gdb_bytes version)) 4294967295 ≡ false = lt-leb (length (gdb_bytes version)) 4294967295 (large refl) in
      gives (kind_of_version version) (string_bytes_in image.sections) refl DoesNotFit
      (ap (λ (b : Bool). cond b (GdbBytes (gdb_bytes version)) DoesNotFit) (sym big) ∙ gdb_is version known)
  gdb_brings version known (Err stops.Memory) bytes fits large = tt

  module _ (old_strings : ℕ) (old : old_strings ≡ string_bytes_in image.sections) where
    abbrev name_bytes : List ℕ
    name_bytes = name_index_bytes image.units old_strings entries

    abbrev strings : List ℕ
    strings = name_index_strings image.units entries

    names_are : name_cache old_strings name_bytes strings ≡ cache_of Names image.units m.map m.main old_strings entries
    unfolding cache_of
    names_are = refl

    -- both tests decide whether the index fits
    does_fit : Fits image.units old_strings entries → (leb (length name_bytes) 4294967283 && leb (old_strings + length strings) 4294967295) ≡ true
    does_fit fits = rw (le-leb (length name_bytes) 4294967283 fits.names, le-leb (old_strings + length strings) 4294967295 fits.strings) refl

    does_not_fit : (Fits image.units old_strings entries → ⊥) → (leb (length name_bytes) 4294967283 && leb (old_strings + length strings) 4294967295) ≡ false
    does_not_fit off = by (leb (length name_bytes) 4294967283) refl (leb (old_strings + length strings) 4294967295) refl
      where
        by : (a : Bool) → leb (length name_bytes) 4294967283 ≡ a → (b : Bool) → leb (old_strings + length strings) 4294967295 ≡ b → (a && b) ≡ false
        by false e b i = refl
        by true e false i = refl
        by true e true i = absurd (off (record { names = leb-true (length name_bytes) 4294967283 e; strings = leb-true (old_strings + length strings) 4294967295 i }))

    pub names_bring : (r : Result Written WriteStop) → IfOk r (λ x. x.names ≡ name_bytes) → IfOk r (λ x. x.strings ≡ strings) → OnOk r (Fits image.units old_strings entries) → IfErr r (λ stop. stop ≡ too_large → ¬ Fits image.units old_strings entries) →
        IsIndexOf image Names (names_output r)
    names_bring (Ok x) first second fits large =
        gives Names old_strings old (NameBytes x.names x.strings)
        (ap (λ (xs : List ℕ). NameBytes xs x.strings) first ∙ ap (λ (xs : List ℕ). NameBytes name_bytes xs) second ∙ ap (λ (b : Bool). cond b (NameBytes name_bytes strings) DoesNotFit) (sym (does_fit fits)) ∙ names_are)
    names_bring (Err (stops.Cause t)) first second fits large =
        gives Names old_strings old DoesNotFit
        (ap (λ (b : Bool). cond b (NameBytes name_bytes strings) DoesNotFit) (sym (does_not_fit (large refl))) ∙ names_are)
    names_bring (Err stops.Memory) first second fits large = tt

-- an index that was written, alone and as an output
pub written_cache : (image : Image) (kind : CacheKind) (o : Option CacheMade) → IsIndexOf image kind (cache_output o) → IfSome o (λ cache. IsOkAnd (built_of image.file) (λ b. cache_seen cache ≡ cache_in kind b))
written_cache image kind None is = tt
written_cache image kind (Some cache) is = is

pub cache_written : (image : Image) (kind : CacheKind) (o : Option CacheMade) → IfSome o (λ cache. IsOkAnd (built_of image.file) (λ b. cache_seen cache ≡ cache_in kind b)) → IsIndexOf image kind (cache_output o)
cache_written image kind None is = tt
cache_written image kind (Some cache) is = is

-- ---- what is given for the Write job

module _ (image : Image) (given : Parts) (kind : CacheKind) (d : IsDrawn image (record { job = Write; given = PublishedOf given kind })) where
  abbrev s : Subject
  s = d.machine.subject

  out : IsOut s (record { job = Write; given = PublishedOf given kind })
  out = is_out image (record { job = Write; given = PublishedOf given kind }) d

  file_is : image.file ≡ s.file
  file_is = (same_image s out.runs image d.image_is).file

  -- the summary and the table are there
  pub has_summary : given.summary ≡ None → ⊥
  has_summary = λ none. subst (λ (o : Option Summary). IsSomeAnd o (λ m. Makes s Main (SummaryOf m))) none out.given.summary

  pub has_table : given.table ≡ None → ⊥
  has_table = λ none. subst (λ (o : Option (List Entry)). IsSomeAnd o (λ es. Makes s Merge (TableOf es))) none out.given.table

  -- what is given is what the file means
  pub are_published : (m : Summary) (es : List Entry) → given.summary ≡ Some m → given.table ≡ Some es → ArePublished image m es
  are_published m es first second =
      let summary : Makes s Main (SummaryOf m) = subst (λ (o : Option Summary). IsSomeAnd o (λ m. Makes s Main (SummaryOf m))) first out.given.summary in
      let table : Makes s Merge (TableOf es) = subst (λ (o : Option (List Entry)). IsSomeAnd o (λ es. Makes s Merge (TableOf es))) second out.given.table in
      let b = ok_and (built_of s.file) (λ b. (m.main ≡ main_of b.program b.links) × IsPieces b.ranges m.map) summary in
      record {
        built = b.0;
        accepted = ap built_of file_is ∙ b.1;
        main = b.2.0;
        map = b.2.1;
        entries_are = at_ok (built_of s.file) b.0 (λ b. es ≡ entries_in b) b.1 table;
      }

  pub write_brings : (o : Output Made) → IsIndexOf image kind o → IsOutputOf s Write o
  write_brings Memory is = tt
  write_brings (Faulty f) is = absurd is
  write_brings (Gave (CacheOf c)) is =
      let at_file : IsOkAnd (built_of s.file) (λ b. c ≡ cache_in kind b) = subst (λ (f : List ℕ). IsOkAnd (built_of f) (λ b. c ≡ cache_in kind b)) file_is is in
      (refl, subst (λ (k : CacheKind). IsOkAnd (built_of s.file) (λ b. c ≡ cache_in k b)) (sym out.given.kind_is) at_file)
  write_brings (Gave (ShardOf x)) is = absurd is
  write_brings (Gave (LinkedOf x)) is = absurd is
  write_brings (Gave (SummaryOf x)) is = absurd is
  write_brings (Gave (RunOf x)) is = absurd is
  write_brings (Gave (TableOf x)) is = absurd is
