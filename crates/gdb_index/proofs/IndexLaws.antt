-- What gdb lists can be written.
use Rattle.std.proofs.Common.{◌≡◌, ◌⊎◌, ◌<◌, List, length, Option, Ok, refl, sym, subst, inl, inr}
use Rattle.std.specs.Prelude.{All}
use Rattle.file_image.specs.Images.{Image, image_of}
use Rattle.index_model.specs.declared.answer.Main.{Main}
use Rattle.index_model.specs.declared.entry.Entry.{Entry}
use Rattle.index_model.specs.declared.range.UnitRange.{UnitRange}
use Rattle.index_model.specs.Faults.{program_of}
use Rattle.index_model.specs.Program.{Program}
use Rattle.index_model.proofs.ShardRoots.{program_numbered}
use Rattle.gdb_entries.specs.Entries.{entries_of, listed}
use Rattle.gdbindex_write.specs.Writable.{AreUnits, IsWritable}
use Rattle.index_forms.specs.Forms.{version_number}
use Rattle.index_forms.specs.declared.form.GdbVersion.{GdbVersion}
use Rattle.index_forms.specs.declared.form.GdbVersion.TheVariants.{Eight, Nine}
use Rattle.gdb_index.specs.Indexes.{main_listed}
use Rattle.gdb_index.proofs.EntryLaws.{have_units, main_among}
use Rattle.shard_build.proofs.WalkOfUnit.{walks_count}

version_is : (version : GdbVersion) → (version_number version ≡ 8) ⊎ (version_number version ≡ 9)
version_is Eight = inl refl
version_is Nine = inr refl

module _ (image : Image) (is : image_of image.file ≡ Ok image) (p : Program) (program_is : program_of image.file ≡ Ok p) where
  pub writable : (map : List UnitRange) (main : Option Main) (entries : List Entry) (version : GdbVersion) → AreUnits image.units → All (λ r. r.unit < length image.units) map → entries ≡ listed p → IsWritable image.units map (main_listed entries main) entries (version_number version)
  writable map main entries version units pieces own =
      subst (λ (es : List Entry). IsWritable image.units map (main_listed es main) es (version_number version)) (sym own) (record {
        units_are = units;
        pieces_are = pieces;
        entries_are = have_units p (length image.units) (walks_count image is p program_is) (program_numbered image.file p program_is);
        main_is = main_among (entries_of p) main;
        version_is = version_is version;
      })
