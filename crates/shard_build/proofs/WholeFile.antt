-- One shard of all units of a file.
use Rattle.std.proofs.Common.{◌≡◌, ℕ, List, [], ◌∷◌, length, take, drop, Result, Ok, Err, refl, sym, ap, subst, ◌∙◌}
use Rattle.std.specs.Prelude.{IsOkAnd}
use Rattle.std.specs.List.{enumerate_from}
use Rattle.std.proofs.lemmas.List.{append-nil}
use Rattle.std.proofs.lemmas.List.FromFn.{length-enumerate_from}
use Rattle.std.proofs.Math.Seq.{take-length}
use Rattle.ix_base.specs.declared.fault.Fault.{Fault}
use Rattle.index_model.specs.declared.shard.Shard.{Shard}
use Rattle.index_model.specs.declared.unit.Unit.{Unit as UnitHeader}
use Rattle.index_model.specs.Faults.{scanned, scan_of, program_of}
use Rattle.index_model.specs.Meaning.{each}
use Rattle.index_model.specs.Program.{Walked}
use Rattle.index_model.specs.Shards.{StandsFor}
use Rattle.file_image.specs.Images.{Image, image_of}
use Rattle.file_image.proofs.Images.{parts_of}
use Rattle.shard_build.specs.Entries.{AreShardsOfFile}

abbrev Numbered : Type 0
Numbered = ℕ × UnitHeader

all_units : (us : List UnitHeader) (n : ℕ) → n ≡ length us → take n (drop 0 (enumerate_from 0 us)) ≡ enumerate_from 0 us
all_units us n is =
    ap (λ (k : ℕ). take k (drop 0 (enumerate_from 0 us))) (is ∙ sym (length-enumerate_from 0 us)) ∙ take-length (enumerate_from 0 us)

pub program_is : (im : Image) → image_of im.file ≡ Ok im → (ws : List Walked) → each (scanned im.sections) (enumerate_from 0 im.units) ≡ Ok ws → program_of im.file ≡ Ok (record { sections = im.sections; walks = ws })
unfolding program_of scan_of
program_is im image ws is = let p = parts_of im.file im image in rw (p.sections, p.units, is) refl

-- a shard that stands for all units is the only one of the file
pub whole_file : (im : Image) → image_of im.file ≡ Ok im → (n : ℕ) → n ≡ length im.units → (s : Shard) → IsOkAnd (each (scanned im.sections) (take n (drop 0 (enumerate_from 0 im.units)))) (StandsFor im.sections s) → AreShardsOfFile im (s ∷ [])
whole_file im image n all s h = by_walks (each (scanned im.sections) (enumerate_from 0 im.units)) refl (subst (λ (us : List Numbered). IsOkAnd (each (scanned im.sections) us) (StandsFor im.sections s)) (all_units im.units n all) h)
  where
    by_walks : (r : Result (List Walked) Fault) → each (scanned im.sections) (enumerate_from 0 im.units) ≡ r → IsOkAnd r (StandsFor im.sections s) → AreShardsOfFile im (s ∷ [])
    by_walks (Ok ws) e stands = record {
      program = record { sections = im.sections; walks = ws };
      is = program_is im image ws e;
      are = record { runs = ws ∷ []; all = append-nil ws; stand = (stands, tt) };
    }
    by_walks (Err f) e stands = absurd stands
