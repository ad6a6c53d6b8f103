use Rattle.std.proofs.Common.{◌≡◌, ◌<◌, List, length, Option, Err, sym, ap, subst, arith}
use Rattle.std.specs.Prelude.{option_map, IfOk}
use Rattle.index_model.specs.declared.answer.Main.{Main}
use Rattle.index_model.specs.declared.unit.Unit.{Unit as UnitHeader}
use Rattle.index_model.specs.GdbIndex.{gdb_index_bytes}
use Rattle.index_model.specs.Machine.{Output}
use Rattle.index_model.specs.Outputs.{Made}
use Rattle.index_model.specs.Seen.{main_seen}
use Rattle.index_model.specs.WriteStops.{too_large}
use Rattle.gdbindex_write.specs.Writable.{IsWritable}
use Rattle.stage_core.specs.Outputs.{output_seen, summary_seen}
use Rattle.index_pool.specs.Written.{IsIndexOf, kind_of_version}
use Rattle.index_pool.proofs.Performs.{brought_as}
use Rattle.index_pool.proofs.WriteJob.{writable, gdb_brings}
use Rattle.index_pool.proofs.write.gdb_index.Goals as goal

pub write-written-requires : goal.write-written-requires
write-written-requires c =
    let image = c.args.image.now in
    let map = c.args.summary.now.map in
    let es = c.args.table.now in
    let units = c.units-units.ensures in
    let own =
    writable image (summary_seen c.args.summary.now) es c.requires.published units.of_file (omega (arith, units.few, ap length units.value))
    (omega (arith, c.sections_are_small.ensures.info)) (omega (arith, c.sections_are_small.ensures.types)) c.args.version c.requires.version in
    subst (λ (us : List UnitHeader). IsWritable us map (option_map main_seen c.main_name-main.result) es c.args.version) (sym units.value)
    (subst (λ (o : Option Main). IsWritable image.units map o es c.args.version) (sym c.main_name-main.ensures) own)

pub returns : goal.returns
returns c =
    let image = c.args.image.now in
    let map = c.args.summary.now.map in
    let es = c.args.table.now in
    let units = c.units-units.ensures in
    let r = c.write-written.result in
    let main = option_map main_seen c.main_name-main.result in
    let bytes =
    subst (λ (o : Option Main). IfOk r (λ v. v.items ≡ gdb_index_bytes image.units map o es c.args.version)) c.main_name-main.ensures
    (subst (λ (us : List UnitHeader). IfOk r (λ v. v.items ≡ gdb_index_bytes us map main es c.args.version)) units.value c.write-written.ensures.bytes) in
    let large =
    subst (λ (o : Option Main). r ≡ Err too_large → 4294967295 < length (gdb_index_bytes image.units map o es c.args.version)) c.main_name-main.ensures
    (subst (λ (us : List UnitHeader). r ≡ Err too_large → 4294967295 < length (gdb_index_bytes us map main es c.args.version)) units.value c.write-written.ensures.too_large) in
    brought_as (λ (o : Output Made). IsIndexOf image (kind_of_version c.args.version) o) tt _ (output_seen c.of_cache.result) c.of_cache.ensures
    (subst (λ (o : Output Made). IsIndexOf image (kind_of_version c.args.version) o) (sym c.gdb_cache.ensures) (gdb_brings image (summary_seen c.args.summary.now) es c.requires.published units.of_file c.args.version c.requires.version r bytes c.write-written.ensures.fits large))
