use Rattle.std.proofs.Common.{◌≡◌, List, length, sym, ap, subst, ◌∙◌, arith}
use Rattle.std.specs.Prelude.{codes, IfOk, IfErr, OnOk}
use Rattle.index_model.specs.declared.job.CacheKind.TheVariants.{Names}
use Rattle.index_model.specs.declared.unit.Unit.{Unit as UnitHeader}
use Rattle.index_model.specs.Machine.{Output}
use Rattle.index_model.specs.NameIndex.{name_index_bytes, name_index_strings}
use Rattle.index_model.specs.Outputs.{Made}
use Rattle.index_model.specs.Sections.{Section, section_bytes}
use Rattle.index_model.specs.WriteStops.{too_large}
use Rattle.debugnames_write.specs.Conditions.{AreIndexable, Fits}
use Rattle.stage_core.specs.Outputs.{summary_seen}
use Rattle.index_pool.specs.Written.{IsIndexOf}
use Rattle.index_pool.proofs.WriteJob.{indexable, names_bring, written_cache}
use Rattle.index_pool.proofs.write.name_cache.Goals as goal

pub write-requires : goal.write-requires
write-requires g c =
    let units = c.units-units.ensures in
    let indexed =
    subst (λ (us : List UnitHeader). AreIndexable us c.args.table.now) (sym units.value)
    (indexable c.args.image.now (summary_seen c.args.summary.now) c.args.table.now c.requires units.of_file (omega (arith, units.few, ap length units.value))
    (omega (arith, c.sections_are_small.ensures.info)) (omega (arith, c.sections_are_small.ensures.types))) in
    (c.type_bounds.sync-R, indexed)

pub returns : goal.returns
returns g c =
    let image = c.args.image.now in
    let es = c.args.table.now in
    let units = c.units-units.ensures in
    let r = c.write.result in
    let old = length c.get.result.now in
    let old_is = ap length (c.get.ensures.value ∙ ap (λ (ss : List Section). section_bytes ss (codes ".debug_str")) c.sections.ensures.value) in
    let names = subst (λ (us : List UnitHeader). IfOk r (λ x. x.names ≡ name_index_bytes us old es)) units.value c.write.ensures.names in
    let strings = subst (λ (us : List UnitHeader). IfOk r (λ x. x.strings ≡ name_index_strings us es)) units.value c.write.ensures.strings in
    let fits = subst (λ (us : List UnitHeader). OnOk r (Fits us old es)) units.value c.write.ensures.fits in
    let large = subst (λ (us : List UnitHeader). IfErr r (λ stop. stop ≡ too_large → ¬ Fits us old es)) units.value c.write.ensures.too_large in
    written_cache image Names c.names_cache.result
    (subst (λ (o : Output Made). IsIndexOf image Names o) (sym c.names_cache.ensures) (names_bring image (summary_seen c.args.summary.now) es c.requires units.of_file old old_is r names strings fits large))
