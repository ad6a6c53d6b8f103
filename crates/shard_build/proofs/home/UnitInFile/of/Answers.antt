use Rattle.std.proofs.Common.{◌≡◌, List, get_or, Some, refl, sym, subst}
use Rattle.std.specs.Prelude.{slice_get}
use Rattle.std.proofs.lemmas.Option.{slice_get-get_or}
use Rattle.index_model.specs.declared.unit.Unit.{Unit as UnitHeader}
use Rattle.shard_build.proofs.UnitPlaces.{ends_small}
use Rattle.shard_build.proofs.home.UnitInFile.of.Goals as goal

pub returns : goal.returns
returns c =
    let im = c.args.image.now in
    let at = subst (λ (us : List UnitHeader). slice_get im.units c.args.number ≡ Some (get_or us c.args.number _)) (sym c.units.ensures.value) (slice_get-get_or im.units c.args.number _ c.requires) in
    let own = c.unit_bytes.ensures.own _ at in
    let small = c.unit_bytes.ensures.small _ at in
    record {
      sections = c.sections.ensures.value;
      number = refl;
      unit = at;
      own = own;
      header = c.unit_bytes.ensures.header _ at;
      small = small;
      ends = ends_small im.file im c.args.number _ c.unit_bytes.result.now c.units.ensures.of_file at own small;
      of_file = c.units.ensures.of_file;
    }
