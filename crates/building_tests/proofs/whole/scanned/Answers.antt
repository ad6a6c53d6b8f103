use Rattle.std.proofs.Common.{◌≡◌, ◌∷◌, [], length, List, sym, ap, subst}
use Rattle.index_model.specs.declared.shard.Shard.{Shard}
use Rattle.index_model.specs.declared.unit.Unit.{Unit as UnitHeader}
use Rattle.shard_build.specs.Entries.{AreShardsOfFile}
use Rattle.shard_build.proofs.WholeFile.{whole_file}
use Rattle.building_tests.proofs.whole.scanned.Goals as goal

pub returns : goal.returns
returns c =
    let im = c.args.image.now in
    let many : length c.units.result.now ≡ length im.units = ap (λ (us : List UnitHeader). length us) c.units.ensures.value in
    subst (λ (s : Shard). AreShardsOfFile im (s ∷ [])) (sym c.in_ok-new.ensures.ok) (whole_file im c.units.ensures.of_file (length c.units.result.now) many c.in_ok-shard.shard c.in_ok-shard.ensures)
