use Rattle.std.proofs.Common.{map, sym, subst, ◌∙◌}
use Rattle.std.specs.Arc.{arc_value}
use Rattle.index_model.specs.declared.shard.Shard.{Shard}
use Rattle.shard_build.specs.Found.{IsUnitAt, IsFoundIn}
use Rattle.shard_build.proofs.FoundShards.{none_has, one_has, no_unit, no_shard, found_in}
use Rattle.shard_build.proofs.found.NodeOrSpan.of.Goals as goal

pub returns-in_default : goal.returns-in_default
returns-in_default c p is are =
    let f = c.args.image.now.file in
    no_unit f p is (map arc_value c.args.shards.now) are c.args.offset (subst (IsUnitAt f c.args.offset) c.in_default.is c.unit_at.ensures)

pub returns-in-Some-shard_of : goal.returns-in-Some-shard_of
returns-in-Some-shard_of c p is are =
    let f = c.args.image.now.file in
    let o = c.args.offset in
    let u = c.in-Some.unit in
    let at = subst (IsUnitAt f o) c.in-Some.is c.unit_at.ensures in
    let item = c.index-shards-place.result in
    let has = one_has u c.args.shards.now c.in-Some-shard_of.place item (sym c.shard_of.ensures.value ∙ c.in-Some-shard_of.is) c.index-shards-place.is in
    found_in f p is (map arc_value c.args.shards.now) are o u at (arc_value item) has.0 has.1 c.in_shard.result (subst (λ (s : Shard). IsFoundIn s o c.in_shard.result) c.deref.ensures c.in_shard.ensures)

pub returns-in-None : goal.returns-in-None
returns-in-None c p is are =
    let f = c.args.image.now.file in
    let u = c.in-Some.unit in
    let at = subst (IsUnitAt f c.args.offset) c.in-Some.is c.unit_at.ensures in
    no_shard f p is (map arc_value c.args.shards.now) are c.args.offset u at (none_has u c.args.shards.now (sym c.shard_of.ensures.value ∙ c.in-None.is))
