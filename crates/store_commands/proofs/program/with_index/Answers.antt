use Rattle.std.proofs.Common.{◌≡◌, sym, subst}
use Rattle.index_model.specs.declared.job.CacheKind.{CacheKind}
use Rattle.stage_core.specs.Outputs.{cache_seen}
use Rattle.store_commands.specs.Adds.{HasRoom}
use Rattle.store_commands.specs.Programs.{staged, FillStops, FitsKind}
use Rattle.store_commands.proofs.KindLaws.{err_more, finish_stops, fresh, index_fits, ok_more, places, stops_program, with_added}
use Rattle.store_commands.proofs.program.with_index.Goals as goal

pub add_index-requires-clause-fresh : goal.add_index-requires-clause-fresh
add_index-requires-clause-fresh c = fresh c.args.file.now c.args.form (cache_seen c.args.cache.now) c.requires.index c.in-Ok.adder c.in-Ok.ensures

pub add_index-requires-clause-fits : goal.add_index-requires-clause-fits
add_index-requires-clause-fits c = subst (λ (kind : CacheKind). FitsKind kind (cache_seen c.args.cache.now)) (sym c.kind.ensures) (index_fits c.args.file.now c.args.form (cache_seen c.args.cache.now) c.requires.index)

pub finish-requires : goal.finish-requires
finish-requires c =
    let cache = cache_seen c.args.cache.now in
    let is = subst (λ (kind : CacheKind). c.add_index.new.adder ≡ record c.in-Ok.adder { addition = staged kind cache }) c.kind.ensures c.in-Ok-add_index.ensures.ok in
    places c.args.file.now c.args.form cache c.requires.index c.in-Ok.adder c.in-Ok.ensures c.add_index.new.adder is c.requires.small

pub returns-in-Ok-add_index-clause-ok : goal.returns-in-Ok-add_index-clause-ok
returns-in-Ok-add_index-clause-ok c =
    let cache = cache_seen c.args.cache.now in
    let is = subst (λ (kind : CacheKind). c.add_index.new.adder ≡ record c.in-Ok.adder { addition = staged kind cache }) c.kind.ensures c.in-Ok-add_index.ensures.ok in
    let room = subst (λ (kind : CacheKind). HasRoom kind c.in-Ok.adder.file c.in-Ok.adder.sections) c.kind.ensures c.in-Ok-add_index.ensures.room in
    ok_more _ _ _ c.finish.result c.finish.ensures.ok c.finish.ensures.fits (λ bytes e fits. with_added c.args.file.now c.args.form cache c.requires.index c.in-Ok.adder c.in-Ok.ensures c.add_index.new.adder is room fits bytes.items e)

pub returns-in-Ok-add_index-clause-err : goal.returns-in-Ok-add_index-clause-err
returns-in-Ok-add_index-clause-err c =
    let room = subst (λ (kind : CacheKind). HasRoom kind c.in-Ok.adder.file c.in-Ok.adder.sections) c.kind.ensures c.in-Ok-add_index.ensures.room in
    err_more _ _ c.finish.result c.finish.ensures.err (finish_stops c.args.file.now c.args.form (cache_seen c.args.cache.now) c.requires.index c.in-Ok.adder c.in-Ok.ensures room)

pub returns-in-Err-add_index-clause-err : goal.returns-in-Err-add_index-clause-err
returns-in-Err-add_index-clause-err c =
    let stops = subst (λ (kind : CacheKind). FillStops kind c.in-Ok.adder.file c.in-Ok.adder.sections c.in-Err-add_index.stop) c.kind.ensures c.in-Err-add_index.ensures.err in
    stops_program c.args.file.now c.args.form (cache_seen c.args.cache.now) c.requires.index c.in-Ok.adder c.in-Ok.ensures c.in-Err-add_index.stop stops
