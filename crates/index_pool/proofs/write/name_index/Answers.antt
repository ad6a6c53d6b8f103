use Rattle.index_model.specs.declared.job.CacheKind.TheVariants.{Names}
use Rattle.index_model.specs.Machine.{Output}
use Rattle.index_model.specs.Outputs.{Made}
use Rattle.stage_core.specs.Outputs.{output_seen}
use Rattle.index_pool.specs.Written.{IsIndexOf}
use Rattle.index_pool.proofs.Performs.{brought_as}
use Rattle.index_pool.proofs.WriteJob.{cache_written}
use Rattle.index_pool.proofs.write.name_index.Goals as goal

pub returns : goal.returns
returns g c =
    let image = c.args.image.now in
    brought_as (λ (o : Output Made). IsIndexOf image Names o) tt _ (output_seen c.of_cache.result) c.of_cache.ensures (cache_written image Names c.name_cache.result c.name_cache.ensures)
