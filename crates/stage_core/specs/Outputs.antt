-- What contracts see of outputs and of what is published.
use Rattle.std.specs.Prelude.{option_map}
use Rattle.std.specs.Arc.{arc_value}
use Rattle.index_model.specs.Cache.{Cache as CacheOf, GdbBytes, NameBytes, DoesNotFit}
use Rattle.index_model.specs.Machine.{Output as OutputOf, Memory, Faulty, Gave}
use Rattle.index_model.specs.Outputs.{Summary as SummaryOf, Made, ShardOf, LinkedOf, SummaryOf as GaveSummary, RunOf, TableOf, CacheOf as GaveCache}
use Rattle.index_model.specs.Parts.{Parts as PartsOf}
use Rattle.stage_core.specs.declared.output.Cache.{Cache}
use Rattle.stage_core.specs.declared.output.Cache.TheVariants as caches
use Rattle.stage_core.specs.declared.output.Output.{Output}
use Rattle.stage_core.specs.declared.output.Output.TheVariants as outputs
use Rattle.stage_core.specs.declared.output.Parts.{Parts}
use Rattle.stage_core.specs.declared.output.Summary.{Summary}

-- the index
abbrev pub cache_seen : Cache → CacheOf
cache_seen (caches.Gdb bytes) = GdbBytes bytes
cache_seen (caches.Names bytes strings) = NameBytes bytes strings
cache_seen caches.TooLarge = DoesNotFit

-- main and the map
abbrev pub summary_seen : Summary → SummaryOf
summary_seen m = record { main = m.main; map = m.map }

-- the output of a job
abbrev pub output_seen : Output → OutputOf Made
output_seen (outputs.Shard shard) = Gave (ShardOf (arc_value shard))
output_seen (outputs.Linked linked) = Gave (LinkedOf (arc_value linked))
output_seen (outputs.Summary summary) = Gave (GaveSummary (summary_seen (arc_value summary)))
output_seen (outputs.Run run) = Gave (RunOf run)
output_seen (outputs.Table table) = Gave (TableOf (arc_value table))
output_seen (outputs.Cache cache) = Gave (GaveCache (cache_seen (arc_value cache)))
output_seen (outputs.Fault f) = Faulty f
output_seen outputs.Memory = Memory

-- what has been published
abbrev pub parts_seen : Parts → PartsOf
parts_seen p = record {
  summary = option_map (λ m. summary_seen (arc_value m)) p.summary;
  table = option_map arc_value p.table;
  cache = option_map (λ c. cache_seen (arc_value c)) p.cache;
  fault = p.fault;
}
