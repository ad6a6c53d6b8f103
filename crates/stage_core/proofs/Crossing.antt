-- What a core hands out, what it has published and a core itself may go to another thread. A type as a field of another has a row
-- of its own, so the types that are held have a lemma on that row.
use denote.Ref.{NamedLft}
use denote.Param.Send.{IsSend, IsSync, sendable}
use Rattle.std.proofs.Crossing.{crosses}
use Rattle.index_model.specs.contracts.shard.Shard as Shard
use Rattle.index_model.specs.contracts.shard.Linked as Linked
use Rattle.index_model.specs.contracts.entry.Entry as Entry
use Rattle.query_engine.specs.contracts.table.Table as Table
use Rattle.stage_core.specs.contracts.output.Summary as Summary
use Rattle.stage_core.specs.contracts.output.Cache as Cache
use Rattle.stage_core.specs.contracts.output.Parts as Parts
use Rattle.stage_core.specs.contracts.output.Output as Output
use Rattle.stage_core.specs.contracts.progress.Progress as Progress
use Rattle.stage_core.specs.contracts.stock.Stock as Stock
use Rattle.stage_core.specs.contracts.task.Task as Task
use Rattle.stage_core.specs.contracts.build.Build as Build
use Rattle.stage_core.specs.contracts.machine.Core as Core

-- ---- what jobs bring

shard_send : (l : NamedLft) → IsSend (Shard.the_row l)
shard_send l = search (sendable, crosses) depth 60 fits 60000

shard_sync : (l : NamedLft) → IsSync (Shard.the_row l)
shard_sync l = search (sendable, crosses) depth 60 fits 60000

linked_send : (l : NamedLft) → IsSend (Linked.the_row l)
linked_send l = search (sendable, crosses) depth 60 fits 60000

linked_sync : (l : NamedLft) → IsSync (Linked.the_row l)
linked_sync l = search (sendable, crosses) depth 60 fits 60000

entry_send : (l : NamedLft) → IsSend (Entry.the_row l)
entry_send l = search (sendable, crosses) depth 60 fits 60000

summary_send : (l : NamedLft) → IsSend (Summary.the_row l)
summary_send l = search (sendable, crosses) depth 60 fits 60000

summary_sync : (l : NamedLft) → IsSync (Summary.the_row l)
summary_sync l = search (sendable, crosses) depth 60 fits 60000

table_send : (l : NamedLft) → IsSend (Table.the_row l)
table_send l = search (sendable, crosses) depth 60 fits 60000

table_sync : (l : NamedLft) → IsSync (Table.the_row l)
table_sync l = search (sendable, crosses) depth 60 fits 60000

cache_send : IsSend Cache.the_row
cache_send = search (sendable, crosses) depth 60 fits 60000

cache_sync : IsSync Cache.the_row
cache_sync = search (sendable, crosses) depth 60 fits 60000

output_send : (l : NamedLft) → IsSend (Output.the_row l)
output_send l = search (sendable, crosses, shard_send, shard_sync, linked_send, linked_sync, entry_send, summary_send, summary_sync, table_send, table_sync, cache_send, cache_sync) depth 60 fits 60000

-- ---- as fields of what holds them

progress_held : (l : NamedLft) → IsSend (Progress.the_field l).row
progress_held l = search (sendable, crosses, output_send) depth 60 fits 60000

stock_held : (l : NamedLft) → IsSend (Stock.the_field l).row
stock_held l = search (sendable, crosses, shard_send, shard_sync, linked_send, linked_sync) depth 60 fits 60000

pub parts_held : (l : NamedLft) → IsSend (Parts.the_field l).row
parts_held l = search (sendable, crosses, summary_send, summary_sync, table_send, table_sync, cache_send, cache_sync) depth 60 fits 60000

pub task_send : (l : NamedLft) → IsSend (Task.the_row l)
task_send l = search (sendable, crosses, shard_send, shard_sync, linked_send, linked_sync, entry_send, parts_held) depth 60 fits 60000

build_held : (l : NamedLft) → IsSend (Build.the_field l).row
build_held l = search (sendable, crosses, progress_held, stock_held, task_send, parts_held) depth 60 fits 60000

-- ---- the core

pub core_send : (l : NamedLft) → IsSend (Core.the_row l)
core_send l = search (sendable, crosses, build_held) depth 60 fits 60000
