use Rattle.std.proofs.Common.{sym, ap, ◌∙◌}
use Rattle.shard_build.specs.Entries.{EntriesOf}
use Rattle.qualified_names.proofs.AroundLaws.{around_root}
use Rattle.qualified_names.proofs.names.QualifiedNames.new.Goals as goal

pub invariant_of-result : goal.invariant_of-result
invariant_of-result c = (
  c.in_ok-new-2.ensures ∙ sym (ap (λ (e : EntriesOf). e.shards) c.in_ok-new.ensures),
  λ p file d dc top. around_root p d top c.new-3.result.items c.new-3.ensures.items,
  c.in_ok-new-3.ensures c.in_ok-new.field-0,
)
