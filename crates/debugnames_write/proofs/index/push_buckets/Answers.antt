use Rattle.std.proofs.Common.{ℕ, List, ◌++◌, ap, ◌∙◌}
use Rattle.std.specs.Prelude.{flat_map}
use Rattle.index_model.specs.Layout.{u32_bytes}
use Rattle.debugnames_write.proofs.index.push_buckets.Goals as goal

pub returns : goal.returns
returns c = c.in_ok-push_u32s.ensures ∙ ap (λ (w : List ℕ). c.args.out.now.items ++ flat_map u32_bytes w) (c.deref.ensures.value ∙ c.in_ok-buckets.ensures)
