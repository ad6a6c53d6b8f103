use Rattle.std.specs.Prelude.{flat_map}
use Rattle.common_laws.proofs.Appended.{four_parts}
use Rattle.index_model.specs.Layout.{u32_bytes}
use Rattle.debugnames_write.specs.Laid.{all_buckets, hash_bytes, string_bytes}
use Rattle.debugnames_write.proofs.index.push_names.Goals as goal

pub returns : goal.returns
returns c =
    four_parts c.args.out.now.items (flat_map u32_bytes (all_buckets c.args.names.now)) (hash_bytes c.args.names.now) (string_bytes c.args.names.now) (flat_map u32_bytes c.args.starts.now)
    c.in_ok-push_buckets.ensures c.in_ok-push_hashes.ensures c.in_ok-push_strings.ensures c.in_ok-push_u32s.ensures
