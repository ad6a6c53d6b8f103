use Rattle.index_model.specs.Layout.{u32_bytes, u64_bytes}
use Rattle.reach_model.specs.Added.{new_header}
use Rattle.elf_add.proofs.Words.{ten_parts}
use Rattle.elf_add.proofs.new_headers.push_new_header.Goals as goal

pub returns : goal.returns
unfolding new_header
returns c = ten_parts
    c.args.bytes.now.items (u32_bytes c.args.name) (u32_bytes 1) (u64_bytes 0) (u64_bytes 0) (u64_bytes c.args.at) (u64_bytes c.args.size) (u32_bytes 0) (u32_bytes 0) (u64_bytes 4) (u64_bytes 0)
    c.in_ok-push_u32.ensures c.in_ok-push_u32-2.ensures c.in_ok-push_u64.ensures c.in_ok-push_u64-2.ensures c.in_ok-push_u64-3.ensures c.in_ok-push_u64-4.ensures c.in_ok-push_u32-3.ensures c.in_ok-push_u32-4.ensures c.in_ok-push_u64-5.ensures c.in_ok-push_u64-6.ensures
