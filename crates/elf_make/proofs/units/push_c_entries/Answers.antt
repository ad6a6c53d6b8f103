use Rattle.std.proofs.Common.{◌++◌, ap, sym, ◌∙◌}
use Rattle.elf_make.proofs.Chains.{◌▸◌, nothing}
use Rattle.elf_make.proofs.Encodings.{c_entries_are}
use Rattle.elf_make.proofs.units.push_c_entries.Goals as goal

pub returns : goal.returns
returns c =
    let parts =
    c.in_ok-push.ensures.items ▸ c.in_ok-push_numbered.ensures ▸ c.in_ok-push_addresses.ensures
    ▸ c.in_ok-push-2.ensures.items ▸ c.in_ok-push_text.ensures ▸ c.in_ok-push_addresses-2.ensures
    ▸ c.in_ok-push-3.ensures.items ▸ c.in_ok-push_numbered-2.ensures ▸ c.in_ok-extend_from_slice.ensures.items ▸ c.in_ok-push_xword.ensures
    ▸ c.in_ok-push-4.ensures.items ▸ c.in_ok-push_text-2.ensures ▸ nothing _ in
    parts.is ∙ ap (λ xs. c.args.out.now.items ++ xs) (sym (c_entries_are c.args.low c.args.index))
