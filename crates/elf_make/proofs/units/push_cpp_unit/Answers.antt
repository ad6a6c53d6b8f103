use Rattle.std.proofs.Common.{◌++◌, ap, sym, ◌∙◌}
use Rattle.elf_make.proofs.Chains.{◌▸◌, nothing}
use Rattle.elf_make.proofs.Encodings.{cpp_unit_is}
use Rattle.elf_make.proofs.units.push_cpp_unit.Goals as goal

pub returns : goal.returns
returns c =
    let parts =
    c.in_ok-push_unit_header.ensures ▸ c.in_ok-push.ensures.items ▸ c.in_ok-push_file_name.ensures
    ▸ c.in_ok-push-2.ensures.items ▸ c.in_ok-push_addresses.ensures
    ▸ c.in_ok-push-3.ensures.items ▸ c.in_ok-push_text.ensures ▸ c.in_ok-push-4.ensures.items ▸ c.in_ok-push_numbered.ensures
    ▸ c.in_ok-push-5.ensures.items ▸ c.in_ok-push_text-2.ensures ▸ c.in_ok-push-6.ensures.items ▸ c.in_ok-push-7.ensures.items
    ▸ c.in_ok-push-8.ensures.items ▸ c.in_ok-push_word.ensures ▸ c.in_ok-push_addresses-2.ensures ▸ c.in_ok-push-9.ensures.items
    ▸ nothing _ in
    parts.is ∙ ap (λ xs. c.args.out.now.items ++ xs) (sym (cpp_unit_is c.args.low c.args.index c.args.declared))
