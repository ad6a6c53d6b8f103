use Rattle.std.proofs.Common.{◌≡◌, ◌+◌, ◌-◌, ◌++◌, cond, eqb, ap, sym, ◌∙◌, arith}
use Rattle.elf_make.specs.PlainForm.{unit_header}
use Rattle.elf_make.proofs.Chains.{◌▸◌, nothing}
use Rattle.elf_make.proofs.Encodings.{c_unit_is}
use Rattle.elf_make.proofs.units.push_c_unit.Goals as goal

pub returns : goal.returns
returns c =
    let size : 109 + c.main_size.result - 12 ≡ 97 + cond (eqb c.args.index 0) 18 0 = omega (arith, c.main_size.ensures) in
    let header : c.push_unit_header.new.out.items ≡ c.args.out.now.items ++ unit_header (97 + cond (eqb c.args.index 0) 18 0) = c.in_ok-push_unit_header.ensures ∙ ap (λ n. c.args.out.now.items ++ unit_header n) size in
    let parts =
    header ▸ c.in_ok-push.ensures.items ▸ c.in_ok-push_file_name.ensures
    ▸ c.in_ok-push-2.ensures.items ▸ c.in_ok-push_addresses.ensures ▸ c.in_ok-push_main.ensures ▸ c.in_ok-push_c_entries.ensures
    ▸ c.in_ok-push-3.ensures.items ▸ nothing _ in
    parts.is ∙ ap (λ xs. c.args.out.now.items ++ xs) (sym (c_unit_is c.args.low c.args.index))
