use Rattle.std.proofs.Common.{arith}
use Rattle.elf_make.proofs.Sizes.{names_end_is, headers_joined}
use Rattle.elf_make.proofs.body.push_section_headers.Goals as goal

pub overflow_sub-size : goal.overflow_sub-size
overflow_sub-size c =
    let e = names_end_is c.args.sections.now in
    omega (arith, e, c.requires.names_at, c.requires.names_end)

pub returns : goal.returns
returns c = headers_joined c.args.sections.now c.args.file.now.items c.push_zeros.new.file.items c.push_added_headers.new.file.items _ c.in_ok-own_name.own_name c.args.layout.now.names_at c.args.layout.now.names_end c.in_ok-push_zeros.ensures c.in_ok-own_name.ensures.headers c.in_ok-push_section_header.ensures c.in_ok-own_name.ensures.name c.requires.names_at c.requires.names_end
