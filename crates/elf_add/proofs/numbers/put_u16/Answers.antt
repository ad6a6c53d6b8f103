use Rattle.std.proofs.Common.{arith}
use Rattle.elf_add.proofs.Puts.{written}
use Rattle.elf_add.proofs.numbers.put_u16.Goals as goal

pub returns : goal.returns
returns c = written 2 c.args.place c.args.number c.args.bytes.now c.write_u16.new.buf (omega arith) c.write_u16.ensures
