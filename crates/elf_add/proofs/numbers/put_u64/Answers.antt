use Rattle.std.proofs.Common.{arith}
use Rattle.elf_add.proofs.Puts.{written}
use Rattle.elf_add.proofs.numbers.put_u64.Goals as goal

pub returns : goal.returns
returns c = written 8 c.args.place c.args.number c.args.bytes.now c.write_u64.new.buf (omega arith) c.write_u64.ensures
