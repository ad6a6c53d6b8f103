use Rattle.std.proofs.Common.{w64, arith}
use Rattle.std.proofs.lemmas.Nat.Bits.{bit_at_set_same}
use Rattle.entry_scan.proofs.MarkLaws.{stays_set}
use Rattle.entry_scan.proofs.marks.AttributeBits.with.Goals as goal

pub returns-clause-one : goal.returns-clause-one
returns-clause-one c = bit_at_set_same w64 c.args.self.bits _ (omega arith)

pub returns-clause-others : goal.returns-clause-others
returns-clause-others c = λ other set. stays_set c.args.self.bits _ _ set
