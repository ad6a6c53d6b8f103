use Rattle.std.proofs.Common.{◌≡◌, ◌/◌, refl, arith}
use Rattle.elf_make.specs.Generated.{hex_digits}
use Rattle.elf_make.proofs.values.hex.Goals as goal

pub returns : goal.returns
unfolding hex_digits
returns c = let whole : c.args.number / 1 ≡ c.args.number = omega arith in rw (c.hex_digit.ensures, c.hex_digit-2.ensures, c.hex_digit-3.ensures, c.hex_digit-4.ensures, c.hex_digit-5.ensures, c.hex_digit-6.ensures, c.hex_digit-7.ensures, c.hex_digit-8.ensures, whole) refl
