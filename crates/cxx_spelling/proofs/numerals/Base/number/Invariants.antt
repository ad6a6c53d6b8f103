use Rattle.std.proofs.Common.{◌≡◌, ◌+◌, ◌*◌, ◌^◌, ◌<◌, drop, nat_lt}
use Rattle.std.specs.Prelude.{fold}
use Rattle.std.specs.Char.{digit_value}
use Rattle.std.specs.List.{list_all}
use Rattle.cxx_spelling.specs.Numerals.{value_of}
use Rattle.cxx_spelling.proofs.numerals.Base.number.Given as goal

-- the digits that are left go on from the value to the number of all
abbrev pub invariant-loop-b : goal.invariant-loop-b
invariant-loop-b l = record {
  value : fold (λ n b. n * l.radix + digit_value b) l.value (drop l.b-index l.digits) ≡ value_of l.radix l.digits;
  digits : list_all (λ b. nat_lt (digit_value b) l.radix) (drop l.b-index l.digits) ≡ list_all (λ b. nat_lt (digit_value b) l.radix) l.digits;
  fits : l.value < 2 ^ 64;
}
