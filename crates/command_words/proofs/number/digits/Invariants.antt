use Rattle.std.proofs.Common.{◌≡◌, ◌+◌, ◌-◌, ◌*◌, ◌^◌, ◌<◌, drop}
use Rattle.std.specs.Prelude.{fold}
use Rattle.std.specs.List.{list_all}
use Rattle.std.specs.Char.{is_ascii_digit}
use Rattle.command_words.specs.Numbers.{decimal_value}
use Rattle.command_words.proofs.number.digits.Given as goal

-- the digits that are left go on from the value to the number of all
abbrev pub invariant-loop-byte : goal.invariant-loop-byte
invariant-loop-byte l = record {
  value : fold (λ n b. n * 10 + (b - 48)) l.value (drop l.byte-index l.text) ≡ decimal_value l.text;
  digits : list_all is_ascii_digit (drop l.byte-index l.text) ≡ list_all is_ascii_digit l.text;
  fits : l.value < 2 ^ 32;
}
