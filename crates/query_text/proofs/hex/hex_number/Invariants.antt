use Rattle.std.proofs.Common.{◌≡◌, ◌^◌, ◌<◌, drop}
use Rattle.std.specs.List.{list_all}
use Rattle.index_model.specs.Queries.{is_hex_digit}
use Rattle.query_text.proofs.HexLaws.{onwards}
use Rattle.query_text.proofs.hex.hex_number.Given as goal

-- the digits that are left go on from the value to the number of all
abbrev pub invariant-loop-byte : goal.invariant-loop-byte
invariant-loop-byte l = record {
  value : onwards l.value (drop l.byte-index l.text) ≡ onwards 0 l.text;
  digits : list_all is_hex_digit (drop l.byte-index l.text) ≡ list_all is_hex_digit l.text;
  fits : l.value < 16 ^ l.byte-index;
}
