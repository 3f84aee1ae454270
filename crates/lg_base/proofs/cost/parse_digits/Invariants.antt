use Rattle.std.proofs.Common.{◌≡◌, ◌<◌, ◌^◌, drop}
use Rattle.std.specs.Str.Parse.{AllDigits, digits_value, digits_value_after}
use Rattle.lg_base.proofs.cost.parse_digits.Given as goal

-- what is left decides whether all are digits, and goes on with the value so far
abbrev pub invariant-loop-byte : goal.invariant-loop-byte
invariant-loop-byte l = record {
  value : digits_value_after 10 l.value (drop l.byte-index l.bytes) ≡ digits_value 10 l.bytes;
  digits : AllDigits 10 (drop l.byte-index l.bytes) → AllDigits 10 l.bytes;
  rest : AllDigits 10 l.bytes → AllDigits 10 (drop l.byte-index l.bytes);
  bound : l.value < 10 ^ l.byte-index;
}
