use Rattle.std.proofs.Common.{◌≡◌, ◌<◌, ◌^◌, drop}
use Rattle.std.specs.Str.Parse.{AllDigits, digits_value, digits_value_after}
use Rattle.lg_audit.proofs.numeral.digits_of.Given as goal

-- what is left decides whether all are digits, and goes on with the number so far
abbrev pub invariant-loop-byte : goal.invariant-loop-byte
invariant-loop-byte l = record {
  value : digits_value_after 10 l.number (drop l.byte-index l.text) ≡ digits_value 10 l.text;
  digits : AllDigits 10 (drop l.byte-index l.text) → AllDigits 10 l.text;
  rest : AllDigits 10 l.text → AllDigits 10 (drop l.byte-index l.text);
  fits : l.number < 2 ^ 64;
}
