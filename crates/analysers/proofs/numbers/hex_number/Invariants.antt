use Rattle.std.proofs.Common.{◌≡◌, ◌<◌, ◌^◌, drop}
use Rattle.analysers.specs.Numbers.{hex_from}
use Rattle.analysers.proofs.numbers.hex_number.Given as goal

-- the digits so far fit, and with those that are left they stand for the number of all
abbrev pub invariant-loop-digit : goal.invariant-loop-digit
invariant-loop-digit l = record {
  fits : l.value < 16 ^ l.digit-index;
  left : hex_from l.value (drop l.digit-index l.digits) ≡ hex_from 0 l.digits;
}
