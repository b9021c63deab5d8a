use Rattle.std.proofs.Common.{◌≡◌, ◌<◌, ◌^◌, drop}
use Rattle.analysers.specs.Numbers.{decimal_from}
use Rattle.analysers.proofs.numbers.number.Given as goal

-- the digits so far fit, and with those that are left they stand for the number of all
abbrev pub invariant-loop-digit : goal.invariant-loop-digit
invariant-loop-digit l = record {
  fits : l.value < 10 ^ l.digit-index;
  left : decimal_from l.value (drop l.digit-index l.digits) ≡ decimal_from 0 l.digits;
}
