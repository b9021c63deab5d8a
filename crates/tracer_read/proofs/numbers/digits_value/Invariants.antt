use Rattle.std.proofs.Common.{◌≡◌, ◌<◌, ◌^◌, drop}
use Rattle.tracer_read.specs.Numbers.{number_from}
use Rattle.tracer_read.proofs.numbers.digits_value.Given as goal

-- the digits so far fit, and with those that are left they stand for the number of all
abbrev pub invariant-loop-digit : goal.invariant-loop-digit
invariant-loop-digit l = record {
  fits : l.value < 10 ^ l.digit-index;
  left : number_from 10 l.value (drop l.digit-index l.digits) ≡ number_from 10 0 l.digits;
}
