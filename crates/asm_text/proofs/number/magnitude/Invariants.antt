use Rattle.std.proofs.Common.{◌≡◌, ◌≤◌, ◌^◌, min, drop}
use Rattle.std.specs.Option.{option_map}
use Rattle.asm_text.specs.Numbers.{too_great, digits_from}
use Rattle.asm_text.proofs.number.magnitude.Given as goal

-- the digits so far, and with those that are left they stand for the number of all
abbrev pub invariant-loop-digit : goal.invariant-loop-digit
invariant-loop-digit l = record {
  capped : l.value ≤ 2 ^ 32;
  left : option_map (min too_great) (digits_from l.base l.value (drop l.digit-index l.digits))
      ≡ option_map (min too_great) (digits_from l.base 0 l.digits);
}
