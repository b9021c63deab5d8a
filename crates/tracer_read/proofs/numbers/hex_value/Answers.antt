use Rattle.std.proofs.Common.{ℕ, ◌<◌, ◌≤◌, ◌^◌, arith}
use Rattle.std.proofs.Math.Nat.{pow-le-pow_right}
use Rattle.tracer_read.proofs.numbers.hex_value.Goals as goal

-- a number of at most seven digits
seven_digits : (n i : ℕ) → n < 16 ^ i → i < 8 → n < 16 ^ 7
seven_digits n i fits few =
    let i-few : i ≤ 7 = omega arith in
    let below : 16 ^ i ≤ 16 ^ 7 = pow-le-pow_right {n = 16} (omega arith) i-few in
    omega arith

pub overflow_mul-value : goal.overflow_mul-value
overflow_mul-value c =
    let below = seven_digits c.loop-digit.value c.loop-digit.digit-index c.loop-digit.invariant.fits
    (omega arith) in
    omega arith

pub overflow_add-value : goal.overflow_add-value
overflow_add-value c =
    let below = seven_digits c.loop-digit.value c.loop-digit.digit-index c.loop-digit.invariant.fits
    (omega arith) in
    omega (arith, c.in_ok-value.ensures.value)
