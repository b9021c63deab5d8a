use Rattle.std.proofs.Common.{ℕ, ◌<◌, ◌≤◌, ◌^◌, arith}
use Rattle.std.proofs.Math.Nat.{pow-le-pow_right}
use Rattle.tracer_read.proofs.numbers.digits_value.Goals as goal

-- a number of at most nine digits
nine_digits : (n i : ℕ) → n < 10 ^ i → i < 10 → n < 10 ^ 9
nine_digits n i fits few =
    let i-few : i ≤ 9 = omega arith in
    let below : 10 ^ i ≤ 10 ^ 9 = pow-le-pow_right {n = 10} (omega arith) i-few in
    omega arith

pub overflow_mul-value : goal.overflow_mul-value
overflow_mul-value c =
    let below = nine_digits c.loop-digit.value c.loop-digit.digit-index c.loop-digit.invariant.fits
    (omega arith) in
    omega arith

pub overflow_add-value : goal.overflow_add-value
overflow_add-value c =
    let below = nine_digits c.loop-digit.value c.loop-digit.digit-index c.loop-digit.invariant.fits
    (omega arith) in
    omega (arith, c.in_ok-to_digit.ensures.value, c.from.ensures)
