use Rattle.std.proofs.Common.{◌≡◌, ℕ, ◌∙◌, sym, arith}
use Rattle.asm_text.proofs.Digits.{read_digit}
use Rattle.asm_text.proofs.number.magnitude.Goals as goal

pub loop-digit-preserved : goal.loop-digit-preserved
loop-digit-preserved c = record {
  capped = omega (arith, c.min-value.ensures);
  left = read_digit c.args.base c.loop-digit.value c.in_ok-digit.digit _ c.args.digits.now c.loop-digit.digit-index (omega arith) (omega arith) (sym c.in_ok-digit.ensures.value.1) (omega (arith, c.in_ok-digit.ensures.value.0, c.in_ok-digit.ensures.value.1)) (cc)
      ∙ c.loop-digit.invariant.left;
}
