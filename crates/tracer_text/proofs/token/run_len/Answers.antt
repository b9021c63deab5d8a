use Rattle.std.proofs.Common.{sym, arith}
use Rattle.std.proofs.lemmas.List.Sums.{prefix_len_is}
use Rattle.tracer_text.specs.Tokens.{is_run_byte}
use Rattle.tracer_text.proofs.token.run_len.Goals as goal

pub returns-then-not-is_run_byte : goal.returns-then-not-is_run_byte
returns-then-not-is_run_byte c = sym (prefix_len_is is_run_byte c.args.bytes.now c.loop-i.i 0 (omega arith) c.loop-i.invariant (λ lt. sym (c.if-not-is_run_byte.ensures)))

pub returns : goal.returns
returns c = sym (prefix_len_is is_run_byte c.args.bytes.now _ 0 (omega arith) (λ k lt. c.loop-i.invariant k (omega arith)) (λ lt. absurd (omega arith)))
