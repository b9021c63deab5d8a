use Rattle.std.proofs.Common.{◌==◌, not, arith}
use Rattle.std.proofs.lemmas.List.Sums.{prefix_len-le-length}
use Rattle.tracer_text.specs.Tokens.{is_run_byte}
use Rattle.tracer_text.proofs.token.more_of.Goals as goal

pub returns-then-byte-eq59-clause-within : goal.returns-then-byte-eq59-clause-within
returns-then-byte-eq59-clause-within c = omega (arith, c.comment_len.ensures, prefix_len-le-length (λ b. not (b == 10)) c.args.after.now)

pub returns-then-is_run_byte-clause-within : goal.returns-then-is_run_byte-clause-within
returns-then-is_run_byte-clause-within c = omega (arith, c.run_len.ensures, prefix_len-le-length is_run_byte c.args.after.now)
