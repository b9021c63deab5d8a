use Rattle.std.proofs.Common.{◌≡◌, ℕ, ◌<◌, true, get_or}
use Rattle.tracer_text.specs.Tokens.{is_run_byte}
use Rattle.tracer_text.proofs.token.run_len.Given as goal

abbrev pub invariant-loop-i : goal.invariant-loop-i
invariant-loop-i l = (k : ℕ) → k < l.i → is_run_byte (get_or l.bytes k 0) ≡ true
