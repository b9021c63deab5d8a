use Rattle.std.proofs.Common.{◌≡◌, ℕ, ◌<◌, ◌≤◌, true, length, get_or}
use Rattle.asm_text.specs.Bytes.{is_blank}
use Rattle.asm_text.proofs.bytes.without_end_blanks.Given as goal

abbrev pub invariant-loop-len : goal.invariant-loop-len
invariant-loop-len l = record {
  within : l.len ≤ length l.bytes;
  blank : (k : ℕ) → l.len ≤ k → k < length l.bytes → is_blank (get_or l.bytes k 0) ≡ true;
}

abbrev pub decreases-loop-len : goal.decreases-loop-len
decreases-loop-len l = l.len
