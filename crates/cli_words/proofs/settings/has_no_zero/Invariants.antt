use Rattle.std.proofs.Common.{◌≡◌, drop}
use Rattle.cli_words.specs.Orders.{has_no_zero}
use Rattle.cli_words.proofs.settings.has_no_zero.Given as goal

-- the bytes that are left decide
abbrev pub invariant-loop-byte : goal.invariant-loop-byte
invariant-loop-byte l = has_no_zero (drop l.byte-index l.text) ≡ has_no_zero l.text
