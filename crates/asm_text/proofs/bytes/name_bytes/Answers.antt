use Rattle.std.proofs.Common.{sym, arith}
use Rattle.std.proofs.lemmas.List.Sums.{prefix_len_is}
use Rattle.asm_text.specs.Bytes.{is_name_byte}
use Rattle.asm_text.proofs.bytes.name_bytes.Goals as goal

pub returns-then-not-is_name_byte : goal.returns-then-not-is_name_byte
returns-then-not-is_name_byte c = sym (prefix_len_is is_name_byte c.args.bytes.now c.loop-i.i 0 (omega arith) c.loop-i.invariant (λ lt. sym (c.if-not-is_name_byte.ensures)))

pub returns : goal.returns
returns c = sym (prefix_len_is is_name_byte c.args.bytes.now _ 0 (omega arith) (λ k lt. c.loop-i.invariant k (omega arith)) (λ lt. absurd (omega arith)))
