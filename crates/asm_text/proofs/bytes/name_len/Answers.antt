use Rattle.std.proofs.Common.{arith}
use Rattle.std.proofs.lemmas.List.Sums.{prefix_len-le-length}
use Rattle.asm_text.specs.Bytes.{is_name_byte}
use Rattle.asm_text.proofs.bytes.name_len.Goals as goal

pub returns-in-len1-up-clause-within : goal.returns-in-len1-up-clause-within
returns-in-len1-up-clause-within c = omega (arith, c.name_bytes.ensures, prefix_len-le-length is_name_byte c.args.bytes.now)
