use Rattle.std.proofs.Common.{◌<◌, List, Some, None, ℕ, drop, arith, subst}
use Rattle.memchr.specs.Find.{IsFirstByte, is_byte}
use Rattle.elf_image.proofs.Names.{name_past, name_unended, name_empty, name_is}
use Rattle.elf_image.proofs.symbols.name_at.Goals as goal

pub returns-then-start-strings : goal.returns-then-start-strings
returns-then-start-strings c = name_past c.args.strings.now c.args.offset c.if-start-strings.true

pub returns-in_err-len : goal.returns-in_err-len
returns-in_err-len c =
    let first = subst (λ (rest : List ℕ). IsFirstByte (is_byte 0) rest None) c.split_at.ensures.back c.in_err-len.ensures in
    rw c.from_residual.ensures (name_unended c.args.strings.now c.args.offset first)

pub returns-then-len-eq0 : goal.returns-then-len-eq0
returns-then-len-eq0 c =
    let first = subst (λ (rest : List ℕ). IsFirstByte (is_byte 0) rest (Some c.in_ok-len.len)) c.split_at.ensures.back c.in_ok-len.ensures in
    let empty = subst (λ (n : ℕ). IsFirstByte (is_byte 0) (drop c.args.offset c.args.strings.now) (Some n)) c.if-len-eq0.true first in
    name_empty c.args.strings.now c.args.offset empty

pub returns : goal.returns
returns c =
    let first = subst (λ (rest : List ℕ). IsFirstByte (is_byte 0) rest (Some c.in_ok-len.len)) c.split_at.ensures.back c.in_ok-len.ensures in
    let some : 0 < c.in_ok-len.len = omega (arith, c.if-len-eq0.false) in
    rw c.split_at.ensures.back (name_is c.args.strings.now c.args.offset c.in_ok-len.len first some)
